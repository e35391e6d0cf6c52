use Rattle.std.proofs.Common.{◌≡◌, sym, ap, ◌∙◌, refl, List, [], ◌∷◌, ◌-◌, ◌≤◌, length, take, drop, take_all, slice_index_or, codes, string_bytes, String, Global, rules, arith}
use Rattle.std.specs.List.{IsFirstAndRest}
use Rattle.vestmortar.specs.declared.kind.Kind.{Kind}
use Rattle.vestmortar.specs.Kinds.{kind_name, Chooses}
use Rattle.vestmortar.proofs.kind.chosen.Goals as goal

named_first : (ws : List (String Global)) (first name : String Global) (rest : List (String Global)) (kind : Kind)
    → 1 ≤ length ws → first ≡ slice_index_or ws 0 first → string_bytes first ≡ codes "--kind"
    → IsFirstAndRest (take (length ws - 1) (drop 1 ws)) name rest → string_bytes name ≡ kind_name kind → Chooses ws kind rest
named_first [] first name rest kind long is dashes split named = absurd (omega arith)
named_first (w ∷ ws) first name rest kind long is dashes split named =
    let tail : ws ≡ name ∷ rest = sym (take_all (length (w ∷ ws) - 1) ws (omega arith)) ∙ split.0 in
    rw tail ((λ _. (named, refl)), (λ no. absurd (no (ap string_bytes (sym is) ∙ dashes))))

pub returns-in-Ok : goal.returns-in-Ok
returns-in-Ok c =
    let name = c.in_ok-name-in-len1-up.name.now in
    let rest = c.in_ok-name-in-len1-up.rest.now in
    let dashes : string_bytes c.first-item.result ≡ codes "--kind" = search rules in
    let named : string_bytes name ≡ kind_name c.in-Ok.kind = sym c.as_str-in-len1-up.ensures.value ∙ c.in-Ok.ensures.value in
    named_first c.args.words.now c.first-item.result name rest c.in-Ok.kind c.in-len1-up.len_at_least c.first-item.is dashes
    (rw c.in_ok-name-in-len1-up.ensures.ok_part at c.split_first.ensures.cases) named
