use Rattle.std.proofs.Common.{◌≡◌, ℕ, ◌<◌, List, length, get_or, sym, subst, lit<, arith, rules}
use Rattle.std.proofs.lemmas.List.Elements.{All-from_get_or}
use Rattle.permutation.specs.Minalpher.{sub}
use Rattle.permutation.specs.Rows.{row_sub}
use Rattle.permutation.proofs.Mapped.{callable, map_row}
use Rattle.permutation.proofs.nibbles.NibbleRowRow.substituted.Goals as goal

pub map-requires : goal.map-requires
map-requires c =
    let cells = c.args.self.cells in
    let eight : length cells ≡ 8 = search rules in
    let small = All-from_get_or (λ n. n < 16) cells 0 (λ j h. c.args.self.ok j (omega arith)) in
    (lit< tt, (lit< tt, (lit< tt, callable (λ n. n < 16) cells _ small (λ q x l. search rules))))

pub invariant_of-result : goal.invariant_of-result
invariant_of-result c =
    let row = row_sub c.args.self.cells (record { eight = search rules; nibbles = c.args.self.ok }) in
    let same = map_row _ _ _ _ sub (λ x y q e. search rules) c.map.ensures.items in
    record { ok = λ j h. subst (λ (r : List ℕ). get_or r j 0 < 16) (sym same) (row.nibbles j h) }

pub returns : goal.returns
returns c = map_row _ _ _ _ sub (λ x y q e. search rules) c.map.ensures.items
