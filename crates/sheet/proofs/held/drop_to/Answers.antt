use Rattle.std.proofs.Common.{◌≡◌, ℕ, ◌+◌, ◌-◌, ◌<◌, ◌≤◌, cond, List, length, take, is_ok, Ok, Result, sym, refl, ap, ◌∙◌, arith}
use Rattle.std.proofs.lemmas.List.{take_all, take-take, length-take}
use Rattle.std.proofs.lemmas.Bool.{cond-false, ne_eqb}
use Rattle.modes.specs.declared.refusal.Refusal.{Refusal}
use Rattle.sheet.specs.Holders.{drop_answer, without_last}
use Rattle.sheet.proofs.held.drop_to.Goals as goal

-- of a front of the list that is not empty, the last is dropped
one_less : (bs now after : List (List ℕ)) (j i : ℕ) (r : Result (Unit {0}) Refusal) → now ≡ take j bs → 0 < j → j ≤ length bs → i ≡ j - 1
    → r ≡ drop_answer now → after ≡ cond (is_ok r) (without_last now) now → after ≡ take i bs
one_less bs now after j i r is some within less says left =
    let long : length now ≡ j = ap length is ∙ (length-take j bs ∙ omega arith) in
    let ok : r ≡ Ok tt = says ∙ cond-false _ _ _ (ne_eqb (length now) 0 (λ e. omega arith)) in
    let place : length now - 1 ≡ i = omega arith in
    left ∙ ap (λ x. cond (is_ok x) (without_last now) now) ok
    ∙ ap (λ n. take n now) place ∙ ap (take i) is ∙ take-take i j bs (omega arith)

pub loop-k-init : goal.loop-k-init
loop-k-init g c =
    let bs = g.H.ReadBlocks.list c.args.h.now in
    let e : length bs ≤ length bs + c.args.count - c.args.count = omega arith in
    (sym (take_all (length bs + c.args.count - c.args.count) bs e), refl)

pub loop-k-preserved : goal.loop-k-preserved
loop-k-preserved g c =
    let bs = g.H.ReadBlocks.list c.args.h.now in
    let all = c.count-k-end.ensures.value in
    let low = c.loop-k.auto._k in
    let e = c.drop_last.ensures in (
      one_less bs (g.H.ReadBlocks.list c.loop-k.h) _ (length bs + c.args.count - c.loop-k._k) _ c.drop_last.result
          c.loop-k.invariant.0 (omega arith) (omega arith) (omega arith) e.value e.after,
      e.same_room ∙ c.loop-k.invariant.1,
    )

pub returns : goal.returns
returns g c =
    let bs = g.H.ReadBlocks.list c.args.h.now in
    let all = c.count-k-end.ensures.value in
    let within = c.requires in
    let high = c.loop-k.auto._k-end (omega arith) in
    let left : length bs + c.args.count - c.loop-k._k ≡ c.args.count = omega arith in
    record { after = c.loop-k.invariant.0 ∙ ap (λ m. take m bs) left; same_room = c.loop-k.invariant.1 }
