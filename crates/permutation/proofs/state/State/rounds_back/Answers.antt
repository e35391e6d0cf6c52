use Rattle.std.proofs.Common.{◌≡◌, suc, ◌-◌, ap, ◌∙◌, arith}
use Rattle.permutation.specs.Minalpher.{round, rounds_back}
use Rattle.permutation.specs.Views.{state_view}
use Rattle.permutation.proofs.state.State.rounds_back.Goals as goal

pub loop-k-preserved : goal.loop-k-preserved
unfolding rounds_back
loop-k-preserved g c =
    let k = c.loop-k.k in
    let s = state_view g.W.Row.nibbles c.loop-k.state in
    let next : suc (k - 1) ≡ k = omega arith in
    ap (rounds_back (k - 1)) (c.round-state.ensures ∙ ap (λ e. round e s) c.constant_back.ensures)
    ∙ ap (λ n. rounds_back n s) next ∙ c.loop-k.invariant
