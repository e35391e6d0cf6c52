use Rattle.std.proofs.Common.{◌≡◌}
use Rattle.permutation.specs.Minalpher.{rounds_back}
use Rattle.permutation.specs.Views.{state_view}
use Rattle.permutation.proofs.state.State.rounds_back.Given as goal

abbrev pub invariant-loop-k : goal.invariant-loop-k
invariant-loop-k g l =
    rounds_back l.k (state_view g.W.Row.nibbles l.state) ≡ rounds_back l.count (state_view g.W.Row.nibbles l.initial.state)
