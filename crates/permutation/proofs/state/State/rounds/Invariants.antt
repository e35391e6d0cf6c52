use Rattle.std.proofs.Common.{◌≡◌}
use Rattle.permutation.specs.Minalpher.{rounds}
use Rattle.permutation.specs.Views.{state_view}
use Rattle.permutation.proofs.state.State.rounds.Given as goal

abbrev pub invariant-loop-k : goal.invariant-loop-k
invariant-loop-k g l = state_view g.W.Row.nibbles l.state ≡ rounds l.k (state_view g.W.Row.nibbles l.initial.state)
