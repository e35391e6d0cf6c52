use Rattle.std.proofs.Common.{◌≡◌}
use Rattle.modes.specs.Masks.{times, step, turn}
use Rattle.modes.proofs.mask.Mask.at.Given as goal

abbrev pub invariant-loop-k : goal.invariant-loop-k
invariant-loop-k l = l.m.bytes ≡ times l._k step l.initial.m.bytes

abbrev pub invariant-loop-k-2 : goal.invariant-loop-k-2
invariant-loop-k-2 l = l.m.bytes ≡ times l._k turn l.initial.m.bytes
