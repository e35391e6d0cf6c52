use Rattle.std.proofs.Common.{◌≡◌}
use Rattle.modes.specs.Masks.{times, step}
use Rattle.modes.specs.Sums.{link, xor_to}
use Rattle.modes.proofs.sums.chained.Given as goal

abbrev pub invariant-loop-block : goal.invariant-loop-block
invariant-loop-block g l =
    (l.mask.bytes ≡ times l.block-index step l.initial.mask.bytes)
    × (l.sum ≡ xor_to (link g.K.Permutation.forth l.initial.mask.bytes l.text) l.block-index)
