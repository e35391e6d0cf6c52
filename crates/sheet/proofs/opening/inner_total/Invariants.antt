use Rattle.std.proofs.Common.{◌≡◌, ◌*◌}
use Rattle.modes.specs.Masks.{times, step}
use Rattle.modes.specs.Sums.{xor_to}
use Rattle.sheet.specs.Holding.{block_adds}
use Rattle.sheet.proofs.opening.inner_total.Given as goal

abbrev pub invariant-loop-k : goal.invariant-loop-k
invariant-loop-k g l =
    (l.mask.bytes ≡ times (2 * l.k) step l.initial.mask.bytes)
    × (l.sum ≡ xor_to (block_adds g.K.Permutation.forth l.initial.mask.bytes (g.R.ReadBlocks.list l.h)) l.k)
