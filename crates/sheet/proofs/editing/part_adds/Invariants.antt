use Rattle.std.proofs.Common.{◌≡◌, ◌-◌, ◌*◌}
use Rattle.modes.specs.Masks.{times, step}
use Rattle.sheet.specs.Laying.{part_total}
use Rattle.sheet.proofs.editing.part_adds.Given as goal

abbrev pub invariant-loop-k : goal.invariant-loop-k
invariant-loop-k g l =
    (l.mask.bytes ≡ times (2 * (l.k - l.from)) step l.initial.mask.bytes)
    × (l.sum ≡ part_total g.K.Permutation.forth l.initial.mask.bytes (g.R.ReadBlocks.list l.h) l.from (l.k - l.from))
