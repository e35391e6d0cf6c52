use Rattle.std.proofs.Common.{◌≡◌, ◌-◌, ◌*◌}
use Rattle.modes.specs.Masks.{times, step}
use Rattle.sheet.specs.Laying.{Resealed}
use Rattle.sheet.proofs.editing.reseal.Given as goal

abbrev pub invariant-loop-i : goal.invariant-loop-i
invariant-loop-i g l =
    (l.mask.bytes ≡ times (2 * (l.i - l.from)) step l.initial.mask.bytes)
    × Resealed g.K.Permutation.forth g.K.Permutation.back l.initial.mask.bytes l.edit.at l.edit.bytes.now l.edit.length l.from l.i
    (g.H.ReadBlocks.list l.initial.h) (g.H.ReadBlocks.list l.h)
    × (g.H.ReadBlocks.room l.h ≡ g.H.ReadBlocks.room l.initial.h)
