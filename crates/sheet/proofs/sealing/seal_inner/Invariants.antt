use Rattle.std.proofs.Common.{◌≡◌, ◌*◌, map}
use Rattle.std.specs.List.{range_with_len}
use Rattle.modes.specs.Masks.{times, step}
use Rattle.modes.specs.Sums.{xor_to}
use Rattle.sheet.specs.Ciphers.{sealed_block, sealed_adds}
use Rattle.sheet.proofs.sealing.seal_inner.Given as goal

abbrev pub invariant-loop-plain : goal.invariant-loop-plain
invariant-loop-plain g l =
    (l.mask.bytes ≡ times (2 * l.plain-index) step l.initial.mask.bytes)
    × (l.sum ≡ xor_to (sealed_adds g.K.Permutation.forth l.initial.mask.bytes l.text) l.plain-index)
    × (g.H.ReadBlocks.list l.h ≡ map (sealed_block g.K.Permutation.forth l.initial.mask.bytes l.text) (range_with_len 1 l.plain-index))
    × (g.H.ReadBlocks.room l.h ≡ g.H.ReadBlocks.room l.initial.h)
