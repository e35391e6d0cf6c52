use Rattle.std.proofs.Common.{◌≡◌, ℕ, ◌+◌, ◌*◌, ◌<◌, length, get_or}
use Rattle.modes.specs.Masks.{times, step}
use Rattle.sheet.specs.Holding.{opened_byte}
use Rattle.sheet.proofs.reading.copy_out.Given as goal

abbrev pub invariant-loop-k : goal.invariant-loop-k
invariant-loop-k g l =
    (l.mask.bytes ≡ times (2 * l.k) step l.initial.mask.bytes)
    × ((i : ℕ) → i < length l.initial.out → l.at + i < 32 * l.k
    → get_or l.out i 0 ≡ opened_byte g.K.Permutation.back l.initial.mask.bytes (g.R.ReadBlocks.list l.h) (l.at + i))
