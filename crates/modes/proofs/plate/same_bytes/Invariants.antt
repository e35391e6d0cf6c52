use Rattle.std.proofs.Common.{◌≡◌}
use Rattle.modes.proofs.Comparing.{Agree}
use Rattle.modes.proofs.plate.same_bytes.Given as goal

-- nothing was noted exactly where no byte so far differs
abbrev pub invariant-loop-i : goal.invariant-loop-i
invariant-loop-i g l =
    (l.differing ≡ 0 → Agree l.byte-items l.right l.i) × (Agree l.byte-items l.right l.i → l.differing ≡ 0)
