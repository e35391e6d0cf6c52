use Rattle.std.proofs.Common.{◌+◌, ◌<◌, ◌≤◌, length}
use Rattle.envelope.specs.declared.writing.Writer.{Writer}
use Rattle.envelope.specs.Numbers.{groups}
use Rattle.envelope.specs.Writers.{Wrote}
use Rattle.envelope.proofs.writing.Writer.number.Given as goal

-- Who writes the groups of the rest from here has written those of the whole number.
abbrev pub invariant-loop-rest : goal.invariant-loop-rest
invariant-loop-rest l = record {
  small : l.rest < 2097152;
  room : l.self.place + length (groups l.rest) ≤ length l.self.buffer.now;
  whole : (after : Writer) → Wrote l.self after (groups l.rest) → Wrote l.initial.self after (groups l.n);
}

abbrev pub decreases-loop-rest : goal.decreases-loop-rest
decreases-loop-rest l = l.rest
