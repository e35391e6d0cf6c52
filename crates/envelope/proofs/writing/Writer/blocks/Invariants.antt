use Rattle.std.proofs.Common.{take}
use Rattle.envelope.specs.Layouts.{joined}
use Rattle.envelope.specs.Writers.{Wrote}
use Rattle.envelope.proofs.writing.Writer.blocks.Given as goal

-- the blocks so far are written
abbrev pub invariant-loop-k : goal.invariant-loop-k
invariant-loop-k g l = Wrote l.initial.self l.self (joined (take l.k (g.R.ReadBlocks.list l.h)))
