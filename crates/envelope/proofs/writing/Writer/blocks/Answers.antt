use Rattle.std.proofs.Common.{arith, rules}
use Rattle.envelope.proofs.Blocks.{length_front}
use Rattle.envelope.proofs.Placing.{block_more}
use Rattle.envelope.proofs.writing.Writer.blocks.Goals as goal

pub bytes-requires : goal.bytes-requires
bytes-requires g c =
    let bs = g.R.ReadBlocks.list c.args.h.now in
    let front = length_front bs c.loop-k.k (g.R.ReadBlocks.bounded c.args.h.now).whole (omega arith) in
    omega (arith, c.requires)

pub loop-k-preserved : goal.loop-k-preserved
loop-k-preserved g c =
    block_more (g.R.ReadBlocks.list c.args.h.now) c.loop-k.k (omega (arith, c.requires)) (omega arith) c.loop-k.invariant c.bytes.ensures (search rules)
