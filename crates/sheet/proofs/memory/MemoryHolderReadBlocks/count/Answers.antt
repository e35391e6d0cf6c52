use Rattle.std.proofs.Common.{arith}
use Rattle.sheet.proofs.Chunking.{length_held, chunks_sound}
use Rattle.sheet.proofs.memory.MemoryHolderReadBlocks.count.Goals as goal

pub returns : goal.returns
returns c =
    let h = c.args.self.now in
    record {
      value = omega (arith, length_held h.count h.bytes.now);
      bytes = chunks_sound _ h.bytes.now c.capacity.ensures.fit;
    }
