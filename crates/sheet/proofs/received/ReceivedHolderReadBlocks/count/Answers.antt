use Rattle.std.proofs.Common.{arith}
use Rattle.sheet.specs.ChunkLaws.{length_chunks}
use Rattle.sheet.specs.Chunks.{room_of}
use Rattle.sheet.proofs.Chunking.{chunks_sound}
use Rattle.sheet.proofs.received.ReceivedHolderReadBlocks.count.Goals as goal

pub returns : goal.returns
returns c =
    let bytes = c.args.self.now.bytes.now in
    record {
      value = omega (arith, length_chunks (room_of bytes) bytes);
      bytes = chunks_sound (room_of bytes) bytes c.capacity.ensures.fit;
    }
