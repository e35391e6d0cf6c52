use Rattle.std.proofs.Common.{arith}
use Rattle.sheet.specs.ChunkLaws.{length_chunks}
use Rattle.sheet.specs.Chunks.{room_of}
use Rattle.sheet.proofs.received.ReceivedHolderReadBlocks.limit.Goals as goal

pub returns : goal.returns
returns c = let bytes = c.args.self.now.bytes.now in omega (arith, length_chunks (room_of bytes) bytes)
