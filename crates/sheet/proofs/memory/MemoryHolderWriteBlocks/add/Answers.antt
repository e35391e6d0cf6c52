use Rattle.std.proofs.Common.{rules}
use Rattle.sheet.proofs.Chunking.{length_held, held_add, room_kept}
use Rattle.sheet.proofs.memory.MemoryHolderWriteBlocks.add.Goals as goal

pub returns : goal.returns
returns c =
    let n = length_held c.args.self.now.count c.args.self.now.bytes.now in
    search (rules, held_add, room_kept)
