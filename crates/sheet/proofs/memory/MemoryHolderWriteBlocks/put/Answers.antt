use Rattle.std.proofs.Common.{rules}
use Rattle.sheet.proofs.Chunking.{length_held, held_put, room_kept}
use Rattle.sheet.proofs.memory.MemoryHolderWriteBlocks.put.Goals as goal

pub overwrite-requires : goal.overwrite-requires
overwrite-requires c = let n = length_held c.args.self.now.count c.args.self.now.bytes.now in search rules

pub returns : goal.returns
returns c =
    let n = length_held c.args.self.now.count c.args.self.now.bytes.now in
    search (rules, held_put, room_kept)
