use Rattle.std.proofs.Common.{refl, rules}
use Rattle.sheet.proofs.Chunking.{held_drop}
use Rattle.sheet.proofs.memory.MemoryHolderWriteBlocks.drop_last.Goals as goal

pub returns : goal.returns
returns c =
    let h = c.args.self.now in
    let dropped = held_drop h.count _ h.bytes.now c.count-count.ensures.value in
    record { value = search rules; after = dropped; same_room = refl; untouched = search rules; bytes = refl; tied = refl }
