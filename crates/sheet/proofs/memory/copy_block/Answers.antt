use Rattle.std.proofs.Common.{rules}
use Rattle.sheet.proofs.Chunking.{length_held, held_get}
use Rattle.sheet.proofs.memory.copy_block.Goals as goal

pub returns-in_err-check_place-clause-value : goal.returns-in_err-check_place-clause-value
returns-in_err-check_place-clause-value c = let n = length_held c.args.count c.args.bytes.now in search rules

pub returns-clause-value : goal.returns-clause-value
returns-clause-value c = let n = length_held c.args.count c.args.bytes.now in search rules

pub returns-clause-copied : goal.returns-clause-copied
returns-clause-copied c =
    let n = length_held c.args.count c.args.bytes.now in
    let got = held_get c.args.count c.args.k c.args.bytes.now _ c.as_chunks.ensures.front (search rules) (search rules) in
    search rules
