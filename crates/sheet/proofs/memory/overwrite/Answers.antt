use Rattle.std.proofs.Common.{arith}
use Rattle.sheet.proofs.Chunking.{overwritten_is}
use Rattle.sheet.proofs.memory.overwrite.Goals as goal

pub returns : goal.returns
returns c = overwritten_is c.args.i _ c.args.bytes.now _ _ (omega arith) c.copy_from_slice.ensures.after
