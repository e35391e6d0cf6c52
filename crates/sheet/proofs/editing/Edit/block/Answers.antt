use Rattle.std.proofs.Common.{◌+◌, ◌*◌, get_or, rules}
use Rattle.modes.proofs.FromFn.{made_by_index}
use Rattle.sheet.specs.Laying.{laid_byte, laid_block}
use Rattle.sheet.proofs.editing.Edit.block.Goals as goal

pub returns : goal.returns
unfolding laid_block
returns c =
    let e = c.args.self in
    made_by_index _ (λ j. laid_byte e.at e.bytes.now e.length (32 * c.args.i + j) (get_or c.args.plain j 0)) _ 32 (λ i y q l k. (search rules, search rules)) _ 0 c.from_fn.ensures.items
