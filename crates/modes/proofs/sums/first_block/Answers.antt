use Rattle.std.proofs.Common.{◌++◌, length, drop, set, replicate, ap, ◌∙◌}
use Rattle.modes.proofs.Padding.{whole_block, padded_block}
use Rattle.modes.proofs.sums.first_block.Goals as goal

pub returns-in-Some : goal.returns-in-Some
returns-in-Some c =
    let first = c.in-Some.ensures.cases in
    first.same ∙ whole_block c.args.text.now 0 first.enough

pub returns : goal.returns
returns c =
    let x = c.args.text.now in
    ap (λ y. set (y ++ drop (length x) (replicate 32 0)) (length x) 0x80) c.copy_from_slice.ensures.after ∙ padded_block x c.in_default.ensures.cases
