use Rattle.std.proofs.Common.{rules}
use Rattle.sheet.proofs.Ending.{end_of_zeros, end_at_last}
use Rattle.sheet.proofs.opening.end_of_text.Goals as goal

pub returns-in_err-end : goal.returns-in_err-end
returns-in_err-end c = let none = end_of_zeros c.args.block (λ j h. search rules) in search rules

pub returns : goal.returns
returns c =
    let last = end_at_last c.args.block c.in_ok-end.end (search rules) (search rules) (λ j a b. search rules) in
    search rules
