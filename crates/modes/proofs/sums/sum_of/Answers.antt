use Rattle.std.proofs.Common.{rules}
use Rattle.modes.specs.Sums.{label_sum}
use Rattle.modes.proofs.sums.sum_of.Goals as goal

pub returns-then-is_empty : goal.returns-then-is_empty
unfolding label_sum
returns-then-is_empty g c = search rules

pub returns : goal.returns
unfolding label_sum
returns g c = search rules
