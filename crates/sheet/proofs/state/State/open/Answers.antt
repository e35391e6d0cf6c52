use Rattle.std.proofs.Common.{rules}
use Rattle.sheet.proofs.Ending.{end_ends}
use Rattle.sheet.proofs.state.State.open.Goals as goal

pub overflow_add-result : goal.overflow_add-result
overflow_add-result g c = let inside = (end_ends c.summed.result.plain c.in_ok-end.end (search rules)).inside in search rules
