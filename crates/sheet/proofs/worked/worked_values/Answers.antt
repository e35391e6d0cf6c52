use Rattle.sheet.proofs.WorkedSheets.{worked}
use Rattle.sheet.proofs.worked.worked_values.Goals as goal

pub returns : goal.returns
returns c = record { stand = worked c.worked_values.ensures.stand; computed = c.worked_values.ensures.computed }
