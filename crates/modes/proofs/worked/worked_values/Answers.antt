use Rattle.modes.proofs.WorkedValues.{worked}
use Rattle.modes.proofs.worked.worked_values.Goals as goal

pub returns-clause-stand : goal.returns-clause-stand
returns-clause-stand c = worked
