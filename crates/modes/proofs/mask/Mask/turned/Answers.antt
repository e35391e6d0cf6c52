use Rattle.std.proofs.Common.{rules}
use Rattle.modes.specs.Masks.{turn}
use Rattle.modes.proofs.mask.Mask.turned.Goals as goal

pub returns : goal.returns
unfolding turn
returns c = search rules
