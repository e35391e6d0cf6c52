use Rattle.std.proofs.Common.{rules}
use Rattle.modes.specs.Cipher.{base}
use Rattle.modes.proofs.mask.Mask.base.Goals as goal

pub returns : goal.returns
unfolding base
returns g c = search rules
