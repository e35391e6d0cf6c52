use Rattle.std.proofs.Common.{rules}
use Rattle.modes.specs.Cipher.{masked}
use Rattle.modes.proofs.mask.Mask.encipher.Goals as goal

pub returns : goal.returns
unfolding masked
returns g c = search rules
