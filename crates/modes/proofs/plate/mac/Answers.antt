use Rattle.std.proofs.Common.{rules}
use Rattle.modes.specs.Sums.{plate_mac}
use Rattle.modes.proofs.plate.mac.Goals as goal

pub returns : goal.returns
unfolding plate_mac
returns g c = search rules
