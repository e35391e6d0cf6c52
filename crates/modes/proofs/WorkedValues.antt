-- The worked values, computed.
use Rattle.std.proofs.Common.{refl}
use Rattle.permutation.specs.Blocks.{xors}
use Rattle.permutation.specs.Minalpher.{forward, rounds, round}
use Rattle.modes.specs.Masks.{step}
use Rattle.modes.specs.Worked.{WorkedValues}

pub worked : WorkedValues
unfolding step forward rounds round xors
worked = record { doubles_and_reduces = refl; reduces_alone = refl; steps_one = refl; zero_rounds = refl; one_round = refl }
