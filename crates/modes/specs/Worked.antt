-- Values worked by hand, as one fact about the definitions.
use Rattle.std.specs.Prelude.{◌≡◌, ℕ, List, [], ◌∷◌, ◌++◌, replicate}
use Rattle.permutation.specs.Minalpher.{forward}
use Rattle.modes.specs.Masks.{doubled, step}

abbrev pub zeros : ℕ → List ℕ
zeros n = replicate n 0

pub record WorkedValues : Type 0 where
  pub doubles_and_reduces : doubled 0xBB ≡ 0xD5
  pub reduces_alone : doubled 0x80 ≡ 0xA3
  pub steps_one : step (0x01 ∷ zeros 31) ≡ zeros 28 ++ 0x01 ∷ 0x01 ∷ 0x00 ∷ 0x02 ∷ []
  pub zero_rounds : forward 0 (zeros 32) ≡ replicate 32 0xBB
  pub one_round :
      forward 1 (zeros 32)
      ≡ 0x14 ∷ 0xBB ∷ 0xBB ∷ 0xB3 ∷ 0x14 ∷ 0xBB ∷ 0x3B ∷ 0xBB ∷ 0xBB ∷ 0x14 ∷ 0xB3 ∷ 0xBB ∷ 0xBB ∷ 0x14 ∷ 0xBB ∷ 0x3B ∷ zeros 16
