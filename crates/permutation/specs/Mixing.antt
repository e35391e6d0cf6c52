-- The exclusive or of three rows: it is linear, and the mixing of four rows undoes itself.
use Rattle.std.specs.Prelude.{◌≡◌, ℕ, List, length}
use Rattle.std.proofs.Common.{sym, ap, ap₂, ◌∙◌}
use Rattle.permutation.specs.Blocks.{xors}
use Rattle.permutation.specs.BlockLaws.{length_xors, xors_comm, xors_assoc, xors_cancel, xors_swap}
use Rattle.permutation.specs.Minalpher.{xor3}

infixl 20 ◌⊞◌
abbrev ◌⊞◌ : List ℕ → List ℕ → List ℕ
x ⊞ y = xors 8 x y

pub xor3_swap : (a b c x y z : List ℕ) → xor3 (a ⊞ x) (b ⊞ y) (c ⊞ z) ≡ xor3 a b c ⊞ xor3 x y z
xor3_swap a b c x y z = ap (λ t. t ⊞ (c ⊞ z)) (xors_swap 8 a x b y) ∙ xors_swap 8 (a ⊞ b) (x ⊞ y) c z

turned : (x y z : List ℕ) → xor3 x y z ≡ xor3 y z x
turned x y z = xors_assoc 8 x y z ∙ xors_comm 8 x (y ⊞ z)

flipped : (x y z : List ℕ) → xor3 x y z ≡ xor3 x z y
flipped x y z = turned x y z ∙ ap (λ t. t ⊞ x) (xors_comm 8 y z) ∙ sym (turned x z y)

-- what two sums share is gone
shared : (u x y : List ℕ) → (u ⊞ x) ⊞ (u ⊞ y) ≡ x ⊞ y
shared u x y =
    xors_swap 8 u x u y ∙ xors_comm 8 (u ⊞ u) (x ⊞ y) ∙ sym (xors_assoc 8 (x ⊞ y) u u) ∙ xors_cancel 8 (x ⊞ y) u (length_xors 8 x y)

last : (a c d : List ℕ) → length a ≡ 8 → (d ⊞ c) ⊞ xor3 a c d ≡ a
last a c d l =
    xors_comm 8 (d ⊞ c) (xor3 a c d) ∙ ap (λ t. t ⊞ (d ⊞ c)) (xors_assoc 8 a c d ∙ ap (λ t. a ⊞ t) (xors_comm 8 c d))
    ∙ xors_cancel 8 a (d ⊞ c) l

-- the rows of a matrix that is mixed twice
module _ (a b c d : List ℕ) where
  pub mixed_0 : length a ≡ 8 → xor3 (xor3 a b d) (xor3 a b c) (xor3 a c d) ≡ a
  mixed_0 l = ap (λ t. t ⊞ xor3 a c d) (shared (a ⊞ b) d c) ∙ last a c d l

  pub mixed_1 : length b ≡ 8 → xor3 (xor3 a b d) (xor3 a b c) (xor3 b c d) ≡ b
  mixed_1 l = ap (λ t. t ⊞ xor3 b c d) (shared (a ⊞ b) d c) ∙ last b c d l

  pub mixed_2 : length c ≡ 8 → xor3 (xor3 a b c) (xor3 b c d) (xor3 a c d) ≡ c
  mixed_2 l =
      ap (λ t. t ⊞ xor3 b c d ⊞ xor3 a c d) (turned a b c) ∙ ap₂ ◌⊞◌ (shared (b ⊞ c) a d) (turned a c d) ∙ last c d a l

  pub mixed_3 : length d ≡ 8 → xor3 (xor3 a b d) (xor3 b c d) (xor3 a c d) ≡ d
  mixed_3 l =
      ap₂ (λ t u. t ⊞ u ⊞ xor3 a c d) (turned a b d) (flipped b c d)
      ∙ ap₂ ◌⊞◌ (shared (b ⊞ d) a c) (turned a c d ∙ ap (λ t. t ⊞ a) (xors_comm 8 c d))
      ∙ last d c a l
