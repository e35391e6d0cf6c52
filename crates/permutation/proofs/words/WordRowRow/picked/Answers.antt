use Rattle.std.proofs.Common.{[], ◌∷◌, refl, rules}
use lib.Bits.{or_zero_r}
use Rattle.permutation.proofs.Places.{bits_or, bits_right, bits_left, bits_gone, mask_keeps, mask_clears, listed}
use Rattle.permutation.proofs.words.WordRowRow.picked.Goals as goal

-- in each, the list says where the nibbles of the rotated word go
pub returns-in-P1 : goal.returns-in-P1
returns-in-P1 c =
    simp (bits_or, mask_keeps, mask_clears, bits_right 4 4, bits_left 4 4, bits_gone 4 4, or_zero_r)
    (listed c.in-P1.is (0 ∷ 1 ∷ 3 ∷ 2 ∷ 4 ∷ 5 ∷ 6 ∷ 7 ∷ []) 8 c.args.self.word _ refl (search rules) c.rotate_right-w.ensures refl)

pub returns-in-Q1 : goal.returns-in-Q1
returns-in-Q1 c =
    simp (bits_or, mask_keeps, mask_clears, bits_right 4 4, bits_right 4 12, bits_left 4 8, bits_gone 4 8, or_zero_r)
    (listed c.in-Q1.is (0 ∷ 1 ∷ 4 ∷ 5 ∷ 3 ∷ 2 ∷ 6 ∷ 7 ∷ []) 16 c.args.self.word _ refl (search rules) c.rotate_right-w-in-Q1.ensures refl)

pub returns-in-P2 : goal.returns-in-P2
returns-in-P2 c =
    simp (bits_or, mask_keeps, mask_clears, bits_right 4 4, bits_left 4 4, bits_gone 4 4, or_zero_r)
    (listed c.in-P2.is (1 ∷ 0 ∷ 2 ∷ 3 ∷ 4 ∷ 5 ∷ 6 ∷ 7 ∷ []) 24 c.args.self.word _ refl (search rules) c.rotate_right-w-in-P2.ensures refl)

pub returns-in-Q2 : goal.returns-in-Q2
returns-in-Q2 c =
    simp (bits_or, mask_keeps, mask_clears, bits_right 4 20, bits_right 4 28, bits_left 4 24, bits_gone 4 24, or_zero_r)
    (listed c.in-Q2.is (6 ∷ 7 ∷ 2 ∷ 3 ∷ 4 ∷ 5 ∷ 1 ∷ 0 ∷ []) 16 c.args.self.word _ refl (search rules) c.rotate_right-w-in-Q2.ensures refl)
