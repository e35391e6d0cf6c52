use Rattle.std.proofs.Common.{◌≡◌, ℕ, ◌-◌, ◌*◌, ◌/◌, ◌%◌, ◌^◌, ◌<◌, Bool, cond, eqb, ltb, refl, ap, ◌∙◌, arith, rules}
use lib.Bits.{bit_xor, xor_lt}
use Rattle.std.proofs.lemmas.Bool.{eqb-true}
use Rattle.permutation.specs.Minalpher.{row, constant_row}
use Rattle.permutation.specs.Packed.{bits, word_row}
use Rattle.permutation.specs.Tables.{all_below, at_each}
use Rattle.permutation.specs.Rows.{same_row}
use Rattle.permutation.proofs.words.WordRowRow.constant.Goals as goal

first_below : (k i : ℕ) → i < 4 → bit_xor (k % 16) i < 16
first_below k i h = xor_lt 4 (k % 16) i (omega arith) (omega arith)

-- the row with `first` in front, computed for each
abbrev right : ℕ → ℕ → Bool
right e j = eqb (bit_xor (0x1111_0000 * e) 0x0123_0000 / 2 ^ (28 - 4 * j) % 16) (cond (ltb j 4) (bit_xor e j) 0)

written : (e : ℕ) → e < 16 → word_row (bit_xor (0x1111_0000 * e) 0x0123_0000) ≡ row (λ j. cond (ltb j 4) (bit_xor e j) 0)
unfolding bits
written e h =
    same_row (λ j. bits 4 (bit_xor (0x1111_0000 * e) 0x0123_0000) (28 - 4 * j)) (λ j. cond (ltb j 4) (bit_xor e j) 0)
    (λ j l. eqb-true _ _ (at_each (right e) 8 (at_each (λ e. all_below (right e) 8) 16 refl e h) j l))

pub overflow_mul-result : goal.overflow_mul-result
overflow_mul-result c = let small = first_below c.args.k c.from.result (omega arith) in search rules

pub returns : goal.returns
returns c =
    let i = c.from.result in
    written (bit_xor (c.args.k % 16) i) (first_below c.args.k i (omega arith)) ∙ ap (constant_row c.args.k) c.from.ensures
