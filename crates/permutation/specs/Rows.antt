-- Rows of eight nibbles, by their places.
use Rattle.std.specs.Prelude.{◌≡◌, ℕ, ◌%◌, ◌<◌, cond, List, length, bit_xor, nat_lt, slice_index, refl}
use Rattle.std.proofs.Common.{sym, ap, subst, ◌∙◌, arith, lit<}
use Rattle.std.proofs.lemmas.Nat.{xor_lt}
use Rattle.std.proofs.lemmas.List.FromFn.{get_or-map-range_with_len}
use Rattle.std.proofs.lemmas.Bool.{cond_both, ltb-true}
use Rattle.permutation.specs.BlockLaws.{same_entries, length_xors, xors_below}
use Rattle.permutation.specs.Minalpher.{row, sub, sub_row, picked, xor_row, zero_row, constant_row}
use Rattle.permutation.specs.Tables.{sub_below, sub_twice, Undoes}

pub record IsRow (x : List ℕ) : Type 0 where
  pub eight : length x ≡ 8
  pub nibbles : (j : ℕ) → j < 8 → slice_index x j < 16

pub row_at : (f : ℕ → ℕ) (j : ℕ) → j < 8 → slice_index (row f) j ≡ f j
row_at f j h = get_or-map-range_with_len f 0 8 j j 0 h (omega arith)

pub same_row : (f g : ℕ → ℕ) → ((j : ℕ) → j < 8 → f j ≡ g j) → row f ≡ row g
same_row f g e = same_entries 8 (row f) (row g) refl refl (λ j h. row_at f j h ∙ e j h ∙ sym (row_at g j h))

pub is_row : (f : ℕ → ℕ) → ((j : ℕ) → j < 8 → f j < 16) → IsRow (row f)
is_row f k = record { eight = refl; nibbles = λ j h. subst (λ (n : ℕ). n < 16) (sym (row_at f j h)) (k j h) }

pub row_sub : (x : List ℕ) → IsRow x → IsRow (sub_row x)
row_sub x r = is_row (λ j. sub (slice_index x j)) (λ j h. sub_below (slice_index x j) (r.nibbles j h))

pub row_xor : (x y : List ℕ) → IsRow x → IsRow y → IsRow (xor_row x y)
row_xor x y r s = record { eight = length_xors 8 x y; nibbles = xors_below 4 8 x y r.nibbles s.nibbles }

pub row_zero : IsRow zero_row
row_zero = is_row (λ j. 0) (λ j h. lit< tt)

-- the entries of a constant's row
pub constant_below : (k i j : ℕ) → i < 4 → cond (nat_lt j 4) (bit_xor (bit_xor (k % 16) i) j) 0 < 16
constant_below k i j h =
    cond_both (nat_lt j 4) (bit_xor (bit_xor (k % 16) i) j) 0 (λ n. n < 16)
    (λ t. xor_lt 4 (bit_xor (k % 16) i) j (xor_lt 4 (k % 16) i (omega arith) (omega arith)) (omega (arith, ltb-true j 4 t)))
    (λ t. lit< tt)

pub row_constant : (k i : ℕ) → i < 4 → IsRow (constant_row k i)
row_constant k i h = is_row (λ j. cond (nat_lt j 4) (bit_xor (bit_xor (k % 16) i) j) 0) (λ j l. constant_below k i j h)

-- two lists of places that undo each other
module _ (l l' : List ℕ) (u : Undoes l l') (x : List ℕ) (r : IsRow x) where
  pub row_picked : IsRow (picked l' (sub_row x))
  row_picked =
      let s = row_sub x r in
      is_row (λ j. slice_index (sub_row x) (slice_index l' j)) (λ j h. s.nibbles (slice_index l' j) (u.within j h))

  -- the S-box and l, and then the S-box and l': each nibble is where it was, and as it was
  pub picked_twice : picked l' (sub_row (picked l (sub_row x))) ≡ x
  picked_twice =
      same_entries 8 (picked l' (sub_row (picked l (sub_row x)))) x refl r.eight
      (λ j h.
      let place = u.within j h in
      row_at (λ j. slice_index (sub_row (picked l (sub_row x))) (slice_index l' j)) j h
      ∙ row_at (λ j. sub (slice_index (picked l (sub_row x)) j)) (slice_index l' j) place
      ∙ ap sub
      (row_at (λ j. slice_index (sub_row x) (slice_index l j)) (slice_index l' j) place
      ∙ ap (λ n. slice_index (sub_row x) n) (u.undone j h)
      ∙ row_at (λ j. sub (slice_index x j)) j h)
      ∙ sub_twice (slice_index x j) (r.nibbles j h))
