-- Laws of the exclusive or of lists, at every width.
use Rattle.std.specs.Prelude.{◌≡◌, ℕ, ◌^◌, ◌<◌, List, length, bit_xor, slice_index}
use Rattle.std.proofs.Common.{sym, ap, subst, ◌∙◌, arith}
use Rattle.std.proofs.lemmas.List.{ext_get_or}
use Rattle.std.proofs.lemmas.List.FromFn.{length-map-range_with_len, get_or-map-range_with_len}
use Rattle.std.specs.Int.Bits.{xor_assoc, xor_self, xor_zero_r}
use Rattle.std.proofs.lemmas.Nat.{xor_comm, xor_lt}
use Rattle.permutation.specs.Blocks.{Block, xors, ◌⊕◌}

-- lists of n entries that agree at each
pub same_entries : (n : ℕ) (x y : List ℕ) → length x ≡ n → length y ≡ n
    → ((i : ℕ) → i < n → slice_index x i ≡ slice_index y i) → x ≡ y
same_entries n x y hx hy f = ext_get_or 0 x y (hx ∙ sym hy) (λ i h. f i (subst (λ (m : ℕ). i < m) hx h))

module _ (n : ℕ) (x y : List ℕ) where
  pub length_xors : length (xors n x y) ≡ n
  unfolding xors
  length_xors = length-map-range_with_len (λ i. bit_xor (slice_index x i) (slice_index y i)) 0 n

  pub xors_at : (i : ℕ) → i < n → slice_index (xors n x y) i ≡ bit_xor (slice_index x i) (slice_index y i)
  unfolding xors
  xors_at i h = get_or-map-range_with_len (λ i. bit_xor (slice_index x i) (slice_index y i)) 0 n i i 0 h (omega arith)

-- what has the entries of an exclusive or is one
pub is_xors : (n : ℕ) (x y z : List ℕ) → length z ≡ n
    → ((i : ℕ) → i < n → slice_index z i ≡ bit_xor (slice_index x i) (slice_index y i)) → z ≡ xors n x y
is_xors n x y z hz f = same_entries n z (xors n x y) hz (length_xors n x y) (λ i h. f i h ∙ sym (xors_at n x y i h))

pub xors_comm : (n : ℕ) (x y : List ℕ) → xors n x y ≡ xors n y x
xors_comm n x y =
    is_xors n y x (xors n x y) (length_xors n x y)
    (λ i h. xors_at n x y i h ∙ xor_comm (slice_index x i) (slice_index y i))

pub xors_assoc : (n : ℕ) (x y z : List ℕ) → xors n (xors n x y) z ≡ xors n x (xors n y z)
xors_assoc n x y z =
    is_xors n x (xors n y z) (xors n (xors n x y) z) (length_xors n (xors n x y) z)
    (λ i h.
    xors_at n (xors n x y) z i h ∙ ap (λ b. bit_xor b (slice_index z i)) (xors_at n x y i h)
    ∙ xor_assoc (slice_index x i) (slice_index y i) (slice_index z i)
    ∙ ap (bit_xor (slice_index x i)) (sym (xors_at n y z i h)))

-- what is xored twice is gone
pub xors_cancel : (n : ℕ) (x y : List ℕ) → length x ≡ n → xors n (xors n x y) y ≡ x
xors_cancel n x y hx =
    same_entries n (xors n (xors n x y) y) x (length_xors n (xors n x y) y) hx
    (λ i h.
    xors_at n (xors n x y) y i h ∙ ap (λ b. bit_xor b (slice_index y i)) (xors_at n x y i h)
    ∙ xor_assoc (slice_index x i) (slice_index y i) (slice_index y i)
    ∙ ap (bit_xor (slice_index x i)) (xor_self (slice_index y i))
    ∙ xor_zero_r (slice_index x i))

pub xors_swap : (n : ℕ) (a b c d : List ℕ) → xors n (xors n a b) (xors n c d) ≡ xors n (xors n a c) (xors n b d)
xors_swap n a b c d =
    xors_assoc n a b (xors n c d)
    ∙ ap (xors n a) (sym (xors_assoc n b c d) ∙ ap (λ t. xors n t d) (xors_comm n b c) ∙ xors_assoc n c b d)
    ∙ sym (xors_assoc n a c (xors n b d))

-- entries below a power of two stay below it
pub xors_below : (k n : ℕ) (x y : List ℕ) → ((i : ℕ) → i < n → slice_index x i < 2 ^ k) → ((i : ℕ) → i < n → slice_index y i < 2 ^ k)
    → (i : ℕ) → i < n → slice_index (xors n x y) i < 2 ^ k
xors_below k n x y hx hy i h =
    subst (λ (b : ℕ). b < 2 ^ k) (sym (xors_at n x y i h)) (xor_lt k (slice_index x i) (slice_index y i) (hx i h) (hy i h))

pub xor_block : (x y : List ℕ) → Block x → Block y → Block (x ⊕ y)
xor_block x y hx hy = (length_xors 32 x y, xors_below 8 32 x y hx.1 hy.1)
