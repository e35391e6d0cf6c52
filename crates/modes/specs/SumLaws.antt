-- Laws of padded blocks and of their sums.
use Rattle.std.specs.Prelude.{◌≡◌, ℕ, zero, suc, ◌+◌, ◌-◌, ◌*◌, ◌<◌, ◌≤◌, List, [], ◌∷◌, ◌++◌, length, drop, slice_index, refl}
use Rattle.std.proofs.Common.{sym, ap, subst, ◌∙◌, add-one, arith}
use Rattle.std.proofs.lemmas.List.FromFn.{length-map-range_with_len, get_or-map-range_with_len}
use Rattle.std.proofs.lemmas.List.{drop-append-le, get_or-drop, get_or_append_left, get_or_at, get_or_past, get_or-replicate, length-append}
use Rattle.permutation.specs.Blocks.{Block, ◌⊕◌}
use Rattle.permutation.specs.BlockLaws.{same_entries, length_xors, xor_block}
use Rattle.modes.specs.Sums.{padded_at, block_at, xor_to}

-- byte i of a padded string: the string's, the mark, or a zero
pub padded_inside : (x : List ℕ) (i : ℕ) → i < length x → padded_at x i ≡ slice_index x i
padded_inside x i h = get_or_append_left x (0x80 ∷ []) 0 i h

pub padded_end : (x : List ℕ) (i : ℕ) → length x ≡ i → padded_at x i ≡ 0x80
padded_end x i h = get_or_at x 0x80 [] 0 i h

pub padded_past : (x : List ℕ) (i : ℕ) → length x < i → padded_at x i ≡ 0
padded_past x i h = get_or_past (x ++ 0x80 ∷ []) i 0 (simp length-append (omega arith))

pub length_block_at : (x : List ℕ) (k : ℕ) → length (block_at x k) ≡ 32
unfolding block_at
length_block_at x k = length-map-range_with_len (λ i. padded_at x (32 * (k - 1) + i)) 0 32

pub block_at_entry : (x : List ℕ) (k i : ℕ) → i < 32 → slice_index (block_at x k) i ≡ padded_at x (32 * (k - 1) + i)
unfolding block_at
block_at_entry x k i h = get_or-map-range_with_len (λ i. padded_at x (32 * (k - 1) + i)) 0 32 i i 0 h (omega arith)

-- the padding lies past the end, so a part from within to the end has the same
pub padded_at_drop : (x : List ℕ) (n i : ℕ) → n ≤ length x → padded_at (drop n x) i ≡ padded_at x (n + i)
padded_at_drop x n i h =
    ap (λ y. slice_index y i) (sym (drop-append-le n x (0x80 ∷ []) h)) ∙ get_or-drop n (x ++ 0x80 ∷ []) i 0

pub block_at_drop : (x : List ℕ) (k : ℕ) → 32 * k ≤ length x → block_at (drop (32 * k) x) 1 ≡ block_at x (k + 1)
block_at_drop x k h =
    same_entries 32 (block_at (drop (32 * k) x) 1) (block_at x (k + 1)) (length_block_at (drop (32 * k) x) 1) (length_block_at x (k + 1))
    (λ i l.
    let place : 32 * k + (32 * (1 - 1) + i) ≡ 32 * (k + 1 - 1) + i = omega arith in
    block_at_entry (drop (32 * k) x) 1 i l ∙ padded_at_drop x (32 * k) (32 * (1 - 1) + i) h
    ∙ ap (padded_at x) place ∙ sym (block_at_entry x (k + 1) i l))

pub xor_to_more : (f : ℕ → List ℕ) (n : ℕ) → xor_to f (n + 1) ≡ xor_to f n ⊕ f (n + 1)
unfolding xor_to
xor_to_more f n = ap (xor_to f) (add-one n) ∙ ap (λ m. xor_to f n ⊕ f m) (sym (add-one n))

-- the exclusive or of blocks is a block
pub xor_to_block : (f : ℕ → List ℕ) (n : ℕ) → ((k : ℕ) → 0 < k → k ≤ n → Block (f k)) → Block (xor_to f n)
unfolding xor_to
xor_to_block f zero h = (refl, λ i l. subst (λ (b : ℕ). b < 256) (sym (get_or-replicate 32 i 0 0 l)) (omega arith))
xor_to_block f (suc n) h = xor_block (xor_to f n) (f (suc n)) (xor_to_block f n (λ k p q. h k p (omega arith))) (h (suc n) (omega arith) (omega arith))

pub length_xor_to : (f : ℕ → List ℕ) (n : ℕ) → length (xor_to f n) ≡ 32
unfolding xor_to
length_xor_to f zero = refl
length_xor_to f (suc n) = length_xors 32 (xor_to f n) (f (suc n))

-- functions that agree from 1 to n have the same exclusive or
pub xor_to_same : (f g : ℕ → List ℕ) (n : ℕ) → ((k : ℕ) → 0 < k → k ≤ n → f k ≡ g k) → xor_to f n ≡ xor_to g n
unfolding xor_to
xor_to_same f g zero h = refl
xor_to_same f g (suc n) h =
    ap (λ s. s ⊕ f (suc n)) (xor_to_same f g n (λ k p q. h k p (omega arith)))
    ∙ ap (λ y. xor_to g n ⊕ y) (h (suc n) (omega arith) (omega arith))
