-- The bits of a word from a place on: where the operations on words take them from.
-- A place is mostly a numeral, so what a law asks of it is a test, which computes.
use Rattle.std.proofs.Common.{◌≡◌, ℕ, ◌+◌, ◌-◌, ◌*◌, ◌/◌, ◌%◌, ◌^◌, ◌<◌, ◌≤◌, List, true, ◌&&◌, eqb, leb, sym, refl, ap, ◌∙◌, ap₂, ⊎_elim, mul_assoc, arith, pow-add, shr-shr}
use native.Mathlib.Nat.{mul-mod_left, zero-div, zero-mod}
use lib.Bits.{bit_and, bit_or, bit_xor, and_shr, and_mod, or_shr, or_mod, xor_shr, xor_mod, and_zero_r, or_zero_r, and_mask}
use lib.Pow.{shl-shr, field, mod-mod-pow}
use Rattle.std.proofs.lemmas.Nat.{mod_below, pow_pos}
use Rattle.std.proofs.lemmas.Bool.{and_parts, and_from, eqb-true, leb-true, le-leb, cases_lt}
use Rattle.permutation.specs.Minalpher.{row, picked, xor_row}
use Rattle.permutation.specs.Packed.{bits, word_row}
use Rattle.permutation.specs.Views.{list_of}
use Rattle.permutation.specs.declared.rows.IndexList.{IndexList}
use Rattle.permutation.specs.Rows.{row_at, same_row}
use Rattle.permutation.specs.BlockLaws.{is_xors}

pub bits_below : (n w k : ℕ) → bits n w k < 2 ^ n
unfolding bits
bits_below n w k = mod_below (w / 2 ^ k) (2 ^ n) (pow_pos n)

module _ (n a b k : ℕ) where
  pub bits_and : bits n (bit_and a b) k ≡ bit_and (bits n a k) (bits n b k)
  unfolding bits
  bits_and = ap (λ x. x % 2 ^ n) (and_shr a b k) ∙ and_mod (a / 2 ^ k) (b / 2 ^ k) n

  pub bits_or : bits n (bit_or a b) k ≡ bit_or (bits n a k) (bits n b k)
  unfolding bits
  bits_or = ap (λ x. x % 2 ^ n) (or_shr a b k) ∙ or_mod (a / 2 ^ k) (b / 2 ^ k) n

  pub bits_xor : bits n (bit_xor a b) k ≡ bit_xor (bits n a k) (bits n b k)
  unfolding bits
  bits_xor = ap (λ x. x % 2 ^ n) (xor_shr a b k) ∙ xor_mod (a / 2 ^ k) (b / 2 ^ k) n

-- a test from its two facts
pub both_within : (a b c d : ℕ) → a ≤ b → c ≤ d → (leb a b && leb c d) ≡ true
both_within a b c d h l = and_from (leb a b) (leb c d) (le-leb a b h) (le-leb c d l)

module _ (n s a k : ℕ) where
  pub bits_right : bits n (a / 2 ^ s) k ≡ bits n a (s + k)
  unfolding bits
  bits_right = ap (λ x. x % 2 ^ n) (shr-shr a s k)

  -- a word keeps the lowest 32 bits of what is shifted to the left
  kept : n + k ≤ 32 → bits n (a * 2 ^ s % 2 ^ 32) k ≡ bits n (a * 2 ^ s) k
  unfolding bits
  kept l =
      let rest = 32 - (n + k) in
      let whole : rest + n + k ≡ 32 = omega arith in
      ap (λ x. a * 2 ^ s % 2 ^ x / 2 ^ k % 2 ^ n) (sym whole)
      ∙ ap (λ x. x % 2 ^ n) (field (a * 2 ^ s) (rest + n) k)
      ∙ mod-mod-pow (a * 2 ^ s / 2 ^ k) rest n

  pub bits_left : (leb s k && leb (n + k) 32) ≡ true → bits n (a * 2 ^ s % 2 ^ 32) k ≡ bits n a (k - s)
  unfolding bits
  bits_left t =
      let both = and_parts (leb s k) (leb (n + k) 32) t in
      let h = leb-true s k both.0 in
      let back : s + (k - s) ≡ k = omega arith in
      kept (leb-true (n + k) 32 both.1)
      ∙ ap (λ x. x % 2 ^ n)
      (ap (λ x. a * 2 ^ s / 2 ^ x) (sym back) ∙ sym (shr-shr (a * 2 ^ s) s (k - s)) ∙ ap (λ x. x / 2 ^ (k - s)) (shl-shr a s))

  -- below the bits that are shifted there is nothing
  pub bits_gone : (leb (n + k) s && leb s 32) ≡ true → bits n (a * 2 ^ s % 2 ^ 32) k ≡ 0
  unfolding bits
  bits_gone t =
      let both = and_parts (leb (n + k) s) (leb s 32) t in
      let h = leb-true (n + k) s both.0 in
      let l = leb-true s 32 both.1 in
      let up = s - (n + k) in
      let split : up + n + k ≡ s = omega arith in
      let powers : a * 2 ^ s ≡ a * 2 ^ up * 2 ^ n * 2 ^ k =
      ap (λ x. a * 2 ^ x) (sym split)
      ∙ ap (λ x. a * x) (pow-add 2 (up + n) k ∙ ap (λ x. x * 2 ^ k) (pow-add 2 up n))
      ∙ sym (mul_assoc a (2 ^ up * 2 ^ n) (2 ^ k)) ∙ ap (λ x. x * 2 ^ k) (sym (mul_assoc a (2 ^ up) (2 ^ n))) in
      kept (omega arith)
      ∙ ap (λ x. x / 2 ^ k % 2 ^ n) powers
      ∙ ap (λ x. x % 2 ^ n) (shl-shr (a * 2 ^ up * 2 ^ n) k)
      ∙ mul-mod_left (a * 2 ^ up) (2 ^ n)

-- a word has no bits above its 32
pub bits_above : (n w k : ℕ) → w < 2 ^ 32 → leb 32 k ≡ true → bits n w k ≡ 0
unfolding bits
bits_above n w k h t =
    let l = leb-true 32 k t in
    let split : 32 + (k - 32) ≡ k = omega arith in
    let none : w / 2 ^ 32 ≡ 0 = omega arith in
    ap (λ x. w / 2 ^ x % 2 ^ n) (sym split)
    ∙ ap (λ x. x % 2 ^ n) (sym (shr-shr w 32 (k - 32)) ∙ ap (λ x. x / 2 ^ (k - 32)) none ∙ zero-div (2 ^ (k - 32)))
    ∙ zero-mod (2 ^ n)

-- a mask keeps a nibble, or clears it
module _ (w m k : ℕ) where
  pub mask_keeps : eqb (m / 2 ^ k % 16) 15 ≡ true → bits 4 (bit_and w m) k ≡ bits 4 w k
  unfolding bits
  mask_keeps t =
      bits_and 4 w m k ∙ ap (bit_and (w / 2 ^ k % 16)) (eqb-true (m / 2 ^ k % 16) 15 t)
      ∙ and_mask (w / 2 ^ k % 16) 4 ∙ omega arith

  pub mask_clears : eqb (m / 2 ^ k % 16) 0 ≡ true → bits 4 (bit_and w m) k ≡ 0
  unfolding bits
  mask_clears t = bits_and 4 w m k ∙ ap (bit_and (w / 2 ^ k % 16)) (eqb-true (m / 2 ^ k % 16) 0 t) ∙ and_zero_r (w / 2 ^ k % 16)

-- a rotation to the right takes each nibble from the place s bits above, round the word
rotated : (s w v : ℕ) → (eqb (s % 4) 0 && leb s 32) ≡ true → w < 2 ^ 32 → v ≡ bit_or (w / 2 ^ s) (w * 2 ^ (32 - s) % 2 ^ 32)
    → word_row v ≡ row (λ j. bits 4 w ((s + (28 - 4 * j)) % 32))
rotated s w v t h e =
    let both = and_parts (eqb (s % 4) 0) (leb s 32) t in
    let whole = eqb-true (s % 4) 0 both.0 in
    let within = leb-true s 32 both.1 in
    same_row (λ j. bits 4 v (28 - 4 * j)) (λ j. bits 4 w ((s + (28 - 4 * j)) % 32))
    (λ j l.
    let k = 28 - 4 * j in
    ap (λ x. bits 4 x k) e ∙ bits_or 4 (w / 2 ^ s) (w * 2 ^ (32 - s) % 2 ^ 32) k
    ∙ ⊎_elim
    (λ (low : s + k < 32).
    let at : s + k ≡ (s + k) % 32 = omega arith in
    ap₂ bit_or (bits_right 4 s w k) (bits_gone 4 (32 - s) w k (both_within (4 + k) (32 - s) (32 - s) 32 (omega arith) (omega arith)))
    ∙ or_zero_r (bits 4 w (s + k)) ∙ ap (bits 4 w) at)
    (λ (high : 32 ≤ s + k).
    let at : k - (32 - s) ≡ (s + k) % 32 = omega arith in
    ap₂ bit_or (bits_right 4 s w k ∙ bits_above 4 w (s + k) h (le-leb 32 (s + k) high))
    (bits_left 4 (32 - s) w k (both_within (32 - s) k (4 + k) 32 (omega arith) (omega arith)))
    ∙ ap (bits 4 w) at)
    (cases_lt (s + k) 32))

-- a list that picks from the rotated word picks what another picks from the word
pub listed : {l m : IndexList} → l ≡ m → (list : List ℕ) (s w v : ℕ) → (eqb (s % 4) 0 && leb s 32) ≡ true → w < 2 ^ 32
    → v ≡ bit_or (w / 2 ^ s) (w * 2 ^ (32 - s) % 2 ^ 32)
    → picked list (row (λ j. bits 4 w ((s + (28 - 4 * j)) % 32))) ≡ picked (list_of m) (word_row w)
    → picked list (word_row v) ≡ picked (list_of l) (word_row w)
listed is list s w v t h e same =
    ap (picked list) (rotated s w v t h e) ∙ same ∙ ap (λ l. picked (list_of l) (word_row w)) (sym is)

pub xor_words : (v w : ℕ) → word_row (bit_xor v w) ≡ xor_row (word_row v) (word_row w)
xor_words v w =
    is_xors 8 (word_row v) (word_row w) (word_row (bit_xor v w)) refl
    (λ j l.
    row_at (λ j. bits 4 (bit_xor v w) (28 - 4 * j)) j l ∙ bits_xor 4 v w (28 - 4 * j)
    ∙ ap₂ bit_xor (sym (row_at (λ j. bits 4 v (28 - 4 * j)) j l)) (sym (row_at (λ j. bits 4 w (28 - 4 * j)) j l)))
