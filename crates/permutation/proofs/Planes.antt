-- S on all nibbles of a word at once: the lowest bits of the nibbles of a, b, c and d are the bits of a nibble.
use Rattle.std.proofs.Common.{◌≡◌, ℕ, ◌+◌, ◌-◌, ◌*◌, ◌/◌, ◌%◌, ◌^◌, ◌<◌, true, eqb, sym, refl, ap, ◌∙◌, mul-one, arith, lit<, pow-add, shr-shr}
use lib.Bits.{bit_and, bit_or, bit_xor, and_high}
use lib.Pow.{field, mod-mod-pow}
use Rattle.std.proofs.lemmas.Bool.{eqb-true}
use Rattle.permutation.specs.Minalpher.{sub, sub_row}
use Rattle.permutation.specs.Packed.{bits, word_row}
use Rattle.permutation.specs.Tables.{all_below, at_each}
use Rattle.permutation.specs.Rows.{same_row}
use Rattle.permutation.proofs.Places.{bits_below, both_within, bits_and, bits_or, bits_xor, bits_right, bits_left}

-- the bits of S: `one` is the complement's mask
module _ (one a b c d : ℕ) where
  abbrev f : ℕ
  f = bit_xor c (bit_and a b)

  abbrev s3 : ℕ
  s3 = bit_xor (bit_xor (bit_xor a b) (bit_or d f)) one

  abbrev g : ℕ
  g = bit_xor d s3

  abbrev h : ℕ
  h = bit_or a g

  abbrev s0 : ℕ
  s0 = bit_xor (bit_and f g) h

  abbrev s1 : ℕ
  s1 = bit_xor (bit_or c s3) (bit_and (bit_xor a b) h)

  abbrev s2 : ℕ
  s2 = bit_xor (bit_xor c h) (bit_or b s1)

-- the word of the code
abbrev word : ℕ → ℕ
word w =
    bit_or (bit_or (bit_or
    (bit_and (s0 0x1111_1111 w (w / 2) (w / 4) (w / 8)) 0x1111_1111)
    (bit_and (s1 0x1111_1111 w (w / 2) (w / 4) (w / 8) * 2 % 2 ^ 32) 0x2222_2222))
    (bit_and (s2 0x1111_1111 w (w / 2) (w / 4) (w / 8) * 4 % 2 ^ 32) 0x4444_4444))
    (bit_and (s3 0x1111_1111 w (w / 2) (w / 4) (w / 8) * 8 % 2 ^ 32) 0x8888_8888)

-- the same of a nibble, which is S
abbrev joined : ℕ → ℕ
joined n =
    bit_or (bit_or (bit_or
    (s0 1 (n % 2) (n / 2 % 2) (n / 4 % 2) (n / 8 % 2))
    (s1 1 (n % 2) (n / 2 % 2) (n / 4 % 2) (n / 8 % 2) * 2))
    (s2 1 (n % 2) (n / 2 % 2) (n / 4 % 2) (n / 8 % 2) * 4))
    (s3 1 (n % 2) (n / 2 % 2) (n / 4 % 2) (n / 8 % 2) * 8)

joined_is : (n : ℕ) → n < 16 → joined n ≡ sub n
joined_is n l = eqb-true (joined n) (sub n) (at_each (λ n. eqb (joined n) (sub n)) 16 refl n l)

-- a bit of a nibble
bit_of : (s w k : ℕ) → s < 4 → bits 4 w k / 2 ^ s % 2 ≡ bits 1 w (s + k)
unfolding bits
bit_of s w k l =
    let whole : 3 - s + 1 + s ≡ 4 = omega arith in
    let swap : k + s ≡ s + k = omega arith in
    ap (λ x. w / 2 ^ k % 2 ^ x / 2 ^ s % 2) (sym whole)
    ∙ ap (λ x. x % 2) (field (w / 2 ^ k) (3 - s + 1) s)
    ∙ mod-mod-pow (w / 2 ^ k / 2 ^ s) (3 - s) 1
    ∙ ap (λ x. x % 2) (shr-shr w k s ∙ ap (λ x. w / 2 ^ x) swap)

and_bit : (x s : ℕ) → bit_and x (2 ^ s) ≡ x / 2 ^ s % 2 * 2 ^ s
and_bit x s =
    let twice = pow-add 2 1 s in
    let one : 2 ^ s ≡ 2 ^ (1 + s) - 2 ^ s = omega arith in
    ap (bit_and x) one ∙ and_high x 1 s

-- the mask m has bit s of each nibble
abbrev Mask : ℕ → ℕ → Type 0
Mask s m = all_below (λ j. eqb (m / 2 ^ (28 - 4 * j) % 16) (2 ^ s)) 8 ≡ true

module _ (j : ℕ) (l : j < 8) where
  abbrev k : ℕ
  k = 28 - 4 * j

  none_more : 0 + k ≡ k
  none_more = omega arith

  mask_bit : (s z m : ℕ) → s < 4 → Mask s m → bits 4 (bit_and z m) k ≡ bits 1 z (s + k) * 2 ^ s
  unfolding bits
  mask_bit s z m h t =
      bits_and 4 z m k
      ∙ ap (bit_and (bits 4 z k)) (eqb-true (m / 2 ^ k % 16) (2 ^ s) (at_each (λ j. eqb (m / 2 ^ (28 - 4 * j) % 16) (2 ^ s)) 8 t j l))
      ∙ and_bit (bits 4 z k) s ∙ ap (λ x. x * 2 ^ s) (bit_of s z k h)

  put_low : (y m : ℕ) → Mask 0 m → bits 4 (bit_and y m) k ≡ bits 1 y k
  put_low y m t = mask_bit 0 y m (lit< tt) t ∙ mul-one (bits 1 y (0 + k)) ∙ ap (bits 1 y) none_more

  put : (s y m : ℕ) → s < 4 → Mask s m → bits 4 (bit_and (y * 2 ^ s % 2 ^ 32) m) k ≡ bits 1 y k * 2 ^ s
  put s y m h t =
      let back : s + k - s ≡ k = omega arith in
      let fits = both_within s (s + k) (1 + (s + k)) 32 (omega arith) (omega arith) in
      mask_bit s (y * 2 ^ s % 2 ^ 32) m h t ∙ ap (λ x. x * 2 ^ s) (bits_left 1 s y (s + k) fits ∙ ap (bits 1 y) back)

  taken_low : (w : ℕ) → bits 1 w k ≡ bits 4 w k % 2
  taken_low w = ap (bits 1 w) (sym none_more) ∙ sym (bit_of 0 w k (lit< tt)) ∙ omega arith

  taken : (s w : ℕ) → s < 4 → bits 1 (w / 2 ^ s) k ≡ bits 4 w k / 2 ^ s % 2
  taken s w h = bits_right 1 s w k ∙ sym (bit_of s w k h)

  ones : bits 1 0x1111_1111 k ≡ 1
  unfolding bits
  ones = eqb-true (0x1111_1111 / 2 ^ k % 2) 1 (at_each (λ j. eqb (0x1111_1111 / 2 ^ (28 - 4 * j) % 2) 1) 8 refl j l)

  word_at : (w : ℕ) → bits 4 (word w) k ≡ sub (bits 4 w k)
  word_at w =
      let low : (y : ℕ) → bits 4 (bit_and y 0x1111_1111) k ≡ bits 1 y k = λ y. put_low y 0x1111_1111 refl in
      let at_1 : (y : ℕ) → bits 4 (bit_and (y * 2 % 2 ^ 32) 0x2222_2222) k ≡ bits 1 y k * 2 = λ y. put 1 y 0x2222_2222 (lit< tt) refl in
      let at_2 : (y : ℕ) → bits 4 (bit_and (y * 4 % 2 ^ 32) 0x4444_4444) k ≡ bits 1 y k * 4 = λ y. put 2 y 0x4444_4444 (lit< tt) refl in
      let at_3 : (y : ℕ) → bits 4 (bit_and (y * 8 % 2 ^ 32) 0x8888_8888) k ≡ bits 1 y k * 8 = λ y. put 3 y 0x8888_8888 (lit< tt) refl in
      let b = taken 1 w (lit< tt) in
      let c = taken 2 w (lit< tt) in
      let d = taken 3 w (lit< tt) in
      simp (bits_or 4, low, at_1, at_2, at_3, bits_and 1, bits_or 1, bits_xor 1, ones, taken_low w, b, c, d)
      (joined_is (bits 4 w k) (bits_below 4 w k))

pub substituted : (w : ℕ) → word_row (word w) ≡ sub_row (word_row w)
substituted w = same_row (λ j. bits 4 (word w) (28 - 4 * j)) (λ j. sub (bits 4 w (28 - 4 * j))) (λ j l. word_at j l w)
