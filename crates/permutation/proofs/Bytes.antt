-- The four bytes of a word, and its eight nibbles.
use Rattle.std.proofs.Common.{◌≡◌, ℕ, ◌+◌, ◌-◌, ◌*◌, ◌/◌, ◌%◌, ◌<◌, ◌≤◌, List, [], ◌∷◌, ◌++◌, length, take, drop, get_or, sym, refl, ap, ◌∙◌, arith}
use borrow.Rule.Slice.PartMut.{put_mid}
use Rattle.std.proofs.lemmas.List.{take_all, get_or-take, get_or-drop}
use Rattle.std.proofs.lemmas.List.Edits.{sets, sets-eq}
use Rattle.std.proofs.lemmas.Slice.{put_mid-paste}
use Rattle.permutation.specs.Minalpher.{row_from}
use Rattle.permutation.specs.Packed.{bits, word_row, bytes}
use Rattle.permutation.specs.Codes.{high, low}

same_8 : {a b c d e f g h a' b' c' d' e' f' g' h' : ℕ} → a ≡ a' → b ≡ b' → c ≡ c' → d ≡ d' → e ≡ e' → f ≡ f' → g ≡ g' → h ≡ h'
    → a ∷ b ∷ c ∷ d ∷ e ∷ f ∷ g ∷ h ∷ [] ≡ a' ∷ b' ∷ c' ∷ d' ∷ e' ∷ f' ∷ g' ∷ h' ∷ []
same_8 p q r s t u v w = cc

-- the word of four bytes
module _ (a b c d v : ℕ) (ha : a < 256) (hb : b < 256) (hc : c < 256) (hd : d < 256)
    (e : v ≡ a * 16777216 + b * 65536 + c * 256 + d) where
  halves : word_row v ≡ a / 16 ∷ a % 16 ∷ b / 16 ∷ b % 16 ∷ c / 16 ∷ c % 16 ∷ d / 16 ∷ d % 16 ∷ []
  unfolding bits
  halves =
      same_8 (omega arith) (omega arith) (omega arith) (omega arith) (omega arith) (omega arith) (omega arith) (omega arith)

read_row : (x : List ℕ) (n v : ℕ) → ((i : ℕ) → get_or x i 0 < 256)
    → v ≡ get_or x n 0 * 16777216 + get_or x (n + 1) 0 * 65536 + get_or x (n + 2) 0 * 256 + get_or x (n + 3) 0
    → word_row v ≡ row_from x (2 * n)
read_row x n v h e =
    halves (get_or x n 0) (get_or x (n + 1) 0) (get_or x (n + 2) 0) (get_or x (n + 3) 0) v (h n) (h (n + 1)) (h (n + 2)) (h (n + 3)) e
    ∙ sym (same_8
    (high x (2 * n + 0) n (omega arith)) (low x (2 * n + 1) n (omega arith))
    (high x (2 * n + 2) (n + 1) (omega arith)) (low x (2 * n + 3) (n + 1) (omega arith))
    (high x (2 * n + 4) (n + 2) (omega arith)) (low x (2 * n + 5) (n + 2) (omega arith))
    (high x (2 * n + 6) (n + 3) (omega arith)) (low x (2 * n + 7) (n + 3) (omega arith)))

-- the same of a part of the block that was taken out
pub read_part : (x y : List ℕ) (n v : ℕ) → ((i : ℕ) → get_or x i 0 < 256) → y ≡ take 4 (take (32 - n) (drop n x)) → n + 4 ≤ 32
    → v ≡ get_or y 0 0 * 16777216 + get_or y 1 0 * 65536 + get_or y 2 0 * 256 + get_or y 3 0
    → word_row v ≡ row_from x (2 * n)
read_part x y n v h e l w =
    let at : (j : ℕ) → j < 4 → get_or y j 0 ≡ get_or x (n + j) 0 =
    λ j s. ap (λ z. get_or z j 0) e ∙ get_or-take 4 (take (32 - n) (drop n x)) j 0 s
    ∙ get_or-take (32 - n) (drop n x) j 0 (omega arith) ∙ get_or-drop n x j 0 in
    let first : n + 0 ≡ n = omega arith in
    let a : get_or y 0 0 ≡ get_or x n 0 = at 0 (omega arith) ∙ ap (λ m. get_or x m 0) first in
    let b : get_or y 1 0 ≡ get_or x (n + 1) 0 = at 1 (omega arith) in
    let c : get_or y 2 0 ≡ get_or x (n + 2) 0 = at 2 (omega arith) in
    let d : get_or y 3 0 ≡ get_or x (n + 3) 0 = at 3 (omega arith) in
    read_row x n v h (omega arith)

-- the bytes of a word
pub joined : (w : ℕ) → (w / 16777216 % 256) ∷ (w / 65536 % 256) ∷ (w / 256 % 256) ∷ (w % 256) ∷ [] ≡ bytes (word_row w)
unfolding bits
joined w =
    let a : w / 16777216 % 256 ≡ w / 268435456 % 16 * 16 + w / 16777216 % 16 = omega arith in
    let b : w / 65536 % 256 ≡ w / 1048576 % 16 * 16 + w / 65536 % 16 = omega arith in
    let c : w / 256 % 256 ≡ w / 4096 % 16 * 16 + w / 256 % 16 = omega arith in
    let d : w % 256 ≡ w / 16 % 16 * 16 + w / 1 % 16 = omega arith in
    cc

-- a part of a list that is overwritten
pub put_sets : (x : List ℕ) (n k : ℕ) (ys zs : List ℕ) → ys ≡ zs → length zs ≡ k → n + k ≤ length x → put_mid n k x ys ≡ sets x n zs
put_sets x n k ys zs e l h =
    let written : put_mid n k x ys ≡ take n x ++ take k zs ++ drop (n + k) x = put_mid-paste n k x ys zs k e refl (sym l) in
    let all : take k zs ≡ zs = take_all k zs (omega arith) in
    let whole : sets x n zs ≡ take n x ++ zs ++ drop (n + length zs) x = sets-eq zs x n (omega arith) in
    cc
