-- One more byte of a text in hexadecimal digits.
use Rattle.std.proofs.Common.{◌≡◌, ℕ, zero, suc, ◌+◌, ◌*◌, ◌/◌, ◌%◌, ◌<◌, List, [], ◌∷◌, ◌++◌, length, get_or, take, drop, Some, sym, refl, ap, ◌∙◌, arith}
use Rattle.std.proofs.lemmas.List.{take_more, append_assoc, drop-drop, get_or-take, get_or-drop}
use Rattle.std.specs.Simd.{first_chunks}
use Rattle.text.specs.Hex.{digit_of, char_of, hex_of, Makes}

pub hex_append : (xs ys : List ℕ) → hex_of (xs ++ ys) ≡ hex_of xs ++ hex_of ys
hex_append [] ys = refl
hex_append (x ∷ xs) ys = ap (λ r. char_of (x / 16) ∷ char_of (x % 16) ∷ r) (hex_append xs ys)

-- the digits of one byte more, written one after the other
pub hex_more : (xs : List ℕ) (i : ℕ) (h l : ℕ) → i < length xs
    → h ≡ char_of (get_or xs i 0 / 16) → l ≡ char_of (get_or xs i 0 % 16)
    → hex_of (take i xs) ++ h ∷ [] ++ l ∷ [] ≡ hex_of (take (i + 1) xs)
hex_more xs i h l lt eh el =
    append_assoc (hex_of (take i xs)) (h ∷ []) (l ∷ [])
    ∙ ap (λ c. hex_of (take i xs) ++ (c ∷ l ∷ [])) eh
    ∙ ap (λ c. hex_of (take i xs) ++ (char_of (get_or xs i 0 / 16) ∷ c ∷ [])) el
    ∙ sym (hex_append (take i xs) (get_or xs i 0 ∷ []))
    ∙ ap hex_of (sym (take_more xs i 0 lt))

-- the byte of two digits
pub makes : (a b h l byte : ℕ) → byte ≡ 16 * h + l → l < 16 → digit_of a ≡ Some h → digit_of b ≡ Some l → Makes a b byte
makes a b h l byte e small ha hb =
    let high : h ≡ byte / 16 = omega arith in
    let low : l ≡ byte % 16 = omega arith in
    (ha ∙ ap Some high, hb ∙ ap Some low)

-- the pairs of a text, and the bytes in them
pair_at : (n : ℕ) (xs : List ℕ) (k : ℕ) → k < n → get_or (first_chunks 2 n xs) k [] ≡ take 2 (drop (2 * k) xs)
pair_at zero xs k h = absurd (omega arith)
pair_at (suc n) xs zero h = refl
pair_at (suc n) xs (suc k) h =
    let place : 2 + 2 * k ≡ 2 * suc k = omega arith in
    pair_at n (drop 2 xs) k (omega arith) ∙ ap (take 2) (drop-drop (2 * k) 2 xs ∙ ap (λ m. drop m xs) place)

in_pair : (n : ℕ) (xs : List ℕ) (k j : ℕ) → k < n → j < 2 → get_or (get_or (first_chunks 2 n xs) k []) j 0 ≡ get_or xs (2 * k + j) 0
in_pair n xs k j h l =
    ap (λ p. get_or p j 0) (pair_at n xs k h) ∙ get_or-take 2 (drop (2 * k) xs) j 0 l ∙ get_or-drop (2 * k) xs j 0

pub pair_bytes : (ps : List (List ℕ)) (xs : List ℕ) (k : ℕ) → ps ≡ first_chunks 2 (length xs / 2) xs → k < length xs / 2
    → (get_or (get_or ps k []) 0 0 ≡ get_or xs (2 * k) 0) × (get_or (get_or ps k []) 1 0 ≡ get_or xs (2 * k + 1) 0)
pair_bytes ps xs k e h =
    let first : 2 * k + 0 ≡ 2 * k = omega arith in (
      ap (λ qs. get_or (get_or qs k []) 0 0) e ∙ in_pair (length xs / 2) xs k 0 h (omega arith) ∙ ap (λ m. get_or xs m 0) first,
      ap (λ qs. get_or (get_or qs k []) 1 0) e ∙ in_pair (length xs / 2) xs k 1 h (omega arith),
    )
