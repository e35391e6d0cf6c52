-- Label sums and the MAC of plates.
use Rattle.std.specs.Prelude.{◌≡◌, ℕ, zero, suc, ◌+◌, ◌-◌, ◌*◌, ◌/◌, ◌%◌, Bool, true, false, cond, not, ◌&&◌, ◌||◌, List, [], ◌∷◌, ◌++◌, map, length, take, replicate, Ok, Result, ◌==◌, nat_lt, slice_index}
use Rattle.std.specs.List.{range_with_len}
use Rattle.permutation.specs.Blocks.{◌⊕◌}
use Rattle.modes.specs.declared.cipher.Usage.TheVariants.{Label, Plate}
use Rattle.modes.specs.declared.refusal.Layer.TheVariants.{Cipher}
use Rattle.modes.specs.declared.refusal.Reason.TheVariants.{LabelLength, TagMismatch}
use Rattle.modes.specs.declared.refusal.Refusal.{Refusal}
use Rattle.modes.specs.Cipher.{base, tem_at}
use Rattle.modes.specs.Keys.{bad_key, bad_tag}
use Rattle.modes.specs.Refusals.{Claim, claim, refusal, answer}

-- byte i of x followed by 80 and zeros
abbrev pub padded_at : List ℕ → ℕ → ℕ
padded_at x i = slice_index (x ++ 0x80 ∷ []) i

-- block k of x, counted from 1, padded where it reaches past the end of x
unfoldable pub block_at : List ℕ → ℕ → List ℕ
block_at x k = map (λ i. padded_at x (32 * (k - 1) + i)) (range_with_len 0 32)

-- the exclusive or of f(1) to f(n)
unfoldable pub xor_to : (ℕ → List ℕ) → ℕ → List ℕ
xor_to f zero = replicate 32 0
xor_to f (suc n) = xor_to f n ⊕ f (suc n)

-- n bytes without padding where n is a multiple of 32, and not 0; else with padding: how many blocks
abbrev pub blocks_of : ℕ → ℕ
blocks_of n = (n - 1) / 32 + 1

abbrev pub is_padded : ℕ → Bool
is_padded n = n == 0 || not (n % 32 == 0)

-- what block k adds: it is enciphered at mask (k, 0)
abbrev pub link : (List ℕ → List ℕ) → List ℕ → List ℕ → ℕ → List ℕ
link forth l x k = tem_at forth l k 0 (block_at x k)

-- what blocks 1 to a - 1 add and the last block bare, xored and then enciphered at mask (a - 1, 1), or (a - 1, 2) where x is padded
unfoldable pub chain : (List ℕ → List ℕ) → List ℕ → List ℕ → List ℕ
chain forth l x =
    tem_at forth l (blocks_of (length x) - 1) (cond (is_padded (length x)) 2 1)
    (xor_to (link forth l x) (blocks_of (length x) - 1) ⊕ block_at x (blocks_of (length x)))

abbrev pub zero_nonce : List ℕ
zero_nonce = replicate 13 0

-- the label sum: zeros for an empty label
unfoldable pub label_sum : (List ℕ → List ℕ) → List ℕ → List ℕ → List ℕ
label_sum forth key label = cond (length label == 0) (replicate 32 0) (chain forth (base forth key Label zero_nonce) label)

-- the MAC of a plate: an empty plate is one block of padding
unfoldable pub plate_mac : (List ℕ → List ℕ) → List ℕ → List ℕ → List ℕ
plate_mac forth key plate = take 16 (chain forth (base forth key Plate zero_nonce) plate)

-- two lists are the same
abbrev pub same : List ℕ → List ℕ → Bool
same [] [] = true
same [] (y ∷ ys) = false
same (x ∷ xs) [] = false
same (x ∷ xs) (y ∷ ys) = x == y && same xs ys

abbrev pub too_long : List ℕ → Claim
too_long x = claim (nat_lt 4096 (length x)) (refusal Cipher LabelLength 0)

abbrev pub wrong_tag : List ℕ → List ℕ → Claim
wrong_tag tag mac = claim (not (same tag mac)) (refusal Cipher TagMismatch 0)

abbrev pub sum_claims : List ℕ → List ℕ → List Claim
sum_claims key x = bad_key key ∷ too_long x ∷ []

abbrev pub check_claims : (List ℕ → List ℕ) → List ℕ → List ℕ → List ℕ → List Claim
check_claims forth key plate tag = bad_key key ∷ bad_tag tag ∷ too_long plate ∷ wrong_tag tag (plate_mac forth key plate) ∷ []

abbrev pub label_answer : (List ℕ → List ℕ) → List ℕ → List ℕ → Result (List ℕ) Refusal
label_answer forth key label = answer (sum_claims key label) (label_sum forth key label)

abbrev pub mac_answer : (List ℕ → List ℕ) → List ℕ → List ℕ → Result (List ℕ) Refusal
mac_answer forth key plate = answer (sum_claims key plate) (plate_mac forth key plate)

abbrev pub check_answer : (List ℕ → List ℕ) → List ℕ → List ℕ → List ℕ → Result (Unit {0}) Refusal
check_answer forth key plate tag = answer (check_claims forth key plate tag) tt

-- yes is said exactly for the tag that the plate's MAC is
abbrev pub ExactlyItsMac : (List ℕ → List ℕ) → List ℕ → List ℕ → List ℕ → Result (Unit {0}) Refusal → Type 0
ExactlyItsMac forth key plate tag r =
    (r ≡ Ok tt → mac_answer forth key plate ≡ Ok tag) × (mac_answer forth key plate ≡ Ok tag → r ≡ Ok tt)
