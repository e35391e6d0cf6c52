-- Masks: doubling of a byte, a step and a turn of a block, and mask (i, j).
use Rattle.std.specs.Prelude.{ℕ, zero, suc, ◌*◌, ◌%◌, cond, List, [], ◌∷◌, ◌++◌, drop, bit_xor, nat_lt, slice_index, slice_set}
use Rattle.permutation.specs.Blocks.{◌⊕◌}

-- a byte shifted left by one within eight bits, and A3 xored in where its bit 7 was set
abbrev pub doubled : ℕ → ℕ
doubled b = cond (nat_lt b 128) (b * 2 % 256) (bit_xor (b * 2 % 256) 0xA3)

-- b xored into entry i
abbrev pub xor_into : ℕ → ℕ → List ℕ → List ℕ
xor_into i b x = slice_set x i (bit_xor (slice_index x i) b)

-- bytes 1 to 31, then the double of byte 0; byte 0 is xored into bytes 28 and 29 of that
unfoldable pub step : List ℕ → List ℕ
step x = xor_into 29 (slice_index x 0) (xor_into 28 (slice_index x 0) (drop 1 x ++ doubled (slice_index x 0) ∷ []))

unfoldable pub turn : List ℕ → List ℕ
turn x = step x ⊕ x

-- f, n times
abbrev pub times : {A : Type 0} → ℕ → (A → A) → A → A
times zero f x = x
times (suc n) f x = f (times n f x)

-- i steps and then j turns
abbrev pub mask : ℕ → ℕ → List ℕ → List ℕ
mask i j x = times j turn (times i step x)
