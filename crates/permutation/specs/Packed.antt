-- The row that a word of 32 bits holds, and the bytes of rows.
use Rattle.std.specs.Prelude.{ℕ, ◌+◌, ◌-◌, ◌*◌, ◌/◌, ◌%◌, ◌^◌, List, ◌++◌, map, slice_index}
use Rattle.std.specs.List.{range_with_len}
use Rattle.permutation.specs.Minalpher.{Matrix, row}

-- n bits of w from bit k on
unfoldable pub bits : ℕ → ℕ → ℕ → ℕ
bits n w k = w / 2 ^ k % 2 ^ n

-- the eight nibbles of a word, the highest first
abbrev pub word_row : ℕ → List ℕ
word_row w = row (λ j. bits 4 w (28 - 4 * j))

-- the four bytes of a row, and the sixteen of a matrix
abbrev pub bytes : List ℕ → List ℕ
bytes r = map (λ i. slice_index r (2 * i) * 16 + slice_index r (2 * i + 1)) (range_with_len 0 4)

abbrev pub matrix_bytes : Matrix → List ℕ
matrix_bytes m = bytes m.r0 ++ bytes m.r1 ++ bytes m.r2 ++ bytes m.r3
