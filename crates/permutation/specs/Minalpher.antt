-- Minalpher-P with r rounds, on blocks of 32 bytes.
use Rattle.std.specs.Prelude.{ℕ, zero, suc, ◌+◌, ◌*◌, ◌/◌, ◌%◌, cond, List, [], ◌∷◌, map, replicate, ◌==◌, bit_xor, nat_lt, slice_index, slice_index_or}
use Rattle.std.specs.List.{range_with_len}
use Rattle.permutation.specs.Blocks.{xors}

-- a row has eight nibbles, here f(0) to f(7)
abbrev pub row : (ℕ → ℕ) → List ℕ
row f = map f (range_with_len 0 8)

-- a matrix has four rows
pub record Matrix : Type 0 where
  pub r0 : List ℕ
  pub r1 : List ℕ
  pub r2 : List ℕ
  pub r3 : List ℕ

abbrev pub matrix : List ℕ → List ℕ → List ℕ → List ℕ → Matrix
matrix w x y z = record { r0 = w; r1 = x; r2 = y; r3 = z }

-- the state is two matrices
pub record State : Type 0 where
  pub a : Matrix
  pub b : Matrix

abbrev pub state : Matrix → Matrix → State
state m n = record { a = m; b = n }

-- nibble n of a block: from its first byte on, the high nibble first
abbrev pub nibble : List ℕ → ℕ → ℕ
nibble x n = cond (n % 2 == 0) (slice_index x (n / 2) / 16) (slice_index x (n / 2) % 16)

-- eight nibbles of a block from nibble n on, and four such rows
abbrev pub row_from : List ℕ → ℕ → List ℕ
row_from x n = row (λ j. nibble x (n + j))

abbrev pub matrix_from : List ℕ → ℕ → Matrix
matrix_from x n = matrix (row_from x n) (row_from x (n + 8)) (row_from x (n + 16)) (row_from x (n + 24))

-- A[i][j] is nibble 8i + j, and B[i][j] is nibble 32 + 8i + j
abbrev pub state_of : List ℕ → State
state_of x = state (matrix_from x 0) (matrix_from x 32)

-- the block of a state: byte k is nibbles 2k and 2k + 1
abbrev pub rows_of : State → List (List ℕ)
rows_of s =
    s.a.r0 ∷ s.a.r1 ∷ s.a.r2 ∷ s.a.r3 ∷ s.b.r0 ∷ s.b.r1 ∷ s.b.r2 ∷ s.b.r3 ∷ []

abbrev pub entry : State → ℕ → ℕ
entry s n = slice_index (slice_index_or (rows_of s) (n / 8) []) (n % 8)

abbrev pub block_of : State → List ℕ
block_of s = map (λ k. entry s (2 * k) * 16 + entry s (2 * k + 1)) (range_with_len 0 32)

-- S: each nibble through the S-box
abbrev pub sbox : List ℕ
sbox = 0xB ∷ 0x3 ∷ 0x4 ∷ 0x1 ∷ 0x2 ∷ 0x8 ∷ 0xC ∷ 0xF ∷ 0x5 ∷ 0xD ∷ 0xE ∷ 0x0 ∷ 0x6 ∷ 0x9 ∷ 0xA ∷ 0x7 ∷ []

abbrev pub sub : ℕ → ℕ
sub n = slice_index sbox n

abbrev pub sub_row : List ℕ → List ℕ
sub_row r = row (λ j. sub (slice_index r j))

abbrev pub sub_matrix : Matrix → Matrix
sub_matrix m = matrix (sub_row m.r0) (sub_row m.r1) (sub_row m.r2) (sub_row m.r3)

abbrev pub S : State → State
S s = state (sub_matrix s.a) (sub_matrix s.b)

-- T: new entry j of a row is old entry list[j]; then the matrices change places
abbrev pub p1 : List ℕ
p1 = 6 ∷ 7 ∷ 1 ∷ 0 ∷ 2 ∷ 3 ∷ 4 ∷ 5 ∷ []

abbrev pub q1 : List ℕ
q1 = 4 ∷ 5 ∷ 0 ∷ 1 ∷ 7 ∷ 6 ∷ 2 ∷ 3 ∷ []

abbrev pub p2 : List ℕ
p2 = 3 ∷ 2 ∷ 4 ∷ 5 ∷ 6 ∷ 7 ∷ 0 ∷ 1 ∷ []

abbrev pub q2 : List ℕ
q2 = 2 ∷ 3 ∷ 6 ∷ 7 ∷ 0 ∷ 1 ∷ 5 ∷ 4 ∷ []

abbrev pub picked : List ℕ → List ℕ → List ℕ
picked list r = row (λ j. slice_index r (slice_index list j))

abbrev pub shuffled : Matrix → Matrix
shuffled m = matrix (picked p1 m.r0) (picked q1 m.r1) (picked p2 m.r2) (picked q2 m.r3)

abbrev pub unshuffled : Matrix → Matrix
unshuffled m = matrix (picked p2 m.r0) (picked q2 m.r1) (picked p1 m.r2) (picked q1 m.r3)

abbrev pub T : State → State
T s = state (unshuffled s.b) (shuffled s.a)

-- the exclusive or of rows, of matrices and of states
abbrev pub xor_row : List ℕ → List ℕ → List ℕ
xor_row r t = xors 8 r t

abbrev pub xor_matrix : Matrix → Matrix → Matrix
xor_matrix m n = matrix (xor_row m.r0 n.r0) (xor_row m.r1 n.r1) (xor_row m.r2 n.r2) (xor_row m.r3 n.r3)

abbrev pub xor_state : State → State → State
xor_state s e = state (xor_matrix s.a e.a) (xor_matrix s.b e.b)

-- M: B becomes A xor B, and then the columns of both are mixed
abbrev pub xor3 : List ℕ → List ℕ → List ℕ → List ℕ
xor3 r t u = xor_row (xor_row r t) u

abbrev pub mixed : Matrix → Matrix
mixed m = matrix (xor3 m.r0 m.r1 m.r3) (xor3 m.r0 m.r1 m.r2) (xor3 m.r1 m.r2 m.r3) (xor3 m.r0 m.r2 m.r3)

abbrev pub M : State → State
M s = state (mixed s.a) (mixed (xor_matrix s.a s.b))

-- E(k): A is zero; row i and column j of B is (k mod 16) xor i xor j for j below 4, else 0
abbrev pub zero_row : List ℕ
zero_row = replicate 8 0

abbrev pub constant_row : ℕ → ℕ → List ℕ
constant_row k i = row (λ j. cond (nat_lt j 4) (bit_xor (bit_xor (k % 16) i) j) 0)

abbrev pub E : ℕ → State
E k =
    state (matrix zero_row zero_row zero_row zero_row)
    (matrix (constant_row k 0) (constant_row k 1) (constant_row k 2) (constant_row k 3))

-- one round
unfoldable pub round : State → State → State
round e s = xor_state (M (T (S s))) e

-- the rounds with E(0), E(1), .. E(r - 1)
unfoldable pub rounds : ℕ → State → State
rounds zero s = s
rounds (suc r) s = round (E r) (rounds r s)

-- the rounds with M(E(r - 1)), .. M(E(1)), M(E(0))
unfoldable pub rounds_back : ℕ → State → State
rounds_back zero s = s
rounds_back (suc r) s = rounds_back r (round (M (E r)) s)

-- forward and backward: the rounds, and then S and T
unfoldable pub forward : ℕ → List ℕ → List ℕ
forward r x = block_of (T (S (rounds r (state_of x))))

unfoldable pub backward : ℕ → List ℕ → List ℕ
backward r x = block_of (T (S (rounds_back r (state_of x))))
