-- A block's state, and a state's block: each undoes the other.
use Rattle.std.specs.Prelude.{◌≡◌, ℕ, ◌+◌, ◌*◌, ◌/◌, ◌%◌, ◌<◌, List, [], ◌==◌, slice_index, slice_index_or, refl}
use Rattle.std.proofs.Common.{ap, ap₂, ◌∙◌, ⊎_elim, arith, lit<}
use Rattle.std.specs.List.{AllByRecursion}
use Rattle.std.proofs.lemmas.List.FromFn.{get_or-map-range_with_len}
use Rattle.std.proofs.ByRecursion.{All-get_or}
use Rattle.std.proofs.lemmas.Bool.{cases_eq, cond_both, cond-true, cond-false, eq-eqb, ne_eqb}
use Rattle.permutation.specs.Blocks.{Block}
use Rattle.permutation.specs.BlockLaws.{same_entries}
use Rattle.permutation.specs.Minalpher.{State, nibble, row_from, state_of, rows_of, entry, block_of}
use Rattle.permutation.specs.Rows.{IsRow, is_row, row_at}
use Rattle.permutation.specs.Shapes.{IsState, same_matrix, same_state}

-- nibbles 2k and 2k + 1 are the halves of byte k
pub high : (x : List ℕ) (n k : ℕ) → n ≡ 2 * k → nibble x n ≡ slice_index x k / 16
high x n k e =
    let half : n / 2 ≡ k = omega arith in
    cond-true (n % 2 == 0) (slice_index x (n / 2) / 16) (slice_index x (n / 2) % 16) (eq-eqb (n % 2) 0 (omega arith))
    ∙ ap (λ i. slice_index x i / 16) half

pub low : (x : List ℕ) (n k : ℕ) → n ≡ 2 * k + 1 → nibble x n ≡ slice_index x k % 16
low x n k e =
    let half : n / 2 ≡ k = omega arith in
    cond-false (n % 2 == 0) (slice_index x (n / 2) / 16) (slice_index x (n / 2) % 16) (ne_eqb (n % 2) 0 (λ z. omega arith))
    ∙ ap (λ i. slice_index x i % 16) half

pub nibble_below : (x : List ℕ) → Block x → (n : ℕ) → n < 64 → nibble x n < 16
nibble_below x b n h =
    let byte = b.1 (n / 2) (omega arith) in
    cond_both (n % 2 == 0) (slice_index x (n / 2) / 16) (slice_index x (n / 2) % 16) (λ i. i < 16) (λ t. omega arith) (λ t. omega arith)

-- the state of a block
pub state_of_state : (x : List ℕ) → Block x → IsState (state_of x)
state_of_state x b =
    let row : (n : ℕ) → n < 57 → IsRow (row_from x n) =
    λ n h. is_row (λ j. nibble x (n + j)) (λ j l. nibble_below x b (n + j) (omega arith)) in (
      (row 0 (lit< tt), row 8 (lit< tt), row 16 (lit< tt), row 24 (lit< tt)),
      (row 32 (lit< tt), row 40 (lit< tt), row 48 (lit< tt), row 56 (lit< tt)),
    )

entry_of_state : (x : List ℕ) (n : ℕ) → n < 64 → entry (state_of x) n ≡ nibble x n
entry_of_state x n h =
    let place : 8 * (n / 8) + n % 8 ≡ n = omega arith in
    ap (λ r. slice_index r (n % 8)) (get_or-map-range_with_len (λ i. row_from x (8 * i)) 0 8 (n / 8) (n / 8) [] (omega arith) (omega arith))
    ∙ row_at (λ j. nibble x (8 * (n / 8) + j)) (n % 8) (omega arith)
    ∙ ap (nibble x) place

byte_at : (s : State) (k : ℕ) → k < 32 → slice_index (block_of s) k ≡ entry s (2 * k) * 16 + entry s (2 * k + 1)
byte_at s k h = get_or-map-range_with_len (λ k. entry s (2 * k) * 16 + entry s (2 * k + 1)) 0 32 k k 0 h (omega arith)

pub block_of_state_of : (x : List ℕ) → Block x → block_of (state_of x) ≡ x
block_of_state_of x b =
    same_entries 32 (block_of (state_of x)) x refl b.0
    (λ k h.
    let first = entry_of_state x (2 * k) (omega arith) ∙ high x (2 * k) k refl in
    let second = entry_of_state x (2 * k + 1) (omega arith) ∙ low x (2 * k + 1) k refl in
    omega (arith, byte_at (state_of x) k h, first, second))

-- the block of a state
module _ (s : State) (shape : IsState s) where
  rows : AllByRecursion IsRow (rows_of s)
  rows =
      let a = shape.0 in
      let b = shape.1 in
      (a.0, (a.1, (a.2, (a.3, (b.0, (b.1, (b.2, (b.3, tt))))))))

  is_row_at : (i : ℕ) → i < 8 → IsRow (slice_index_or (rows_of s) i [])
  is_row_at i h = All-get_or IsRow (rows_of s) i [] h rows

  entry_below : (n : ℕ) → n < 64 → entry s n < 16
  entry_below n h = (is_row_at (n / 8) (omega arith)).nibbles (n % 8) (omega arith)

  pub block_of_block : Block (block_of s)
  block_of_block = (
    refl,
    λ k h. omega (arith, byte_at s k h, entry_below (2 * k) (omega arith), entry_below (2 * k + 1) (omega arith)),
  )

  nibble_of_block : (n : ℕ) → n < 64 → nibble (block_of s) n ≡ entry s n
  nibble_of_block n h =
      let k = n / 2 in
      let first = entry_below (2 * k) (omega arith) in
      let second = entry_below (2 * k + 1) (omega arith) in
      let byte = byte_at s k (omega arith) in
      ⊎_elim
      (λ (even : n % 2 ≡ 0).
      let place : n ≡ 2 * k = omega arith in
      omega (arith, high (block_of s) n k place, ap (entry s) place))
      (λ (odd : n % 2 ≡ 0 → ⊥).
      let place : n ≡ 2 * k + 1 = omega arith in
      omega (arith, low (block_of s) n k place, ap (entry s) place))
      (cases_eq (n % 2) 0)

  row_of_block : (i : ℕ) → i < 8 → row_from (block_of s) (8 * i) ≡ slice_index_or (rows_of s) i []
  row_of_block i h =
      same_entries 8 (row_from (block_of s) (8 * i)) (slice_index_or (rows_of s) i []) refl (is_row_at i h).eight
      (λ j l.
      let in_row : (8 * i + j) / 8 ≡ i = omega arith in
      let in_place : (8 * i + j) % 8 ≡ j = omega arith in
      row_at (λ j. nibble (block_of s) (8 * i + j)) j l
      ∙ nibble_of_block (8 * i + j) (omega arith)
      ∙ ap₂ (λ i j. slice_index (slice_index_or (rows_of s) i []) j) in_row in_place)

  pub state_of_block_of : state_of (block_of s) ≡ s
  state_of_block_of =
      same_state
      (same_matrix (row_of_block 0 (lit< tt)) (row_of_block 1 (lit< tt)) (row_of_block 2 (lit< tt)) (row_of_block 3 (lit< tt)))
      (same_matrix (row_of_block 4 (lit< tt)) (row_of_block 5 (lit< tt)) (row_of_block 6 (lit< tt)) (row_of_block 7 (lit< tt)))
