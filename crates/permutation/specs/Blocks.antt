-- Blocks, and the exclusive or of lists entry by entry.
use Rattle.std.specs.Prelude.{◌≡◌, ℕ, ◌<◌, List, map, length, bit_xor, slice_index}
use Rattle.std.specs.List.{range_with_len}

-- a block is 32 bytes
abbrev pub Block : List ℕ → Type 0
Block x = (length x ≡ 32) × ((i : ℕ) → i < 32 → slice_index x i < 256)

-- the first n entries of x and y, each xored with the other
unfoldable pub xors : ℕ → List ℕ → List ℕ → List ℕ
xors n x y = map (λ i. bit_xor (slice_index x i) (slice_index y i)) (range_with_len 0 n)

-- the exclusive or of two blocks
infixl 20 ◌⊕◌
abbrev pub ◌⊕◌ : List ℕ → List ℕ → List ℕ
x ⊕ y = xors 32 x y

-- Two functions on blocks, each of which undoes the other.
pub record Inverse (forth back : List ℕ → List ℕ) : Type 0 where
  pub undone : (x : List ℕ) → Block x → back (forth x) ≡ x
  pub redone : (x : List ℕ) → Block x → forth (back x) ≡ x
  pub forth_block : (x : List ℕ) → Block x → Block (forth x)
  pub back_block : (x : List ℕ) → Block x → Block (back x)
