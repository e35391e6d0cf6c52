-- Bytes laid into a text block by block, as the code does it. Blocks are told by how many others stand before them.
use Rattle.std.specs.Prelude.{◌≡◌, ℕ, ◌+◌, ◌-◌, ◌*◌, ◌/◌, ◌<◌, ◌≤◌, max, cond, ◌&&◌, ◌⊎◌, List, [], ◌∷◌, ◌++◌, map, length, replicate, ◌==◌, nat_le, nat_lt, slice_index, slice_index_or, slice_set}
use Rattle.std.specs.List.{range_with_len}
use Rattle.modes.specs.Cipher.{masked}
use Rattle.modes.specs.Masks.{times, step}
use Rattle.modes.specs.Sums.{xor_to}
use Rattle.sheet.specs.Holders.{block}
use Rattle.sheet.specs.declared.state.State.{State}
use Rattle.sheet.specs.Ciphers.{Cipher}
use Rattle.sheet.specs.Edits.{Edit, text_in}
use Rattle.sheet.specs.Sealing.{blocks_in}

-- byte i of the padded text of n bytes that has d from a position on; `old` is what it has elsewhere
abbrev pub laid_byte : (at : ℕ) (d : List ℕ) (n i old : ℕ) → ℕ
laid_byte at d n i old = cond (nat_lt n i) 0x00 (cond (i == n) 0x80 (cond (nat_le at i && nat_lt i (at + length d)) (slice_index d (i - at)) old))

-- the block of that text which i others stand before
unfoldable pub laid_block : (at : ℕ) (d : List ℕ) (n i : ℕ) (plain : List ℕ) → List ℕ
laid_block at d n i plain = map (λ j. laid_byte at d n (32 * i + j) (slice_index plain j)) (range_with_len 0 32)

-- the text
unfoldable pub laid_text : List ℕ → ℕ → List ℕ → ℕ → List ℕ
laid_text t at d n = map (λ i. cond (nat_le at i && nat_lt i (at + length d)) (slice_index d (i - at)) (slice_index t i)) (range_with_len 0 n)

-- what the list has at a place opened at a mask, and zeros beyond its end
abbrev pub plain_in : (List ℕ → List ℕ) → List ℕ → List (List ℕ) → ℕ → List ℕ
plain_in back w bs i = cond (nat_lt i (length bs)) (masked back w (slice_index_or bs i [])) (replicate 32 0)

-- the block at a place sealed anew, at its mask
unfoldable pub resealed : (forth back : List ℕ → List ℕ) → List ℕ → (at : ℕ) (d : List ℕ) (n : ℕ) → List (List ℕ) → ℕ → List ℕ
resealed forth back w at d n bs i = masked forth w (laid_block at d n i (plain_in back w bs i))

-- the list with a block at a place, which is at most its length
abbrev pub with_place : List (List ℕ) → ℕ → List ℕ → List (List ℕ)
with_place bs i x = cond (nat_lt i (length bs)) (slice_set bs i x) (bs ++ x ∷ [])

-- the mask that seals the block which i others stand before, from the mask w that the first `from` come to
abbrev pub odd_from : List ℕ → (from i : ℕ) → List ℕ
odd_from w from i = times (2 * (i - from) + 1) step w

-- the blocks after the first `from`, up to `to`, are sealed anew, and no other
pub record Resealed (forth back : List ℕ → List ℕ) (w : List ℕ) (at : ℕ) (d : List ℕ) (n from to : ℕ) (bs after : List (List ℕ)) : Type 0 where
  pub count : length after ≡ max (length bs) to
  pub inside : (i : ℕ) → from ≤ i → i < to → slice_index_or after i [] ≡ resealed forth back (odd_from w from i) at d n bs i
  pub before : (i : ℕ) → i < from → slice_index_or after i [] ≡ slice_index_or bs i []
  pub behind : (i : ℕ) → to ≤ i → slice_index_or after i [] ≡ slice_index_or bs i []

-- what block number from + j adds to the sum over all, from the mask w that the first `from` come to: the last is added bare
abbrev pub part_adds : (List ℕ → List ℕ) → List ℕ → List (List ℕ) → ℕ → ℕ → List ℕ
part_adds forth w bs from j = cond (from + j == length bs) (block bs (from + j)) (masked forth (times (2 * j) step w) (block bs (from + j)))

-- what n blocks after the first `from` add
unfoldable pub part_total : (List ℕ → List ℕ) → List ℕ → List (List ℕ) → ℕ → ℕ → List ℕ
part_total forth w bs from n = xor_to (part_adds forth w bs from) n

-- d laid into the text of a sheet, which comes to n bytes: the blocks that change end with number `to`
abbrev pub laid_edit : Cipher → State → List (List ℕ) → (at : ℕ) (d : List ℕ) (n to : ℕ) → Edit
laid_edit c s bs at d n last = record { from = at / 32; to = last; text = laid_text (text_in c s bs) at d n }

-- An edit that can be worked in place: the holder has the sheet's blocks and room for the new ones, every byte of the new
-- text is an old or a laid one, and beyond the blocks that change nothing is left or all stays as it was.
pub record Workable (s : State) (bs : List (List ℕ)) (limit at : ℕ) (d : List ℕ) (n old_end new_end : ℕ) : Type 0 where
  pub count : length bs ≡ blocks_in s.length
  pub start : (at ≤ s.length) × (at ≤ n)
  pub covered : n ≤ max s.length (at + length d)
  pub room : blocks_in n ≤ limit
  pub old_part : (at / 32 ≤ old_end) × (old_end ≤ length bs)
  pub new_part : (at / 32 ≤ new_end) × (new_end ≤ blocks_in n)
  pub rest : ((old_end ≡ length bs) × (new_end ≡ blocks_in n)) ⊎ ((old_end ≡ new_end) × (n ≡ s.length))
