-- What sealing and opening mean.
use Rattle.std.specs.Prelude.{◌≡◌, ℕ, zero, suc, ◌+◌, ◌/◌, ◌%◌, ◌<◌, cond, List, map, length, Some, None, Option, ◌==◌, slice_index, slice_index_or}
use Rattle.std.specs.List.{range_with_len}
use Rattle.permutation.specs.Blocks.{◌⊕◌}
use Rattle.modes.specs.Sums.{block_at, xor_to}
use Rattle.sheet.specs.Ciphers.{Cipher}
use Rattle.sheet.specs.Holders.{block}

-- a text of n bytes has this many blocks, the padding included
abbrev pub blocks_in : ℕ → ℕ
blocks_in n = n / 32 + 1

-- the sealed blocks of a text
unfoldable pub sealed : Cipher → List ℕ → List (List ℕ)
sealed c t = map (λ k. c.enc k (block_at t k)) (range_with_len 1 (blocks_in (length t)))

-- what sealed block k adds to a sum over m blocks: the last is added bare
unfoldable pub adds : Cipher → ℕ → ℕ → List ℕ → List ℕ
adds c m k b = cond (k == m) b (c.con k b)

unfoldable pub total : Cipher → List (List ℕ) → List ℕ
total c bs = xor_to (λ k. adds c (length bs) k (block bs k)) (length bs)

-- the sum of sealed blocks under a label, and the tag
abbrev pub sum_of : Cipher → List ℕ → List (List ℕ) → List ℕ
sum_of c label bs = c.label_sum label ⊕ total c bs

abbrev pub tag_of : Cipher → List ℕ → List (List ℕ) → List ℕ
tag_of c label bs = c.fin (length bs) (sum_of c label bs)

-- the first n bytes of the blocks, each opened: byte i lies in block i / 32 + 1
unfoldable pub opened : Cipher → List (List ℕ) → ℕ → List ℕ
opened c bs n = map (λ i. slice_index (c.dec (i / 32 + 1) (block bs (i / 32 + 1))) (i % 32)) (range_with_len 0 n)

-- where the text ends in the first n bytes of its last block: before the last byte that is not 00, if that is 80
unfoldable pub end_within : List ℕ → ℕ → Option ℕ
end_within p zero = None
end_within p (suc n) = cond (slice_index p n == 0x00) (end_within p n) (cond (slice_index p n == 0x80) (Some n) None)

unfoldable pub text_end : List ℕ → Option ℕ
text_end p = end_within p 32

-- in words: n bytes of text, 80, and only 00
pub record Ends (p : List ℕ) (n : ℕ) : Type 0 where
  pub inside : n < 32
  pub mark : slice_index_or p n 0 ≡ 0x80
  pub rest : (j : ℕ) → n < j → j < 32 → slice_index p j ≡ 0x00
