-- Texts, their padded blocks, and what sealed blocks open to.
use Rattle.std.proofs.Common.{◌≡◌, ℕ, ◌+◌, ◌-◌, ◌*◌, ◌/◌, ◌%◌, ◌<◌, ◌⊎◌, List, [], length, get_or, sym, ap, ◌∙◌, subst, inl, inr, arith}
use Rattle.std.proofs.lemmas.List.FromFn.{length-map-range_with_len, get_or-map-range_with_len}
use Rattle.std.proofs.lemmas.List.{ext_get_or}
use Rattle.std.proofs.lemmas.Bool.{cases_order}
use Rattle.permutation.specs.Blocks.{Block}
use Rattle.modes.specs.Sums.{padded_at, block_at}
use Rattle.modes.specs.SumLaws.{length_block_at, block_at_entry, padded_inside, padded_end, padded_past}
use Rattle.sheet.specs.Ciphers.{Cipher, Lawful}
use Rattle.sheet.specs.Holders.{block}
use Rattle.sheet.specs.Opening.{AllBytes}
use Rattle.sheet.specs.Sealing.{blocks_in, sealed, opened}

pub padded_bytes : (t : List ℕ) → AllBytes t → (i : ℕ) → padded_at t i < 256
padded_bytes t h i = go (cases_order i (length t))
  where
    go : (i ≡ length t) ⊎ ((i < length t) ⊎ (length t < i)) → padded_at t i < 256
    go (inl e) = omega (arith, padded_end t i (sym e))
    go (inr (inl l)) = omega (arith, padded_inside t i l, h i)
    go (inr (inr l)) = omega (arith, padded_past t i l)

-- byte j of the block at place i of the list
pub block_byte : (t : List ℕ) (i j : ℕ) → j < 32 → get_or (block_at t (i + 1)) j 0 ≡ padded_at t (32 * i + j)
block_byte t i j h =
    let place : 32 * (i + 1 - 1) + j ≡ 32 * i + j = omega arith in
    block_at_entry t (i + 1) j h ∙ ap (padded_at t) place

pub block_block : (t : List ℕ) (k : ℕ) → AllBytes t → Block (block_at t k)
block_block t k h =
    (length_block_at t k, λ j l. subst (λ (b : ℕ). b < 256) (sym (block_at_entry t k j l)) (padded_bytes t h (32 * (k - 1) + j)))

module _ (c : Cipher) (t : List ℕ) where
  pub length_sealed : length (sealed c t) ≡ blocks_in (length t)
  unfolding sealed
  length_sealed = length-map-range_with_len (λ k. c.enc k (block_at t k)) 1 (blocks_in (length t))

  pub sealed_at : (i : ℕ) → i < blocks_in (length t) → get_or (sealed c t) i [] ≡ c.enc (i + 1) (block_at t (i + 1))
  unfolding sealed
  sealed_at i h = get_or-map-range_with_len (λ k. c.enc k (block_at t k)) 1 (blocks_in (length t)) i (i + 1) [] h (omega arith)

  -- what has the sealed blocks of a text at each place is that list
  pub is_sealed : (bs : List (List ℕ)) → length bs ≡ blocks_in (length t)
      → ((i : ℕ) → i < blocks_in (length t) → get_or bs i [] ≡ c.enc (i + 1) (block_at t (i + 1))) → bs ≡ sealed c t
  is_sealed bs e f =
      ext_get_or [] bs (sealed c t) (e ∙ sym length_sealed)
      (λ i h. let l : i < blocks_in (length t) = omega arith in f i l ∙ sym (sealed_at i l))

-- the block at place i of the list is block i + 1
pub block_place : (bs : List (List ℕ)) (i : ℕ) → block bs (i + 1) ≡ get_or bs i []
block_place bs i = let place : i + 1 - 1 ≡ i = omega arith in ap (λ n. get_or bs n []) place

module _ (c : Cipher) (bs : List (List ℕ)) (n : ℕ) where
  pub length_opened : length (opened c bs n) ≡ n
  unfolding opened
  length_opened = length-map-range_with_len (λ i. get_or (c.dec (i / 32 + 1) (block bs (i / 32 + 1))) (i % 32) 0) 0 n

  pub opened_byte_at : (i : ℕ) → i < n → get_or (opened c bs n) i 0 ≡ get_or (c.dec (i / 32 + 1) (block bs (i / 32 + 1))) (i % 32) 0
  unfolding opened
  opened_byte_at i h = get_or-map-range_with_len (λ i. get_or (c.dec (i / 32 + 1) (block bs (i / 32 + 1))) (i % 32) 0) 0 n i i 0 h (omega arith)

  pub opened_at : (i : ℕ) → i < n → get_or (opened c bs n) i 0 ≡ get_or (c.dec (i / 32 + 1) (get_or bs (i / 32) [])) (i % 32) 0
  opened_at i h =
      opened_byte_at i h
      ∙ ap (λ b. get_or (c.dec (i / 32 + 1) b) (i % 32) 0) (block_place bs (i / 32))

module _ (c : Cipher) (laws : Lawful c) (t : List ℕ) (b : AllBytes t) where
  pub dec_sealed : (i : ℕ) → i < blocks_in (length t) → c.dec (i + 1) (get_or (sealed c t) i []) ≡ block_at t (i + 1)
  dec_sealed i l = ap (c.dec (i + 1)) (sealed_at c t i l) ∙ laws.dec_enc (i + 1) (block_at t (i + 1)) (block_block t (i + 1) b)

  pub opened_sealed : opened c (sealed c t) (length t) ≡ t
  opened_sealed =
      ext_get_or 0 (opened c (sealed c t) (length t)) t (length_opened c (sealed c t) (length t))
      (λ i h.
      let l : i < length t = omega (arith, length_opened c (sealed c t) (length t)) in
      let whole : 32 * (i / 32) + i % 32 ≡ i = omega arith in
      opened_at c (sealed c t) (length t) i l
      ∙ ap (λ x. get_or x (i % 32) 0) (dec_sealed (i / 32) (omega arith))
      ∙ block_byte t (i / 32) (i % 32) (omega arith)
      ∙ ap (padded_at t) whole
      ∙ padded_inside t i l)
