-- The sum over blocks: all but the last through the cipher, the last bare.
use Rattle.std.proofs.Common.{◌≡◌, ℕ, ◌+◌, ◌-◌, ◌/◌, ◌<◌, ◌≤◌, eqb, List, length, sym, ap, ◌∙◌, arith}
use Rattle.std.proofs.lemmas.Bool.{cond-true, cond-false, eq-eqb, ne_eqb}
use Rattle.permutation.specs.Blocks.{◌⊕◌}
use Rattle.modes.specs.Sums.{block_at, xor_to}
use Rattle.modes.specs.SumLaws.{xor_to_more, xor_to_same}
use Rattle.sheet.specs.Ciphers.{Cipher}
use Rattle.sheet.specs.Holders.{block}
use Rattle.sheet.specs.Sealing.{blocks_in, sealed, adds, total}
use Rattle.sheet.proofs.Texts.{length_sealed, sealed_at}

module _ (c : Cipher) (bs : List (List ℕ)) (n : ℕ) (h : length bs ≡ n + 1) where
  last_bare : adds c (length bs) (n + 1) (block bs (n + 1)) ≡ block bs (n + 1)
  unfolding adds
  last_bare = cond-true (eqb (n + 1) (length bs)) (block bs (n + 1)) (c.con (n + 1) (block bs (n + 1))) (eq-eqb (n + 1) (length bs) (sym h))

  inner_enciphered : (k : ℕ) → 0 < k → k ≤ n → adds c (length bs) k (block bs k) ≡ c.con k (block bs k)
  unfolding adds
  inner_enciphered k p q = cond-false (eqb k (length bs)) (block bs k) (c.con k (block bs k)) (ne_eqb k (length bs) (λ e. omega arith))

  pub total_last : total c bs ≡ xor_to (λ k. c.con k (block bs k)) n ⊕ block bs (n + 1)
  unfolding total
  total_last =
      ap (xor_to (λ k. adds c (length bs) k (block bs k))) h
      ∙ xor_to_more (λ k. adds c (length bs) k (block bs k)) n
      ∙ ap (λ y. xor_to (λ k. adds c (length bs) k (block bs k)) n ⊕ y) last_bare
      ∙ ap (λ x. x ⊕ block bs (n + 1)) (xor_to_same (λ k. adds c (length bs) k (block bs k)) (λ k. c.con k (block bs k)) n inner_enciphered)

-- the same over the sealed blocks of a text
module _ (c : Cipher) (t : List ℕ) where
  sealed_number : (k : ℕ) → 0 < k → k ≤ blocks_in (length t) → block (sealed c t) k ≡ c.enc k (block_at t k)
  sealed_number k p q =
      let place : k - 1 + 1 ≡ k = omega arith in
      sealed_at c t (k - 1) (omega arith) ∙ ap (λ i. c.enc i (block_at t i)) place

  pub total_sealed : total c (sealed c t)
      ≡ xor_to (λ k. c.con k (c.enc k (block_at t k))) (length t / 32) ⊕ c.enc (length t / 32 + 1) (block_at t (length t / 32 + 1))
  total_sealed =
      total_last c (sealed c t) (length t / 32) (length_sealed c t)
      ∙ ap (λ y. xor_to (λ k. c.con k (block (sealed c t) k)) (length t / 32) ⊕ y) (sealed_number (length t / 32 + 1) (omega arith) (omega arith))
      ∙ ap (λ x. x ⊕ c.enc (length t / 32 + 1) (block_at t (length t / 32 + 1)))
      (xor_to_same (λ k. c.con k (block (sealed c t) k)) (λ k. c.con k (c.enc k (block_at t k))) (length t / 32)
      (λ k p q. ap (c.con k) (sealed_number k p (omega arith))))
