-- Blocks of a byte string as parts of it.
use Rattle.std.proofs.Common.{◌≡◌, ℕ, zero, suc, ◌+◌, ◌-◌, ◌*◌, ◌<◌, ◌≤◌, ◌≢◌, List, ◌++◌, length, get_or, take, drop, set, replicate, refl, sym, ap, ◌∙◌, subst, ⊎_elim, arith}
use Rattle.std.proofs.lemmas.List.FromFn.{fill_by_all}
use Rattle.std.proofs.lemmas.List.{take-take, drop-take, drop-drop, get_or_append_left, get_or-append_right, get_or_past, get_or-set_same, get_or-set_other, get_or-take, get_or-drop, get_or-replicate, length-append, length-drop, length-set, length-take, length-replicate}
use Rattle.std.proofs.lemmas.Bool.{cases_order, cases_lt}
use Rattle.std.specs.Simd.{first_chunks}
use Rattle.modes.specs.Sums.{padded_at, block_at}
use Rattle.modes.specs.SumLaws.{padded_inside, padded_end, padded_past}

-- 32 bytes of a string are a block of it
pub whole_block : (x : List ℕ) (k : ℕ) → 32 * (k + 1) ≤ length x → take 32 (drop (32 * k) x) ≡ block_at x (k + 1)
unfolding block_at
whole_block x k h =
    let long : length (take 32 (drop (32 * k) x)) ≡ 32 = simp (length-take, length-drop) (omega arith) in
    fill_by_all (λ i. padded_at x (32 * (k + 1 - 1) + i)) (take 32 (drop (32 * k) x)) 32 0 long
    (λ i l.
    let place : 32 * k + i ≡ 32 * (k + 1 - 1) + i = omega arith in
    get_or-take 32 (drop (32 * k) x) i 0 l ∙ get_or-drop (32 * k) x i 0
    ∙ sym (padded_inside x (32 * k + i) (omega arith)) ∙ ap (padded_at x) place)

-- the chunks of 32 bytes of a string's first m blocks are its blocks
chunk_at : (k : ℕ) (x : List ℕ) (i : ℕ) (d : List ℕ) → i < k → get_or (first_chunks 32 k x) i d ≡ take 32 (drop (32 * i) x)
chunk_at zero x i d h = absurd (omega arith)
chunk_at (suc k) x zero d h = refl
chunk_at (suc k) x (suc i) d h =
    let place : 32 + 32 * i ≡ 32 * suc i = omega arith in
    chunk_at k (drop 32 x) i d (omega arith) ∙ ap (take 32) (drop-drop (32 * i) 32 x ∙ ap (λ n. drop n x) place)

pub chunk_block : (x : List ℕ) (m k i : ℕ) (d : List ℕ) → i < k → k ≤ m → 32 * m ≤ length x
    → get_or (first_chunks 32 k (take (32 * m) x)) i d ≡ block_at x (i + 1)
chunk_block x m k i d h l fits =
    let rest : 32 * m ≡ 32 * i + (32 * m - 32 * i) = omega arith in
    chunk_at k (take (32 * m) x) i d h ∙ ap (λ n. take 32 (drop (32 * i) (take n x))) rest
    ∙ ap (take 32) (drop-take (32 * i) (32 * m - 32 * i) x)
    ∙ take-take 32 (32 * m - 32 * i) (drop (32 * i) x) (omega arith)
    ∙ whole_block x i (omega arith)

zeros_at : (n k : ℕ) → get_or (replicate {A = ℕ} n 0) k 0 ≡ 0
zeros_at n k =
    ⊎_elim (λ (l : k < n). get_or-replicate n k 0 0 l)
    (λ (l : n ≤ k). get_or_past (replicate {A = ℕ} n 0) k 0 (subst (λ (m : ℕ). m ≤ k) (sym (length-replicate {A = ℕ} n 0)) l))
    (cases_lt k n)

-- fewer than 32 bytes, the mark and zeros are the first block
module _ (x : List ℕ) (short : length x < 32) where
  filled : List ℕ
  filled = x ++ drop (length x) (replicate 32 0)

  length_filled : length filled ≡ 32
  unfolding filled
  length_filled = simp (length-append, length-drop) (omega arith)

  filled_at : (i : ℕ) → i < 32 → get_or (set filled (length x) 0x80) i 0 ≡ padded_at x i
  unfolding filled
  filled_at i h =
      let z = drop (length x) (replicate {A = ℕ} 32 0) in
      ⊎_elim
      (λ (e : i ≡ length x).
      ap (λ n. get_or (set filled (length x) 0x80) n 0) e
      ∙ get_or-set_same filled (length x) 0x80 0 (omega (arith, length_filled)) ∙ sym (padded_end x i (sym e)))
      (⊎_elim
      (λ (l : i < length x).
      let apart : i ≢ length x = omega arith in
      get_or-set_other filled (length x) i 0x80 0 apart ∙ get_or_append_left x z 0 i l ∙ sym (padded_inside x i l))
      (λ (l : length x < i).
      let apart : i ≢ length x = omega arith in
      get_or-set_other filled (length x) i 0x80 0 apart ∙ get_or-append_right x z (length x) i 0 refl (omega arith)
      ∙ get_or-drop (length x) (replicate 32 0) (i - length x) 0 ∙ zeros_at 32 (length x + (i - length x)) ∙ sym (padded_past x i l)))
      (cases_order i (length x))

  pub padded_block : set (x ++ drop (length x) (replicate 32 0)) (length x) 0x80 ≡ block_at x 1
  unfolding block_at filled
  padded_block =
      fill_by_all (λ i. padded_at x (32 * (1 - 1) + i)) (set filled (length x) 0x80) 32 0 (simp length-set length_filled)
      (λ i h.
      let here : i ≡ 32 * (1 - 1) + i = omega arith in
      filled_at i h ∙ ap (padded_at x) here)
