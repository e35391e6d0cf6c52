-- A text with bytes laid into it: its blocks, and the three edits as such texts.
use Rattle.std.proofs.Common.{◌≡◌, ℕ, ◌+◌, ◌-◌, ◌*◌, ◌<◌, ◌≤◌, max, true, false, cond, ◌&&◌, eqb, ltb, leb, ◌⊎◌, List, [], ◌++◌, length, get_or, take, drop, sym, refl, ap, ◌∙◌, inl, inr, arith}
use Rattle.std.proofs.lemmas.List.FromFn.{length-map-range_with_len, get_or-map-range_with_len, fill_by_all}
use Rattle.std.proofs.lemmas.List.{length-append, length-take, length-drop, get_or_append_left, get_or-append_right, get_or-take, get_or-drop}
use Rattle.std.proofs.lemmas.Bool.{cases_lt, cases_order, cond-true, cond-false, lt-ltb, le-ltb, le-leb, lt-leb, eq-eqb, ne_eqb, and_from, and_left, and_right}
use Rattle.permutation.specs.BlockLaws.{same_entries}
use Rattle.modes.specs.Sums.{padded_at, block_at}
use Rattle.modes.specs.SumLaws.{length_block_at, padded_inside, padded_end, padded_past}
use Rattle.sheet.specs.Edits.{overwritten, lengthened, shortened}
use Rattle.sheet.specs.Laying.{laid_byte, laid_block, laid_text}
use Rattle.sheet.proofs.Texts.{block_byte}

-- whether byte i is one of those that are laid
laid_here : (at n i : ℕ) → at ≤ i → i < at + n → (leb at i && ltb i (at + n)) ≡ true
laid_here at n i a b = and_from (leb at i) (ltb i (at + n)) (le-leb at i a) (lt-ltb i (at + n) b)

laid_elsewhere : (at n i : ℕ) → (i < at) ⊎ (at + n ≤ i) → (leb at i && ltb i (at + n)) ≡ false
laid_elsewhere at n i (inl h) = and_left (leb at i) (ltb i (at + n)) (lt-leb at i h)
laid_elsewhere at n i (inr h) = and_right (leb at i) (ltb i (at + n)) (le-ltb i (at + n) h)

module _ (at : ℕ) (d : List ℕ) (n i : ℕ) (plain : List ℕ) where
  length_laid_block : length (laid_block at d n i plain) ≡ 32
  unfolding laid_block
  length_laid_block = length-map-range_with_len (λ j. laid_byte at d n (32 * i + j) (get_or plain j 0)) 0 32

  laid_block_at : (j : ℕ) → j < 32 → get_or (laid_block at d n i plain) j 0 ≡ laid_byte at d n (32 * i + j) (get_or plain j 0)
  unfolding laid_block
  laid_block_at j h = get_or-map-range_with_len (λ j. laid_byte at d n (32 * i + j) (get_or plain j 0)) 0 32 j j 0 h (omega arith)

module _ (t : List ℕ) (at : ℕ) (d : List ℕ) (n : ℕ) where
  -- byte i of the text with the bytes laid into it
  abbrev byte_of : ℕ → ℕ
  byte_of i = cond (leb at i && ltb i (at + length d)) (get_or d (i - at) 0) (get_or t i 0)

  pub length_laid : length (laid_text t at d n) ≡ n
  unfolding laid_text
  length_laid = length-map-range_with_len byte_of 0 n

  laid_at : (i : ℕ) → i < n → get_or (laid_text t at d n) i 0 ≡ byte_of i
  unfolding laid_text
  laid_at i h = get_or-map-range_with_len byte_of 0 n i i 0 h (omega arith)

  is_laid : (x : List ℕ) → length x ≡ n → ((i : ℕ) → i < n → get_or x i 0 ≡ byte_of i) → x ≡ laid_text t at d n
  unfolding laid_text
  is_laid x size f = fill_by_all byte_of x n 0 size f

  pub laid_inside : (i : ℕ) → i < n → at ≤ i → i < at + length d → get_or (laid_text t at d n) i 0 ≡ get_or d (i - at) 0
  laid_inside i h a b = laid_at i h ∙ cond-true _ (get_or d (i - at) 0) (get_or t i 0) (laid_here at (length d) i a b)

  pub laid_outside : (i : ℕ) → i < n → (i < at) ⊎ (at + length d ≤ i) → get_or (laid_text t at d n) i 0 ≡ get_or t i 0
  laid_outside i h o = laid_at i h ∙ cond-false _ (get_or d (i - at) 0) (get_or t i 0) (laid_elsewhere at (length d) i o)

  -- a block with the bytes laid into it is that block of the text, if it had the old text's bytes
  module _ (within : at ≤ length t) (covered : n ≤ max (length t) (at + length d)) (i : ℕ) (plain : List ℕ)
      (old : (j : ℕ) → j < 32 → 32 * i + j < length t → get_or plain j 0 ≡ get_or t (32 * i + j) 0) where
    by_place : (j : ℕ) → j < 32 → (32 * i + j < at) ⊎ (at ≤ 32 * i + j) → (32 * i + j < at + length d) ⊎ (at + length d ≤ 32 * i + j) → 32 * i + j < n
        → cond (leb at (32 * i + j) && ltb (32 * i + j) (at + length d)) (get_or d (32 * i + j - at) 0) (get_or plain j 0)
        ≡ get_or (laid_text t at d n) (32 * i + j) 0
    by_place j h (inl a) b l =
        cond-false _ (get_or d (32 * i + j - at) 0) (get_or plain j 0) (laid_elsewhere at (length d) (32 * i + j) (inl a))
        ∙ old j h (omega arith) ∙ sym (laid_outside (32 * i + j) l (inl a))
    by_place j h (inr a) (inl b) l =
        cond-true _ (get_or d (32 * i + j - at) 0) (get_or plain j 0) (laid_here at (length d) (32 * i + j) a b)
        ∙ sym (laid_inside (32 * i + j) l a b)
    by_place j h (inr a) (inr b) l =
        cond-false _ (get_or d (32 * i + j - at) 0) (get_or plain j 0) (laid_elsewhere at (length d) (32 * i + j) (inr b))
        ∙ old j h (omega arith) ∙ sym (laid_outside (32 * i + j) l (inr b))

    by_end : (j : ℕ) → j < 32 → (32 * i + j ≡ n) ⊎ ((32 * i + j < n) ⊎ (n < 32 * i + j))
        → laid_byte at d n (32 * i + j) (get_or plain j 0) ≡ padded_at (laid_text t at d n) (32 * i + j)
    by_end j h (inl e) =
        cond-false (ltb n (32 * i + j)) _ _ (le-ltb n (32 * i + j) (omega arith))
        ∙ cond-true (eqb (32 * i + j) n) _ _ (eq-eqb (32 * i + j) n e)
        ∙ sym (padded_end (laid_text t at d n) (32 * i + j) (length_laid ∙ sym e))
    by_end j h (inr (inl l)) =
        cond-false (ltb n (32 * i + j)) _ _ (le-ltb n (32 * i + j) (omega arith))
        ∙ cond-false (eqb (32 * i + j) n) _ _ (ne_eqb (32 * i + j) n (λ e. omega arith))
        ∙ by_place j h (cases_lt (32 * i + j) at) (cases_lt (32 * i + j) (at + length d)) l
        ∙ sym (padded_inside (laid_text t at d n) (32 * i + j) (omega (arith, length_laid)))
    by_end j h (inr (inr l)) =
        cond-true (ltb n (32 * i + j)) _ _ (lt-ltb n (32 * i + j) l)
        ∙ sym (padded_past (laid_text t at d n) (32 * i + j) (omega (arith, length_laid)))

    pub laid_is_block : laid_block at d n i plain ≡ block_at (laid_text t at d n) (i + 1)
    laid_is_block =
        same_entries 32 _ _ (length_laid_block at d n i plain) (length_block_at (laid_text t at d n) (i + 1))
        (λ j h. laid_block_at at d n i plain j h ∙ by_end j h (cases_order (32 * i + j) n) ∙ sym (block_byte (laid_text t at d n) i j h))

-- Write: bytes replaced within the text.
module _ (t : List ℕ) (at : ℕ) (d : List ℕ) (fits : at + length d ≤ length t) where
  front : length (take at t) ≡ at
  front = omega (arith, length-take at t)

  pub length_overwritten : length (overwritten t at d) ≡ length t
  length_overwritten =
      omega (arith, length-append (take at t) (d ++ drop (at + length d) t), length-append d (drop (at + length d) t), length-drop (at + length d) t, front)

  by_part : (i : ℕ) → i < length t → (i < at) ⊎ (at ≤ i) → (i < at + length d) ⊎ (at + length d ≤ i)
      → get_or (overwritten t at d) i 0 ≡ byte_of t at d (length t) i
  by_part i h (inl a) b =
      get_or_append_left (take at t) (d ++ drop (at + length d) t) 0 i (omega (arith, front)) ∙ get_or-take at t i 0 a
      ∙ sym (cond-false _ (get_or d (i - at) 0) (get_or t i 0) (laid_elsewhere at (length d) i (inl a)))
  by_part i h (inr a) (inl b) =
      get_or-append_right (take at t) (d ++ drop (at + length d) t) at i 0 front a
      ∙ get_or_append_left d (drop (at + length d) t) 0 (i - at) (omega arith)
      ∙ sym (cond-true _ (get_or d (i - at) 0) (get_or t i 0) (laid_here at (length d) i a b))
  by_part i h (inr a) (inr b) =
      let place : at + length d + (i - at - length d) ≡ i = omega arith in
      get_or-append_right (take at t) (d ++ drop (at + length d) t) at i 0 front a
      ∙ get_or-append_right d (drop (at + length d) t) (length d) (i - at) 0 refl (omega arith)
      ∙ get_or-drop (at + length d) t (i - at - length d) 0 ∙ ap (λ k. get_or t k 0) place
      ∙ sym (cond-false _ (get_or d (i - at) 0) (get_or t i 0) (laid_elsewhere at (length d) i (inr b)))

  pub overwritten_laid : overwritten t at d ≡ laid_text t at d (length t)
  overwritten_laid =
      is_laid t at d (length t) (overwritten t at d) length_overwritten
      (λ i h. by_part i h (cases_lt i at) (cases_lt i (at + length d)))

-- Append: bytes laid from the end on.
pub lengthened_laid : (t d : List ℕ) → lengthened t d ≡ laid_text t (length t) d (length t + length d)
lengthened_laid t d =
    is_laid t (length t) d (length t + length d) (t ++ d) (length-append t d) (λ i h. go i h (cases_lt i (length t)))
  where
    go : (i : ℕ) → i < length t + length d → (i < length t) ⊎ (length t ≤ i) → get_or (t ++ d) i 0 ≡ byte_of t (length t) d (length t + length d) i
    go i h (inl l) =
        get_or_append_left t d 0 i l
        ∙ sym (cond-false _ (get_or d (i - length t) 0) (get_or t i 0) (laid_elsewhere (length t) (length d) i (inl l)))
    go i h (inr l) =
        get_or-append_right t d (length t) i 0 refl l
        ∙ sym (cond-true _ (get_or d (i - length t) 0) (get_or t i 0) (laid_here (length t) (length d) i l h))

-- Cut: nothing is laid, and the text is shorter.
module _ (t : List ℕ) (n : ℕ) where
  pub length_shortened : length (shortened t n) ≡ length t - n
  length_shortened = omega (arith, length-take (length t - n) t)

  pub shortened_laid : shortened t n ≡ laid_text t (length t - n) [] (length t - n)
  shortened_laid =
      is_laid t (length t - n) [] (length t - n) (shortened t n) length_shortened
      (λ i h.
      get_or-take (length t - n) t i 0 h
      ∙ sym (cond-false _ (get_or {A = ℕ} [] (i - (length t - n)) 0) (get_or t i 0) (laid_elsewhere (length t - n) 0 i (inl h))))
