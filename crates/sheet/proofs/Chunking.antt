-- What a write to bytes makes of their blocks.
use Rattle.std.proofs.Common.{◌≡◌, ℕ, zero, suc, ◌+◌, ◌-◌, ◌*◌, ◌/◌, ◌<◌, ◌≤◌, min, ◌≢◌, ◌⊎◌, List, [], ◌∷◌, ◌++◌, length, get_or, take, drop, set, sym, refl, ap, ◌∙◌, inl, inr, arith, length-drop, length-set, length-take}
use borrow.Rule.Slice.PartMut.{put_mid}
use Rattle.std.proofs.lemmas.List.{drop-drop, drop-take, same_lists, get_or-set_same, get_or-set_other, length-append, get_or-take, get_or-drop, get_or_past}
use Rattle.std.proofs.lemmas.Slice.{drop-put_mid, take-put_mid_below, between-put_mid}
use Rattle.std.proofs.lemmas.Bool.{cases_order, cases_lt}
use Rattle.sheet.specs.ChunkLaws.{length_chunks, get_or_chunks}
use Rattle.sheet.specs.Chunks.{chunks, room_of, held, overwritten}
use Rattle.sheet.specs.Holders.{Sound}

-- the block that i others stand before
abbrev cut : ℕ → List ℕ → List ℕ
cut i bytes = take 32 (drop (32 * i) bytes)

-- a part of 32 bytes that was copied over is overwritten
pub overwritten_is : (i w : ℕ) (xs ys x : List ℕ) → w ≡ 32 → ys ≡ x → put_mid (32 * i) w xs ys ≡ overwritten xs i x
overwritten_is i w xs ys x wide same =
    ap (λ n. take (32 * i) xs ++ (ys ++ drop n (drop (32 * i) xs))) wide
    ∙ ap (λ zs. take (32 * i) xs ++ (zs ++ drop 32 (drop (32 * i) xs))) same
    ∙ ap (λ zs. take (32 * i) xs ++ (x ++ zs)) (drop-drop 32 (32 * i) xs)

module _ (i : ℕ) (xs x : List ℕ) (size : length x ≡ 32) (fits : 32 * i + 32 ≤ length xs) where
  as_part : overwritten xs i x ≡ put_mid (32 * i) 32 xs x
  as_part = sym (overwritten_is i 32 xs x x refl refl)

  pub overwritten_length : length (overwritten xs i x) ≡ length xs
  overwritten_length = simp (length-append, length-take, length-drop) (omega arith)

  cut_below : (j : ℕ) → j < i → cut j (overwritten xs i x) ≡ cut j xs
  cut_below j h =
      ap (cut j) as_part
      ∙ sym (drop-take (32 * j) 32 (put_mid (32 * i) 32 xs x))
      ∙ ap (drop (32 * j)) (take-put_mid_below (32 * i) 32 xs x (32 * j + 32) (omega arith) (omega arith))
      ∙ drop-take (32 * j) 32 xs

  cut_above : (j : ℕ) → i < j → cut j (overwritten xs i x) ≡ cut j xs
  cut_above j h = ap (cut j) as_part ∙ ap (take 32) (drop-put_mid (32 * i) 32 xs x (32 * j) (omega arith) (omega arith) size)

  cut_at : cut i (overwritten xs i x) ≡ x
  cut_at =
      let wide : (32 * i + 32) - 32 * i ≡ 32 = omega arith in
      let full : length x ≡ (32 * i + 32) - 32 * i = omega arith in
      ap (cut i) as_part
      ∙ ap (λ n. take n (drop (32 * i) (put_mid (32 * i) 32 xs x))) (sym wide)
      ∙ between-put_mid (32 * i) 32 xs x (32 * i + 32) (omega arith) full

  block_put : (n k : ℕ) (d : List ℕ) → i < n → k < n → (k ≡ i) ⊎ ((k < i) ⊎ (i < k)) → get_or (chunks n (overwritten xs i x)) k d ≡ get_or (set (chunks n xs) i x) k d
  block_put n k d h l (inl e) =
      let inside : i < length (chunks n xs) = omega (arith, length_chunks n xs) in
      get_or_chunks n (overwritten xs i x) k d l ∙ ap (λ j. cut j (overwritten xs i x)) e ∙ cut_at
      ∙ sym (ap (λ j. get_or (set (chunks n xs) i x) j d) e ∙ get_or-set_same (chunks n xs) i x d inside)
  block_put n k d h l (inr (inl lt)) =
      let other : k ≢ i = omega arith in
      get_or_chunks n (overwritten xs i x) k d l ∙ cut_below k lt
      ∙ sym (get_or-set_other (chunks n xs) i k x d other ∙ get_or_chunks n xs k d l)
  block_put n k d h l (inr (inr gt)) =
      let other : k ≢ i = omega arith in
      get_or_chunks n (overwritten xs i x) k d l ∙ cut_above k gt
      ∙ sym (get_or-set_other (chunks n xs) i k x d other ∙ get_or_chunks n xs k d l)

  -- it replaces one block
  chunks_put : (n : ℕ) → i < n → chunks n (overwritten xs i x) ≡ set (chunks n xs) i x
  chunks_put n h =
      same_lists _ _
      (length_chunks n (overwritten xs i x) ∙ sym (length-set (chunks n xs) i x ∙ length_chunks n xs))
      (λ k d l. block_put n k d h (omega (arith, length_chunks n (overwritten xs i x))) (cases_order k i))

  -- and none of those before it
  chunks_before : chunks i (overwritten xs i x) ≡ chunks i xs
  chunks_before =
      same_lists _ _
      (length_chunks i (overwritten xs i x) ∙ sym (length_chunks i xs))
      (λ k d l.
      let h : k < i = omega (arith, length_chunks i (overwritten xs i x)) in
      get_or_chunks i (overwritten xs i x) k d h ∙ cut_below k h ∙ sym (get_or_chunks i xs k d h))

  pub room_kept : room_of (overwritten xs i x) ≡ room_of xs
  room_kept = ap (λ n. min (n / 32) 4096) overwritten_length

chunks_more : (n : ℕ) (bytes : List ℕ) → chunks (n + 1) bytes ≡ chunks n bytes ++ cut n bytes ∷ []
chunks_more zero bytes = refl
chunks_more (suc n) bytes =
    let e : suc n + 1 ≡ suc (n + 1) = omega arith in
    let f : 32 + 32 * n ≡ 32 * suc n = omega arith in
    ap (λ m. chunks m bytes) e
    ∙ ap (λ r. take 32 bytes ∷ r)
    (chunks_more n (drop 32 bytes)
    ∙ ap (λ b. chunks n (drop 32 bytes) ++ b ∷ []) (ap (take 32) (drop-drop (32 * n) 32 bytes) ∙ ap (λ k. take 32 (drop k bytes)) f))

take_chunks : (m n : ℕ) (bytes : List ℕ) → m ≤ n → take m (chunks n bytes) ≡ chunks m bytes
take_chunks zero n bytes h = refl
take_chunks (suc m) zero bytes h = absurd (omega arith)
take_chunks (suc m) (suc n) bytes h = ap (λ r. take 32 bytes ∷ r) (take_chunks m n (drop 32 bytes) (omega arith))

pub length_held : (count : ℕ) (xs : List ℕ) → length (held count xs) ≡ min count (room_of xs)
length_held count xs = length_chunks (min count (room_of xs)) xs

pub held_get : (count k : ℕ) (xs : List ℕ) (bs : List (List ℕ)) → bs ≡ chunks (length xs / 32) xs → 0 < k → k ≤ length (held count xs) → get_or bs (k - 1) [] ≡ get_or (held count xs) (k - 1) []
held_get count k xs bs e low high =
    let h : k - 1 < min count (room_of xs) = omega (arith, length_held count xs) in
    let inside : k - 1 < length xs / 32 = omega arith in
    ap (λ cs. get_or cs (k - 1) []) e ∙ get_or_chunks (length xs / 32) xs (k - 1) [] inside ∙ sym (get_or_chunks (min count (room_of xs)) xs (k - 1) [] h)

module _ (count : ℕ) (xs x : List ℕ) (size : length x ≡ 32) where
  pub held_put : (i : ℕ) → i < length (held count xs) → held count (overwritten xs i x) ≡ set (held count xs) i x
  held_put i h =
      let n : ℕ = min count (room_of xs) in
      let inside : i < n = omega (arith, length_held count xs) in
      let fits : 32 * i + 32 ≤ length xs = omega arith in
      ap (λ m. chunks (min count m) (overwritten xs i x)) (room_kept i xs x size fits) ∙ chunks_put i xs x size fits n inside

  pub held_add : (n : ℕ) → n ≡ length (held count xs) → n < room_of xs → held (n + 1) (overwritten xs n x) ≡ held count xs ++ x ∷ []
  held_add n is below =
      let fits : 32 * n + 32 ≤ length xs = omega arith in
      let one : min (n + 1) (room_of xs) ≡ n + 1 = omega arith in
      let old : n ≡ min count (room_of xs) = is ∙ length_held count xs in
      ap (λ m. chunks (min (n + 1) m) (overwritten xs n x)) (room_kept n xs x size fits)
      ∙ ap (λ m. chunks m (overwritten xs n x)) one
      ∙ chunks_more n (overwritten xs n x)
      ∙ ap (λ bs. bs ++ cut n (overwritten xs n x) ∷ []) (chunks_before n xs x size fits)
      ∙ ap (λ b. chunks n xs ++ b ∷ []) (cut_at n xs x size fits)
      ∙ ap (λ m. chunks m xs ++ x ∷ []) old

pub held_drop : (count n : ℕ) (xs : List ℕ) → n ≡ length (held count xs) → held (n - 1) xs ≡ take (length (held count xs) - 1) (held count xs)
held_drop count n xs is =
    let one : min (n - 1) (room_of xs) ≡ n - 1 = omega (arith, length_held count xs) in
    let less : n - 1 ≤ min count (room_of xs) = omega (arith, length_held count xs) in
    ap (λ m. chunks m xs) one ∙ sym (take_chunks (n - 1) (min count (room_of xs)) xs less) ∙ ap (λ m. take (m - 1) (held count xs)) is

-- bytes below 256 make blocks of bytes below 256
pub chunks_sound : (n : ℕ) (xs : List ℕ) → ((i : ℕ) → get_or xs i 0 < 256) → Sound (chunks n xs)
chunks_sound n xs fit i j = by_block (cases_lt i n)
  where
    by_byte : (j < 32) ⊎ (32 ≤ j) → get_or (cut i xs) j 0 < 256
    by_byte (inl h) = simp (get_or-take 32 (drop (32 * i) xs) j 0 h, get_or-drop (32 * i) xs j 0) (fit (32 * i + j))
    by_byte (inr h) =
        let past : length (cut i xs) ≤ j = simp (length-take) (omega arith) in
        simp (get_or_past (cut i xs) j 0 past) (omega arith)

    by_block : (i < n) ⊎ (n ≤ i) → get_or (get_or (chunks n xs) i []) j 0 < 256
    by_block (inl l) = simp (get_or_chunks n xs i [] l) (by_byte (cases_lt j 32))
    by_block (inr l) =
        let past : length (chunks n xs) ≤ i = omega (arith, length_chunks n xs) in
        simp (get_or_past (chunks n xs) i [] past) (omega arith)
