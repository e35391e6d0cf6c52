-- Sealing some blocks anew makes the altered list, and the sum changes by what these blocks add.
use Rattle.std.proofs.Common.{◌≡◌, ℕ, zero, suc, ◌+◌, ◌-◌, ◌*◌, ◌/◌, ◌%◌, ◌<◌, ◌≤◌, false, cond, ◌&&◌, eqb, ltb, leb, ◌⊎◌, List, [], length, get_or, take, replicate, sym, ap, ◌∙◌, ap₂, inl, inr, arith}
use Rattle.std.proofs.lemmas.List.FromFn.{length-map-range_with_len, get_or-map-range_with_len}
use Rattle.std.proofs.lemmas.List.{ext_get_or, length-take, get_or-take, get_or-replicate}
use Rattle.std.proofs.lemmas.Bool.{cases_lt, cond-true, cond-false, lt-ltb, le-ltb, le-leb, lt-leb, ne_eqb, and_from, and_left, and_right}
use lib.Bits.{bit_xor, xor_zero_r}
use Rattle.permutation.specs.Blocks.{◌⊕◌}
use Rattle.permutation.specs.BlockLaws.{same_entries, length_xors, xors_at, xors_comm, xors_assoc, xors_cancel, xors_swap}
use Rattle.modes.specs.declared.cipher.Usage.TheVariants.{Text}
use Rattle.modes.specs.Cipher.{base, masked}
use Rattle.modes.specs.Masks.{times, step}
use Rattle.modes.specs.Sums.{block_at, xor_to}
use Rattle.modes.specs.SumLaws.{xor_to_same, length_xor_to}
use Rattle.sheet.specs.Holders.{block}
use Rattle.sheet.specs.declared.state.State.{State}
use Rattle.sheet.specs.Calls.{under}
use Rattle.sheet.specs.Ciphers.{Cipher}
use Rattle.sheet.specs.Edits.{Edit, altered_block, altered, edited, restated, text_in}
use Rattle.sheet.specs.Laying.{plain_in, resealed, odd_from, Resealed, part_adds, part_total, laid_edit, Workable}
use Rattle.sheet.specs.Sealing.{blocks_in, adds, total}
use Rattle.sheet.proofs.Layings.{length_laid, laid_is_block}
use Rattle.sheet.proofs.Texts.{block_place, length_opened, opened_at}

-- Exclusive or.

xor_zeros : (x : List ℕ) → length x ≡ 32 → x ⊕ replicate 32 0 ≡ x
xor_zeros x h =
    same_entries 32 (x ⊕ replicate 32 0) x (length_xors 32 x (replicate 32 0)) h
    (λ i l. xors_at 32 x (replicate 32 0) i l ∙ ap (bit_xor (get_or x i 0)) (get_or-replicate 32 i 0 0 l) ∙ xor_zero_r (get_or x i 0))

-- what is added on both sides is gone
pub xor_back : (x y r : List ℕ) → (x ⊕ r) ⊕ (y ⊕ r) ≡ x ⊕ y
xor_back x y r = xors_swap 32 x r y r ∙ sym (xors_assoc 32 (x ⊕ y) r r) ∙ xors_cancel 32 (x ⊕ y) r (length_xors 32 x y)

pub xor_front : (a x y : List ℕ) → (a ⊕ x) ⊕ (a ⊕ y) ≡ x ⊕ y
xor_front a x y = ap₂ ◌⊕◌ (xors_comm 32 a x) (xors_comm 32 a y) ∙ xor_back x y a

-- f(1) to f(a) and then n more
pub xor_to_split : (f : ℕ → List ℕ) (a n : ℕ) → xor_to f (a + n) ≡ xor_to f a ⊕ xor_to (λ j. f (a + j)) n
unfolding xor_to
xor_to_split f a zero = let same : a + 0 ≡ a = omega arith in ap (xor_to f) same ∙ sym (xor_zeros (xor_to f a) (length_xor_to f a))
xor_to_split f a (suc n) =
    let next : a + suc n ≡ suc (a + n) = omega arith in
    ap (xor_to f) next
    ∙ ap (λ k. xor_to f (a + n) ⊕ f k) (sym next)
    ∙ ap (λ x. x ⊕ f (a + suc n)) (xor_to_split f a n)
    ∙ xors_assoc 32 (xor_to f a) (xor_to (λ j. f (a + j)) n) (f (a + suc n))

pub times_times : (a b : ℕ) (x : List ℕ) → times a step (times b step x) ≡ times (a + b) step x
times_times zero b x = let e : b ≡ 0 + b = omega arith in ap (λ n. times n step x) e
times_times (suc a) b x = let e : suc (a + b) ≡ suc a + b = omega arith in ap step (times_times a b x) ∙ ap (λ n. times n step x) e

-- The blocks of a list under an edit.
module _ (c : Cipher) (e : Edit) (bs : List (List ℕ)) where
  pub length_altered : length (altered c e bs) ≡ blocks_in (length e.text)
  unfolding altered
  length_altered = length-map-range_with_len (altered_block c e bs) 1 (blocks_in (length e.text))

  altered_at : (i : ℕ) → i < blocks_in (length e.text) → get_or (altered c e bs) i [] ≡ altered_block c e bs (i + 1)
  unfolding altered
  altered_at i h = get_or-map-range_with_len (altered_block c e bs) 1 (blocks_in (length e.text)) i (i + 1) [] h (omega arith)

  pub altered_inside : (i : ℕ) → i < blocks_in (length e.text) → e.from ≤ i → i < e.to → get_or (altered c e bs) i [] ≡ c.enc (i + 1) (block_at e.text (i + 1))
  unfolding altered_block
  altered_inside i h a b =
      altered_at i h
      ∙ cond-true (ltb e.from (i + 1) && leb (i + 1) e.to) (c.enc (i + 1) (block_at e.text (i + 1))) (block bs (i + 1))
      (and_from (ltb e.from (i + 1)) (leb (i + 1) e.to) (lt-ltb e.from (i + 1) (omega arith)) (le-leb (i + 1) e.to (omega arith)))

  outside : (i : ℕ) → (i < e.from) ⊎ (e.to ≤ i) → (ltb e.from (i + 1) && leb (i + 1) e.to) ≡ false
  outside i (inl h) = and_left (ltb e.from (i + 1)) (leb (i + 1) e.to) (le-ltb e.from (i + 1) (omega arith))
  outside i (inr h) = and_right (ltb e.from (i + 1)) (leb (i + 1) e.to) (lt-leb (i + 1) e.to (omega arith))

  pub altered_outside : (i : ℕ) → i < blocks_in (length e.text) → (i < e.from) ⊎ (e.to ≤ i) → get_or (altered c e bs) i [] ≡ get_or bs i []
  unfolding altered_block
  altered_outside i h o =
      altered_at i h
      ∙ cond-false (ltb e.from (i + 1) && leb (i + 1) e.to) (c.enc (i + 1) (block_at e.text (i + 1))) (block bs (i + 1)) (outside i o)
      ∙ block_place bs i

-- What a part adds is what its blocks add to the total.
module _ (f b : List ℕ → List ℕ) (s : State) (w : List ℕ) (from : ℕ) (mask : w ≡ times (2 * from) step (base f s.key.bytes Text s.nonce.bytes)) where
  abbrev c : Cipher
  c = under f b s

  abbrev l : List ℕ
  l = base f s.key.bytes Text s.nonce.bytes

  even_is : (j : ℕ) → times (2 * j) step w ≡ times (2 * (from + j)) step l
  even_is j =
      let place : 2 * j + 2 * from ≡ 2 * (from + j) = omega arith in
      ap (times (2 * j) step) mask ∙ times_times (2 * j) (2 * from) l ∙ ap (λ n. times n step l) place

  pub odd_is : (i : ℕ) → from ≤ i → odd_from w from i ≡ times (2 * (i + 1) - 1) step l
  odd_is i h =
      let place : 2 * (i - from) + 1 + 2 * from ≡ 2 * (i + 1) - 1 = omega arith in
      ap (times (2 * (i - from) + 1) step) mask ∙ times_times (2 * (i - from) + 1) (2 * from) l ∙ ap (λ n. times n step l) place

  pub part_is : (bs : List (List ℕ)) (n : ℕ) → part_total f w bs from n ≡ xor_to (λ j. adds c (length bs) (from + j) (block bs (from + j))) n
  unfolding part_total adds
  part_is bs n =
      xor_to_same (part_adds f w bs from) (λ j. adds c (length bs) (from + j) (block bs (from + j))) n
      (λ j p q. ap (λ m. cond (eqb (from + j) (length bs)) (block bs (from + j)) (masked f m (block bs (from + j)))) (even_is j))

-- Totals over lists that agree but for a part.
module _ (c : Cipher) (bs after : List (List ℕ)) (from p q r : ℕ) (count : length bs ≡ from + p + r) (recount : length after ≡ from + q + r)
    (front : (k : ℕ) → 0 < k → k ≤ from → adds c (length bs) k (block bs k) ≡ adds c (length after) k (block after k))
    (rest : (j : ℕ) → 0 < j → j ≤ r → adds c (length bs) (from + p + j) (block bs (from + p + j)) ≡ adds c (length after) (from + q + j) (block after (from + q + j))) where
  abbrev old : ℕ → List ℕ
  old k = adds c (length bs) k (block bs k)

  abbrev new : ℕ → List ℕ
  new k = adds c (length after) k (block after k)

  pub totals_part : total c bs ⊕ total c after ≡ xor_to (λ j. old (from + j)) p ⊕ xor_to (λ j. new (from + j)) q
  unfolding total
  totals_part =
      let a : List ℕ = xor_to new from in
      let z : List ℕ = xor_to (λ j. new (from + q + j)) r in
      let x : List ℕ = xor_to (λ j. old (from + j)) p in
      let y : List ℕ = xor_to (λ j. new (from + j)) q in
      let before : xor_to old (length bs) ≡ (a ⊕ x) ⊕ z =
      ap (xor_to old) count ∙ xor_to_split old (from + p) r
      ∙ ap₂ ◌⊕◌ (xor_to_split old from p ∙ ap (λ s. s ⊕ x) (xor_to_same old new from front))
      (xor_to_same (λ j. old (from + p + j)) (λ j. new (from + q + j)) r rest) in
      let now : xor_to new (length after) ≡ (a ⊕ y) ⊕ z =
      ap (xor_to new) recount ∙ xor_to_split new (from + q) r ∙ ap (λ s. s ⊕ z) (xor_to_split new from q) in
      ap₂ ◌⊕◌ before now ∙ xor_back (a ⊕ x) (a ⊕ y) z ∙ xor_front a x y

-- The blocks worked by an edit in place.
module _ (f b : List ℕ → List ℕ) (s : State) (bs : List (List ℕ)) (limit at : ℕ) (d : List ℕ) (n old_end new_end : ℕ)
    (can : Workable s bs limit at d n old_end new_end) (w : List ℕ)
    (mask : w ≡ times (2 * (at / 32)) step (base f s.key.bytes Text s.nonce.bytes))
    (mid after : List (List ℕ)) (r : Resealed f b w at d n (at / 32) new_end bs mid) (kept : after ≡ take (blocks_in n) mid) where
  abbrev cipher : Cipher
  cipher = under f b s

  abbrev change : Edit
  change = laid_edit cipher s bs at d n new_end

  new_length : length change.text ≡ n
  new_length = length_laid (text_in cipher s bs) at d n

  -- the opened block has the text's bytes
  old_bytes : (i : ℕ) (odd : List ℕ) → odd ≡ times (2 * (i + 1) - 1) step (base f s.key.bytes Text s.nonce.bytes)
      → (j : ℕ) → j < 32 → 32 * i + j < length (text_in cipher s bs) → get_or (plain_in b odd bs i) j 0 ≡ get_or (text_in cipher s bs) (32 * i + j) 0
  old_bytes i odd is j h k =
      let long = length_opened cipher bs s.length in
      let count = can.count in
      let inside : i < length bs = omega arith in
      let ei : i ≡ (32 * i + j) / 32 = omega arith in
      let ej : j ≡ (32 * i + j) % 32 = omega arith in
      ap (λ p. get_or p j 0) (cond-true (ltb i (length bs)) (masked b odd (get_or bs i [])) (replicate 32 0) (lt-ltb i (length bs) inside))
      ∙ ap (λ m. get_or (masked b m (get_or bs i [])) j 0) is
      ∙ ap₂ (λ x y. get_or (cipher.dec (x + 1) (get_or bs x [])) y 0) ei ej
      ∙ sym (opened_at cipher bs s.length (32 * i + j) (omega arith))

  resealed_is : (i : ℕ) → at / 32 ≤ i → resealed f b (odd_from w (at / 32) i) at d n bs i ≡ cipher.enc (i + 1) (block_at change.text (i + 1))
  unfolding resealed
  resealed_is i h =
      let odd = odd_is f b s w (at / 32) mask i h in
      let long = length_opened cipher bs s.length in
      let first = can.start.0 in
      let covered = can.covered in
      ap (λ x. masked f (odd_from w (at / 32) i) x)
      (laid_is_block (text_in cipher s bs) at d n (omega arith) (omega arith) i (plain_in b (odd_from w (at / 32) i) bs i) (old_bytes i (odd_from w (at / 32) i) odd))
      ∙ ap (λ m. masked f m (block_at change.text (i + 1))) odd

  long_enough : blocks_in n ≤ length mid
  long_enough = go can.rest
    where
      go : ((old_end ≡ length bs) × (new_end ≡ blocks_in n)) ⊎ ((old_end ≡ new_end) × (n ≡ s.length)) → blocks_in n ≤ length mid
      go (inl h) = omega (arith, r.count, h.1)
      go (inr h) = omega (arith, r.count, h.1, can.count)

  new_count : length after ≡ blocks_in n
  new_count = ap length kept ∙ (length-take (blocks_in n) mid ∙ omega (arith, long_enough))

  worked_at : (i : ℕ) → i < blocks_in n → get_or after i [] ≡ get_or mid i []
  worked_at i h = ap (λ x. get_or x i []) kept ∙ get_or-take (blocks_in n) mid i [] h

  pub worked_list : after ≡ altered cipher change bs
  worked_list =
      ext_get_or [] after (altered cipher change bs) (new_count ∙ sym (length_altered cipher change bs ∙ ap blocks_in new_length))
      (λ i h. let l : i < blocks_in n = omega (arith, new_count) in worked_at i l ∙ go i l (cases_lt i (at / 32)) (cases_lt i new_end))
    where
      go : (i : ℕ) → i < blocks_in n → (i < at / 32) ⊎ (at / 32 ≤ i) → (i < new_end) ⊎ (new_end ≤ i) → get_or mid i [] ≡ get_or (altered cipher change bs) i []
      go i l (inl a) z = r.before i a ∙ sym (altered_outside cipher change bs i (omega (arith, new_length)) (inl a))
      go i l (inr a) (inl z) =
          r.inside i a z ∙ resealed_is i a ∙ sym (altered_inside cipher change bs i (omega (arith, new_length)) a z)
      go i l (inr a) (inr z) = r.behind i z ∙ sym (altered_outside cipher change bs i (omega (arith, new_length)) (inr z))

  -- a block that is the last neither before nor after adds the same
  same_adds : (k : ℕ) → (k ≡ length bs → ⊥) → (k ≡ length after → ⊥) → block after k ≡ block bs k
      → adds cipher (length bs) k (block bs k) ≡ adds cipher (length after) k (block after k)
  unfolding adds
  same_adds k x y e =
      cond-false (eqb k (length bs)) (block bs k) (cipher.con k (block bs k)) (ne_eqb k (length bs) x)
      ∙ ap (cipher.con k) (sym e)
      ∙ sym (cond-false (eqb k (length after)) (block after k) (cipher.con k (block after k)) (ne_eqb k (length after) y))

  front : (k : ℕ) → 0 < k → k ≤ at / 32 → adds cipher (length bs) k (block bs k) ≡ adds cipher (length after) k (block after k)
  front k p q =
      let first = can.start.0 in
      let last = can.start.1 in
      same_adds k (λ e. omega (arith, can.count)) (λ e. omega (arith, new_count))
      (worked_at (k - 1) (omega arith) ∙ r.before (k - 1) (omega arith))

  abbrev left : ℕ
  left = length bs - old_end

  rest : (j : ℕ) → 0 < j → j ≤ left
      → adds cipher (length bs) (at / 32 + (old_end - at / 32) + j) (block bs (at / 32 + (old_end - at / 32) + j))
      ≡ adds cipher (length after) (at / 32 + (new_end - at / 32) + j) (block after (at / 32 + (new_end - at / 32) + j))
  rest j p q = go can.rest
    where
      go : ((old_end ≡ length bs) × (new_end ≡ blocks_in n)) ⊎ ((old_end ≡ new_end) × (n ≡ s.length))
          → adds cipher (length bs) (at / 32 + (old_end - at / 32) + j) (block bs (at / 32 + (old_end - at / 32) + j))
          ≡ adds cipher (length after) (at / 32 + (new_end - at / 32) + j) (block after (at / 32 + (new_end - at / 32) + j))
      go (inl h) = absurd (omega (arith, h.0))
      go (inr h) =
          let low = can.old_part in
          let number : at / 32 + (old_end - at / 32) + j ≡ old_end + j = omega arith in
          let renumber : at / 32 + (new_end - at / 32) + j ≡ old_end + j = omega (arith, h.0) in
          let count : length bs ≡ length after = can.count ∙ (omega (arith, h.1, new_count)) in
          let same : block bs (old_end + j) ≡ block after (old_end + j) =
          sym (worked_at (old_end + j - 1) (omega (arith, new_count)) ∙ r.behind (old_end + j - 1) (omega (arith, h.0))) in
          ap (λ k. adds cipher (length bs) k (block bs k)) number
          ∙ ap₂ (λ m x. adds cipher m (old_end + j) x) count same
          ∙ ap (λ k. adds cipher (length after) k (block after k)) (sym renumber)

  pub worked_sum : total cipher bs ⊕ total cipher after ≡ part_total f w bs (at / 32) (old_end - at / 32) ⊕ part_total f w after (at / 32) (new_end - at / 32)
  worked_sum =
      let low = can.old_part in
      let high = can.new_part in
      totals_part cipher bs after (at / 32) (old_end - at / 32) (new_end - at / 32) left (omega arith) (recount can.rest) front rest
      ∙ sym (ap₂ ◌⊕◌ (part_is f b s w (at / 32) mask bs (old_end - at / 32)) (part_is f b s w (at / 32) mask after (new_end - at / 32)))
    where
      recount : ((old_end ≡ length bs) × (new_end ≡ blocks_in n)) ⊎ ((old_end ≡ new_end) × (n ≡ s.length)) → length after ≡ at / 32 + (new_end - at / 32) + left
      recount (inl h) = let high = can.new_part in omega (arith, h.0, h.1, new_count)
      recount (inr h) = let high = can.new_part in let low = can.old_part in omega (arith, h.0, h.1, new_count, can.count)

  -- the state that the code makes
  pub worked_state : (given taken part sum : List ℕ) → given ≡ part_total f w bs (at / 32) (old_end - at / 32)
      → taken ≡ part_total f w after (at / 32) (new_end - at / 32) → part ≡ given ⊕ taken → sum ≡ s.sum ⊕ part
      → restated s n s.label sum ≡ edited cipher change s bs
  worked_state given taken part sum g t p e =
      let changed : part ≡ total cipher bs ⊕ total cipher (altered cipher change bs) =
      p ∙ ap₂ ◌⊕◌ g t ∙ sym worked_sum ∙ ap (λ x. total cipher bs ⊕ total cipher x) worked_list in
      ap₂ (λ m x. restated s m s.label x) (sym new_length) (e ∙ ap (λ x. s.sum ⊕ x) changed)
