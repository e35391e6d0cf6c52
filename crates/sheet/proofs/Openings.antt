-- Opening takes what some text seals to, and that text is one.
use Rattle.std.proofs.Common.{◌≡◌, ℕ, ◌+◌, ◌-◌, ◌*◌, ◌/◌, ◌%◌, ◌<◌, ◌≤◌, true, false, ◌||◌, eqb, ltb, ◌⊎◌, List, [], ◌∷◌, length, get_or, is_some, Some, None, Ok, Option, Result, unwrap_or, sym, refl, ap, ◌∙◌, ap₂, subst, inl, inr, arith}
use Rattle.std.specs.Result.{OnOk}
use Rattle.std.proofs.lemmas.List.{get_or_past}
use Rattle.std.proofs.lemmas.Bool.{cases_lt, cases_order, eq-eqb, eqb-true, le-ltb, ltb-false, ne_eqb, eqb-false, not_from_true, not-false, or_from, or_parts}
use Rattle.permutation.specs.Blocks.{Block}
use Rattle.permutation.specs.BlockLaws.{same_entries}
use Rattle.modes.specs.declared.refusal.Refusal.{Refusal}
use Rattle.modes.specs.Keys.{bad_key, bad_nonce, bad_tag}
use Rattle.modes.specs.PlateLaws.{same_true, true_same}
use Rattle.modes.specs.RefusalLaws.{answer_ok, taken_rest, taken_more}
use Rattle.modes.specs.Sums.{padded_at, block_at, same, too_long}
use Rattle.modes.specs.SumLaws.{length_block_at, padded_inside, padded_end, padded_past}
use Rattle.sheet.specs.declared.state.State.{State}
use Rattle.sheet.specs.Calls.{no_blocks, wrong_tag, bad_padding, state_with, last_plain, found_length, open_answer}
use Rattle.sheet.specs.Ciphers.{Cipher, Lawful}
use Rattle.sheet.specs.Opening.{AllBytes, sealed_state, Seals, OpensExactly}
use Rattle.sheet.specs.Sealing.{blocks_in, sealed, tag_of, opened, text_end, Ends}
use Rattle.sheet.proofs.Ending.{end_ends, ends_end}
use Rattle.sheet.proofs.Texts.{block_byte, length_sealed, is_sealed, length_opened, opened_at, dec_sealed, opened_sealed}

-- each entry of the list is a block
abbrev pub Blocks : List (List ℕ) → Type 0
Blocks bs = (i : ℕ) → i < length bs → Block (get_or bs i [])

-- the last block of a padded text ends where the text does
pub ends_of : (t : List ℕ) → Ends (block_at t (length t / 32 + 1)) (length t % 32)
ends_of t = record {
  inside = omega arith;
  mark = block_byte t (length t / 32) (length t % 32) (omega arith) ∙ padded_end t _ (omega arith);
  rest = λ j a b. block_byte t (length t / 32) j b ∙ padded_past t _ (omega arith);
}

-- the text that the blocks hold, where the last has n bytes of it
abbrev held_size : List (List ℕ) → ℕ → ℕ
held_size bs n = 32 * (length bs - 1) + n

-- What opening finds seals to the blocks again.
module _ (c : Cipher) (laws : Lawful c) (bs : List (List ℕ)) (bl : Blocks bs) (some : 0 < length bs) (n : ℕ) (e : Ends (last_plain c bs) n) where
  pub found_count : length bs ≡ blocks_in (length (opened c bs (held_size bs n)))
  found_count = let i = e.inside in omega (arith, length_opened c bs (held_size bs n))

  last_place : last_plain c bs ≡ c.dec (length bs - 1 + 1) (get_or bs (length bs - 1) [])
  last_place = let last : length bs ≡ length bs - 1 + 1 = omega arith in ap (λ k. c.dec k (get_or bs (length bs - 1) [])) last

  -- byte j of opened block i is that byte of the padded text
  found_byte : (i j : ℕ) → i < length bs → j < 32
      → padded_at (opened c bs (held_size bs n)) (32 * i + j) ≡ get_or (c.dec (i + 1) (get_or bs i [])) j 0
  found_byte i j hi hj = go (cases_order (32 * i + j) (held_size bs n))
    where
      go : (32 * i + j ≡ held_size bs n) ⊎ ((32 * i + j < held_size bs n) ⊎ (held_size bs n < 32 * i + j))
          → padded_at (opened c bs (held_size bs n)) (32 * i + j) ≡ get_or (c.dec (i + 1) (get_or bs i [])) j 0
      go (inl m) =
          let inside = e.inside in
          let ei : length bs - 1 ≡ i = omega arith in
          let ej : n ≡ j = omega arith in
          padded_end _ (32 * i + j) (length_opened c bs (held_size bs n) ∙ sym m) ∙ sym e.mark
          ∙ ap (λ p. get_or p n 0) last_place
          ∙ ap₂ (λ x y. get_or (c.dec (x + 1) (get_or bs x [])) y 0) ei ej
      go (inr (inl l)) =
          let ei : (32 * i + j) / 32 ≡ i = omega arith in
          let ej : (32 * i + j) % 32 ≡ j = omega arith in
          padded_inside _ (32 * i + j) (omega (arith, length_opened c bs (held_size bs n)))
          ∙ opened_at c bs (held_size bs n) (32 * i + j) l
          ∙ ap₂ (λ x y. get_or (c.dec (x + 1) (get_or bs x [])) y 0) ei ej
      go (inr (inr l)) =
          let inside = e.inside in
          let ei : length bs - 1 ≡ i = omega arith in
          let past : n < j = omega arith in
          padded_past _ (32 * i + j) (omega (arith, length_opened c bs (held_size bs n)))
          ∙ sym (e.rest j past hj) ∙ ap (λ p. get_or p j 0) last_place
          ∙ ap (λ x. get_or (c.dec (x + 1) (get_or bs x [])) j 0) ei

  found_block : (i : ℕ) → i < length bs → block_at (opened c bs (held_size bs n)) (i + 1) ≡ c.dec (i + 1) (get_or bs i [])
  found_block i h =
      same_entries 32 _ _ (length_block_at _ (i + 1)) (laws.dec_block (i + 1) (get_or bs i []) (bl i h)).0
      (λ j l. block_byte _ i j l ∙ found_byte i j h l)

  pub found_seals : bs ≡ sealed c (opened c bs (held_size bs n))
  found_seals =
      is_sealed c _ bs found_count
      (λ i h.
      let l : i < length bs = omega (arith, found_count) in
      sym (ap (c.enc (i + 1)) (found_block i l) ∙ laws.enc_dec (i + 1) (get_or bs i []) (bl i l)))

  pub found_bytes : AllBytes (opened c bs (held_size bs n))
  found_bytes i = go (cases_lt i (held_size bs n))
    where
      go : (i < held_size bs n) ⊎ (held_size bs n ≤ i) → get_or (opened c bs (held_size bs n)) i 0 < 256
      go (inl l) =
          let inside = e.inside in
          let k : i / 32 < length bs = omega arith in
          let b = (laws.dec_block (i / 32 + 1) (get_or bs (i / 32) []) (bl (i / 32) k)).1 (i % 32) (omega arith) in
          omega (arith, opened_at c bs (held_size bs n) i l)
      go (inr l) = omega (arith, get_or_past (opened c bs (held_size bs n)) i 0 (omega (arith, length_opened c bs (held_size bs n))))

some_is : (o : Option ℕ) → is_some o ≡ true → o ≡ Some (unwrap_or o 0)
some_is None h = let z : ◌≡◌ {A = ℕ} 0 1 = cc in absurd (omega arith)
some_is (Some n) h = refl

-- a key and a nonce of the right sizes make a lawful cipher
module _ (c : Cipher) (key nonce label tag : List ℕ) (bs : List (List ℕ)) (lawful : length key ≡ 16 → length nonce ≡ 13 → Lawful c) where
  -- a text that seals to the blocks and the tag is found
  pub seals_taken : (t : List ℕ) → Seals c key nonce label t bs tag → open_answer c key nonce label tag bs ≡ Ok (sealed_state c key nonce label t)
  seals_taken t z =
      let laws = lawful z.key_size z.nonce_size in
      let count : length bs ≡ blocks_in (length t) = ap length z.blocks_are ∙ length_sealed c t in
      let short = z.text_short in
      let right : tag ≡ tag_of c label bs = z.tag_is ∙ ap (tag_of c label) (sym z.blocks_are) in
      let place : length bs - 1 ≡ length t / 32 = omega arith in
      let last : length bs ≡ length t / 32 + 1 = omega arith in
      let plain : last_plain c bs ≡ block_at t (length t / 32 + 1) =
      ap₂ (λ k i. c.dec k (get_or bs i [])) last place
      ∙ ap (λ x. c.dec (length t / 32 + 1) (get_or x (length t / 32) [])) z.blocks_are
      ∙ dec_sealed c laws t z.text_bytes (length t / 32) (omega arith) in
      let end : text_end (last_plain c bs) ≡ Some (length t % 32) = ap text_end plain ∙ ends_end _ _ (ends_of t) in
      let long : found_length c bs ≡ length t = ap (λ o. 32 * (length bs - 1) + unwrap_or o 0) end ∙ omega arith in
      let v = state_with c key nonce label bs (found_length c bs) in
      let none : (eqb (length bs) 0 || ltb 4096 (length bs)) ≡ false =
      or_from (eqb (length bs) 0) (ltb 4096 (length bs)) (ne_eqb (length bs) 0 (λ h. omega arith)) (le-ltb 4096 (length bs) (omega arith)) in
      taken_more (bad_key key) (bad_nonce nonce ∷ bad_tag tag ∷ too_long label ∷ no_blocks bs ∷ wrong_tag tag (tag_of c label bs) ∷ bad_padding (last_plain c bs) ∷ []) v
      (not_from_true (eqb (length key) 16) (eq-eqb (length key) 16 z.key_size))
      ∙ taken_more (bad_nonce nonce) (bad_tag tag ∷ too_long label ∷ no_blocks bs ∷ wrong_tag tag (tag_of c label bs) ∷ bad_padding (last_plain c bs) ∷ []) v
      (not_from_true (eqb (length nonce) 13) (eq-eqb (length nonce) 13 z.nonce_size))
      ∙ taken_more (bad_tag tag) (too_long label ∷ no_blocks bs ∷ wrong_tag tag (tag_of c label bs) ∷ bad_padding (last_plain c bs) ∷ []) v
      (not_from_true (eqb (length tag) 16) (eq-eqb (length tag) 16 (ap length z.tag_is ∙ laws.fin_size _ _)))
      ∙ taken_more (too_long label) (no_blocks bs ∷ wrong_tag tag (tag_of c label bs) ∷ bad_padding (last_plain c bs) ∷ []) v
      (le-ltb 4096 (length label) z.label_short)
      ∙ taken_more (no_blocks bs) (wrong_tag tag (tag_of c label bs) ∷ bad_padding (last_plain c bs) ∷ []) v none
      ∙ taken_more (wrong_tag tag (tag_of c label bs)) (bad_padding (last_plain c bs) ∷ []) v
      (not_from_true (same tag (tag_of c label bs)) (true_same tag (tag_of c label bs) right))
      ∙ taken_more (bad_padding (last_plain c bs)) [] v (not_from_true (is_some (text_end (last_plain c bs))) (ap is_some end))
      ∙ ap Ok (ap₂ (state_with c key nonce label) z.blocks_are long)

  -- what is taken was sealed from what is read
  pub taken_seals : Blocks bs → (s : State) → open_answer c key nonce label tag bs ≡ Ok s
      → (t : List ℕ) × Seals c key nonce label t bs tag × (s ≡ sealed_state c key nonce label t) × (opened c bs s.length ≡ t)
  taken_seals bl s h =
      let v = state_with c key nonce label bs (found_length c bs) in
      let k = taken_rest (bad_key key) (bad_nonce nonce ∷ bad_tag tag ∷ too_long label ∷ no_blocks bs ∷ wrong_tag tag (tag_of c label bs) ∷ bad_padding (last_plain c bs) ∷ []) v s (sym h) in
      let o = taken_rest (bad_nonce nonce) (bad_tag tag ∷ too_long label ∷ no_blocks bs ∷ wrong_tag tag (tag_of c label bs) ∷ bad_padding (last_plain c bs) ∷ []) v s k.1 in
      let g = taken_rest (bad_tag tag) (too_long label ∷ no_blocks bs ∷ wrong_tag tag (tag_of c label bs) ∷ bad_padding (last_plain c bs) ∷ []) v s o.1 in
      let l = taken_rest (too_long label) (no_blocks bs ∷ wrong_tag tag (tag_of c label bs) ∷ bad_padding (last_plain c bs) ∷ []) v s g.1 in
      let b = taken_rest (no_blocks bs) (wrong_tag tag (tag_of c label bs) ∷ bad_padding (last_plain c bs) ∷ []) v s l.1 in
      let w = taken_rest (wrong_tag tag (tag_of c label bs)) (bad_padding (last_plain c bs) ∷ []) v s b.1 in
      let p = taken_rest (bad_padding (last_plain c bs)) [] v s w.1 in
      let key_size = eqb-true (length key) 16 (not-false (eqb (length key) 16) k.0) in
      let nonce_size = eqb-true (length nonce) 13 (not-false (eqb (length nonce) 13) o.0) in
      let laws = lawful key_size nonce_size in
      let is : s ≡ v = (answer_ok [] v s s (sym p.1)).0 in
      let parts = or_parts (eqb (length bs) 0) (ltb 4096 (length bs)) b.0 in
      let nonzero = eqb-false (length bs) 0 parts.0 in
      let few : length bs ≤ 4096 = ltb-false 4096 (length bs) parts.1 in
      let some : 0 < length bs = go (cases_lt 0 (length bs)) nonzero in
      let n : ℕ = unwrap_or (text_end (last_plain c bs)) 0 in
      let e : Ends (last_plain c bs) n = end_ends _ n (some_is (text_end (last_plain c bs)) (not-false (is_some (text_end (last_plain c bs))) p.0)) in
      let inside = e.inside in
      let t : List ℕ = opened c bs (held_size bs n) in
      let q : bs ≡ sealed c t = found_seals c laws bs bl some n e in
      let long : length t ≡ held_size bs n = length_opened c bs (held_size bs n) in
      let right : tag ≡ tag_of c label bs = same_true tag (tag_of c label bs) (not-false (same tag (tag_of c label bs)) w.0) in (
        t,
        record {
          key_size = key_size;
          nonce_size = nonce_size;
          label_short = ltb-false 4096 (length label) l.0;
          text_bytes = found_bytes c laws bs bl some n e;
          text_short = omega (arith, long);
          blocks_are = q;
          tag_is = right ∙ ap (tag_of c label) q;
        },
        is ∙ ap₂ (state_with c key nonce label) q (sym long),
        ap (λ x. opened c bs x.length) is,
      )
    where
      go : (0 < length bs) ⊎ (length bs ≤ 0) → (length bs ≡ 0 → ⊥) → 0 < length bs
      go (inl x) h = x
      go (inr x) h = absurd (h (omega arith))

  pub one_text : (t u : List ℕ) → Seals c key nonce label t bs tag → Seals c key nonce label u bs tag → t ≡ u
  one_text t u a b =
      let laws = lawful a.key_size a.nonce_size in
      let e = sym (seals_taken t a) ∙ seals_taken u b in
      let n : length t ≡ length u = (let s : sealed_state c key nonce label t ≡ sealed_state c key nonce label u = cc in ap (λ x. x.length) s) in
      let same_blocks : sealed c t ≡ sealed c u = sym a.blocks_are ∙ b.blocks_are in
      sym (opened_sealed c laws t a.text_bytes) ∙ ap₂ (opened c) same_blocks n ∙ opened_sealed c laws u b.text_bytes

  pub opens_exactly : (r : Result State Refusal) → OnOk r (Blocks bs) → r ≡ open_answer c key nonce label tag bs → OpensExactly c key nonce label tag bs r
  opens_exactly r bl is = record {
    taken_seals = λ s h. taken_seals (subst (λ (x : Result State Refusal). OnOk x (Blocks bs)) h bl) s (sym is ∙ h);
    seals_taken = λ t z. is ∙ seals_taken t z;
    one_text = one_text;
  }
