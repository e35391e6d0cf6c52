-- Receiving is opening what the parts of an envelope carry.
use Rattle.std.proofs.Common.{◌≡◌, ℕ, true, false, cond, eqb, ◌⊎◌, List, [], ◌∷◌, ◌++◌, length, Ok, Err, Result, sym, refl, ap, ◌∙◌, subst, inl, inr, arith}
use Rattle.std.proofs.lemmas.Bool.{cases_Bool, eq-eqb, eqb-true, ne_eqb, le-ltb, not_from_true, not-false}
use Rattle.sheet.specs.Chunks.{wholes, room_of}
use Rattle.sheet.specs.ChunkLaws.{length_chunks}
use Rattle.modes.specs.declared.keys.Key.{Key}
use Rattle.modes.specs.declared.refusal.Refusal.{Refusal}
use Rattle.modes.specs.Keys.{bad_key, bad_nonce, bad_tag}
use Rattle.modes.specs.Refusals.{Claim, answer}
use Rattle.modes.specs.RefusalLaws.{answer_ok, taken_rest, taken_more}
use Rattle.modes.specs.Sums.{too_long}
use Rattle.sheet.specs.declared.state.State.{State}
use Rattle.sheet.specs.Calls.{no_blocks, open_answer}
use Rattle.sheet.specs.Opening.{OpensExactly}
use Rattle.envelope.specs.Layouts.{Fields, Laid}
use Rattle.envelope.specs.Parsing.{told_length, parse_claims, parse_answer, fields_in}
use Rattle.envelope.specs.Receiving.{Arrival, arrival, part_cipher, open_parts, part_claims, part_state, receive_claims, receive_answer, with_parts, PartsOpenExactly, ReceivesExactly}
use Rattle.envelope.proofs.Walking.{err_more, SoundEnvelope}
use Rattle.envelope.proofs.Laying.{sound, sound_laid, laid_sound, laid_fields, laid_parsed, parses_exactly}

with_parts_answer : (f : Fields) (cs : List Claim) (s : State) → with_parts f (answer cs s) ≡ answer cs (arrival s f)
with_parts_answer f [] s = refl
with_parts_answer f (c ∷ cs) s =
    (elim c.holds as (λ b. with_parts f (cond b (Err c.told) (answer cs s)) ≡ cond b (Err c.told) (answer cs (arrival s f)))
    [ true ↦ refl | false ↦ with_parts_answer f cs s ])

with_parts_ok : (f : Fields) (s : State) (r : Result State Refusal) → with_parts f r ≡ Ok (arrival s f) → r ≡ Ok s
with_parts_ok f s (Ok t) h = let e : arrival t f ≡ arrival s f = cc in ap Ok (ap (λ a. a.state) e)
with_parts_ok f s (Err e) h = absurd (cc)

module _ (forth back : List ℕ → List ℕ) (key bytes : List ℕ) where
  -- a key of another length, and an envelope that is none
  key_declined : (k : Key) (e : Refusal) → Err e ≡ answer (bad_key key ∷ []) k → Err e ≡ receive_answer forth back key bytes
  unfolding receive_answer
  key_declined k e h =
      sym
      (err_more (bad_key key ∷ []) (parse_claims bytes ++ part_claims (part_cipher forth back key (fields_in bytes)) (fields_in bytes)) k _ e (sym h))

  parse_declined : length key ≡ 16 → (e : Refusal) → Err e ≡ parse_answer bytes → Err e ≡ receive_answer forth back key bytes
  unfolding receive_answer
  parse_declined size e h =
      let more = part_claims (part_cipher forth back key (fields_in bytes)) (fields_in bytes) in
      rw (eq-eqb (length key) 16 size) (sym (err_more (parse_claims bytes) more (fields_in bytes) _ e (sym h)))

  -- a right key and an envelope leave tag and padding to be judged
  judged : length key ≡ 16 → SoundEnvelope bytes
      → receive_answer forth back key bytes ≡ answer (part_claims (part_cipher forth back key (fields_in bytes)) (fields_in bytes)) (arrival (part_state (part_cipher forth back key (fields_in bytes)) key (fields_in bytes)) (fields_in bytes))
  unfolding receive_answer
  judged size s = rw (eq-eqb (length key) 16 size, s.marked, s.label_inside, s.count_inside, eq-eqb (length bytes) (told_length bytes) s.length_told)

  module _ (f : Fields) (g : Laid bytes f) where
    pub count_is : length (wholes f.blocks) ≡ g.count
    count_is =
        let w = g.whole_blocks in
        let few = g.few_blocks in
        omega (arith, length_chunks (room_of f.blocks) f.blocks)

    -- of the sentences of opening, only those on tag and padding can be true of the parts
    open_rest : length key ≡ 16 → open_parts forth back key f ≡ answer (part_claims (part_cipher forth back key f) f) (part_state (part_cipher forth back key f) key f)
    open_rest size =
        let bs = wholes f.blocks in
        let some = g.some_blocks in
        let few = g.few_blocks in
        let n = count_is in
        rw (
          eq-eqb (length key) 16 size,
          eq-eqb (length f.nonce) 13 g.nonce_size,
          eq-eqb (length f.tag) 16 g.tag_size,
          le-ltb 4096 (length f.label) g.label_short,
          ne_eqb (length bs) 0 (λ h. omega arith),
          le-ltb 4096 (length bs) (omega arith),
        )

    pub as_opened : receive_answer forth back key bytes ≡ with_parts f (open_parts forth back key f)
    unfolding receive_answer
    as_opened = go (cases_Bool (eqb (length key) 16))
      where
        go : (eqb (length key) 16 ≡ true) ⊎ (eqb (length key) 16 ≡ false) → receive_answer forth back key bytes ≡ with_parts f (open_parts forth back key f)
        go (inl t) =
            let size = eqb-true (length key) 16 t in
            judged size (laid_sound bytes f g)
            ∙ ap (λ h. answer (part_claims (part_cipher forth back key h) h) (arrival (part_state (part_cipher forth back key h) key h) h)) (laid_fields bytes f g)
            ∙ sym (with_parts_answer f (part_claims (part_cipher forth back key f) f) (part_state (part_cipher forth back key f) key f))
            ∙ ap (with_parts f) (sym (open_rest size))
        go (inr t) = rw t

  pub taken_laid : (a : Arrival) → receive_answer forth back key bytes ≡ Ok a → Laid bytes a.parts
  unfolding receive_answer
  taken_laid a h =
      let f = fields_in bytes in
      let more = part_claims (part_cipher forth back key f) f in
      let v = arrival (part_state (part_cipher forth back key f) key f) f in
      let is : a ≡ v = (answer_ok (receive_claims forth back key bytes) v a a h).0 in
      let s = sound bytes more v a (taken_rest (bad_key key) (parse_claims bytes ++ more) v a (sym h)).1 in
      subst (Laid bytes) (sym (ap (λ x. x.parts) is)) (sound_laid bytes s)

  -- what receive promises of its answer
  abbrev pub Right : Result Arrival Refusal → Type 0
  Right r = (r ≡ receive_answer forth back key bytes) × ReceivesExactly forth back key bytes r × PartsOpenExactly forth back key bytes

  received : (r : Result Arrival Refusal) → r ≡ receive_answer forth back key bytes → PartsOpenExactly forth back key bytes → Right r
  received r is opens = (
    is,
    subst (ReceivesExactly forth back key bytes) (sym is)
        (record {
          as_opened = as_opened;
          taken_laid = taken_laid;
          taken_seals = λ s f h.
              let g = taken_laid (arrival s f) h in
              (opens f g).taken_seals s (with_parts_ok f s (open_parts forth back key f) (sym (as_opened f g) ∙ h));
          seals_taken = λ f text g z. as_opened f g ∙ ap (with_parts f) ((opens f g).seals_taken text z);
        }),
    opens,
  )

  -- nothing seals under a key of another length
  key_opens : (k : Key) (e : Refusal) → Err e ≡ answer (bad_key key ∷ []) k → PartsOpenExactly forth back key bytes
  key_opens k e h f g =
      let none : length key ≡ 16 → ⊥ =
      λ size.
      let t = taken_more (bad_key key) [] k (not_from_true (eqb (length key) 16) (eq-eqb (length key) 16 size)) in
      (cc) in
      record {
        taken_seals = λ s o.
            absurd
            (none
            (eqb-true (length key) 16
            (not-false (eqb (length key) 16)
            (taken_rest (bad_key key) (bad_nonce f.nonce ∷ bad_tag f.tag ∷ too_long f.label ∷ no_blocks (wholes f.blocks) ∷ part_claims (part_cipher forth back key f) f) _ s (sym o)).0)));
        seals_taken = λ text z. absurd (none z.key_size);
        one_text = λ t u z w. absurd (none z.key_size);
      }

  parse_opens : (e : Refusal) → Err e ≡ parse_answer bytes → PartsOpenExactly forth back key bytes
  parse_opens e h f g =
      let p = laid_parsed bytes f g in
      absurd (cc)

  pub key_refused : (k : Key) (e : Refusal) → Err e ≡ answer (bad_key key ∷ []) k → Right (Err e)
  key_refused k e h = received (Err e) (key_declined k e h) (key_opens k e h)

  pub parse_refused : (k v : Key) → Ok v ≡ answer (bad_key key ∷ []) k → (e : Refusal) → Err e ≡ parse_answer bytes → Right (Err e)
  parse_refused k v h e declined =
      let size = eqb-true (length key) 16 (not-false (eqb (length key) 16) (taken_rest (bad_key key) [] k v h).0) in
      received (Err e) (parse_declined size e declined) (parse_opens e declined)

  -- the parts were opened over their blocks
  pub parts_opened : (f : Fields) (held : List ℕ) (r : Result State Refusal) → Ok f ≡ parse_answer bytes → held ≡ f.blocks
      → r ≡ open_answer (part_cipher forth back key f) key f.nonce f.label f.tag (wholes held)
      → OpensExactly (part_cipher forth back key f) key f.nonce f.label f.tag (wholes held) r
      → Right (with_parts f r)
  parts_opened f held r p h is o =
      let laid : Laid bytes f = (parses_exactly bytes).taken_laid f (sym p) in
      let here : r ≡ open_parts forth back key f =
      is ∙ ap (λ x. open_answer (part_cipher forth back key f) key f.nonce f.label f.tag (wholes x)) h in
      let exact : OpensExactly (part_cipher forth back key f) key f.nonce f.label f.tag (wholes f.blocks) (open_parts forth back key f) =
      subst (λ q. OpensExactly (part_cipher forth back key f) key f.nonce f.label f.tag (wholes f.blocks) q) here
      (subst (λ x. OpensExactly (part_cipher forth back key f) key f.nonce f.label f.tag (wholes x) r) h o) in
      received (with_parts f r) (ap (with_parts f) here ∙ sym (as_opened f laid)) (λ g k.
      let same_parts : f ≡ g = sym (laid_fields bytes f laid) ∙ laid_fields bytes g k in
      subst (λ x. OpensExactly (part_cipher forth back key x) key x.nonce x.label x.tag (wholes x.blocks) (open_parts forth back key x)) same_parts exact)
