-- What is sent has its length, and is received again.
use Rattle.std.proofs.Common.{◌≡◌, ℕ, ◌-◌, ◌*◌, ◌^◌, ◌≤◌, min, Bool, true, cond, not, ltb, List, [], ◌∷◌, length, take, drop, Ok, Err, sym, refl, ap, ◌∙◌, subst, arith, length-take}
use Rattle.std.proofs.lemmas.List.{length-append, take_at}
use Rattle.std.proofs.lemmas.Bool.{eq-eqb, le-ltb, ltb-false}
use Rattle.sheet.specs.Holders.{Bounded}
use Rattle.modes.specs.declared.cipher.Usage.TheVariants.{Text}
use Rattle.modes.specs.Cipher.{base}
use Rattle.modes.specs.CipherLaws.{length_tem}
use Rattle.modes.specs.Keys.{bad_key, bad_nonce, bad_tag, key_of, nonce_of}
use Rattle.modes.specs.PlateLaws.{same_true}
use Rattle.modes.specs.declared.refusal.Layer.TheVariants.{Envelope}
use Rattle.modes.specs.declared.refusal.Reason.TheVariants.{BufferLength, LabelSum}
use Rattle.modes.specs.Refusals.{refusal, answer}
use Rattle.modes.specs.RefusalLaws.{answer_ok, taken_rest}
use Rattle.modes.specs.Sums.{same, too_long, label_sum}
use Rattle.permutation.specs.Blocks.{◌⊕◌}
use Rattle.sheet.specs.declared.state.State.{State}
use Rattle.sheet.specs.Calls.{no_blocks, wrong_tag, bad_padding, last_plain, found_length, state_with, open_claims, open_answer, under}
use Rattle.sheet.specs.Ciphers.{Cipher, cipher_of}
use Rattle.sheet.specs.Sealing.{blocks_in, total, tag_of}
use Rattle.envelope.specs.Layouts.{layout, layout_length, Laid}
use Rattle.envelope.specs.Numbers.{groups}
use Rattle.envelope.specs.Receiving.{arrival, receive_answer, with_parts}
use Rattle.envelope.specs.Sending.{own_tag, sent, sent_fields, send_answer, Arrives}
use Rattle.envelope.specs.Writing.{overlaid}
use Rattle.envelope.proofs.Blocks.{Whole, length_joined, wholes_joined}
use Rattle.envelope.proofs.Numbering.{writes_exactly, few_groups}
use Rattle.envelope.proofs.Receivings.{as_opened}

-- a tag has 16 bytes
length_tag : (forth back : List ℕ → List ℕ) (s : State) → length (own_tag forth back s) ≡ 16
length_tag forth back s =
    simp length-take
    (omega (arith, length_tem forth (base forth s.key.bytes Text s.nonce.bytes) (2 * blocks_in s.length - 1) 1 s.sum))

layout_size : (nonce label : List ℕ) (bs : List (List ℕ)) (tag : List ℕ) → length nonce ≡ 13 → length tag ≡ 16 → Whole bs
    → length (layout nonce label bs tag) ≡ layout_length (length label) (length bs)
unfolding layout
layout_size nonce label bs tag n t w =
    simp length-append (omega (arith, length_joined bs w))

-- the length fits a usize
small_layout : (n m : ℕ) → n ≤ 4096 → m ≤ 4096 → min (layout_length n m) (2 ^ 64 - 1) ≡ layout_length n m
small_layout n m h l = omega (arith, few_groups n, few_groups m)

-- a label of the same label sum opens to the same state
relabelled : (c : Cipher) (key nonce own label tag : List ℕ) (bs : List (List ℕ)) (s : State) → c.label_sum own ≡ c.label_sum label → length label ≤ 4096
    → open_answer c key nonce own tag bs ≡ Ok s → open_answer c key nonce label tag bs ≡ Ok s
relabelled c key nonce own label tag bs s same_sum short h =
    let v = state_with c key nonce own bs (found_length c bs) in
    let tail = wrong_tag tag (tag_of c own bs) ∷ bad_padding (last_plain c bs) ∷ [] in
    let k = taken_rest (bad_key key) (bad_nonce nonce ∷ bad_tag tag ∷ too_long own ∷ no_blocks bs ∷ tail) v s (sym h) in
    let o = taken_rest (bad_nonce nonce) (bad_tag tag ∷ too_long own ∷ no_blocks bs ∷ tail) v s k.1 in
    let g = taken_rest (bad_tag tag) (too_long own ∷ no_blocks bs ∷ tail) v s o.1 in
    let l = taken_rest (too_long own) (no_blocks bs ∷ tail) v s g.1 in
    let b = taken_rest (no_blocks bs) tail v s l.1 in
    rw (k.0, o.0, g.0, le-ltb 4096 (length label) short, b.0)
    (sym
    (subst
    (λ z. Ok s ≡ answer (wrong_tag tag (c.fin (length bs) (z ⊕ total c bs)) ∷ bad_padding (last_plain c bs) ∷ []) (record { key = key_of key; nonce = nonce_of nonce; length = found_length c bs; label = z; sum = z ⊕ total c bs }))
    same_sum b.1))

-- What send has found once it knows how long the envelope is: label and count are right.
pub record Ready (forth back : List ℕ → List ℕ) (s : State) (bs : List (List ℕ)) (label : List ℕ) (own : Bool) (size : ℕ) : Type 0 where
  pub nonced : length s.nonce.bytes ≡ 13
  pub whole : Whole bs
  pub few : length bs ≤ 4096
  pub short : length label ≤ 4096
  pub counted : length bs ≡ blocks_in s.length
  pub own_is : own ≡ same (label_sum forth s.key.bytes label) s.label
  pub size_is : size ≡ length (sent forth back s bs label)

pub ready : (forth back : List ℕ → List ℕ) (s : State) (bs : List (List ℕ)) (room : ℕ) (label : List ℕ) (own : Bool) (count size : ℕ)
    → Bounded bs room → length s.nonce.bytes ≡ 13
    → Ok own ≡ answer (too_long label ∷ []) (same (label_sum forth s.key.bytes label) s.label)
    → count ≡ length bs → count ≡ blocks_in s.length → size ≡ min (layout_length (length label) count) (2 ^ 64 - 1)
    → Ready forth back s bs label own size
ready forth back s bs room label own count size bounded nonced judged is counted long =
    let v = same (label_sum forth s.key.bytes label) s.label in
    let short : length label ≤ 4096 = ltb-false 4096 (length label) (taken_rest (too_long label) [] v own judged).0 in
    let within = bounded.within in
    let small = bounded.small in
    let few : length bs ≤ 4096 = omega arith in
    record {
      nonced = nonced;
      whole = bounded.whole;
      few = few;
      short = short;
      counted = sym is ∙ counted;
      own_is = (answer_ok (too_long label ∷ []) v own own (sym judged)).0;
      size_is =
          long
          ∙ ap (λ m. min (layout_length (length label) m) (2 ^ 64 - 1)) is
          ∙ small_layout (length label) (length bs) short few
          ∙ sym (layout_size s.nonce.bytes label bs (own_tag forth back s) nonced (length_tag forth back s) bounded.whole);
    }

module _ {forth back : List ℕ → List ℕ} {s : State} {bs : List (List ℕ)} {label : List ℕ} {own : Bool} {size : ℕ} (r : Ready forth back s bs label own size) where
  -- the buffer's length and the label sum decide
  pub decided : (n : ℕ)
      → cond (ltb n size) (Err (refusal Envelope BufferLength 0)) (cond (not own) (Err (refusal Envelope LabelSum 0)) (Ok size))
      ≡ send_answer forth back s bs label n
  decided n = rw (le-ltb 4096 (length label) r.short, eq-eqb (length bs) (blocks_in s.length) r.counted, r.size_is, r.own_is)

  sent_laid : Laid (sent forth back s bs label) (sent_fields forth back s bs label)
  unfolding layout
  sent_laid =
      let nonced = r.nonced in
      let short = r.short in
      let counted = r.counted in
      let few = r.few in
      record {
        count = length bs;
        label_form = groups (length label);
        count_form = groups (length bs);
        label_told = (writes_exactly (length label)).encodes (omega arith);
        count_told = (writes_exactly (length bs)).encodes (omega arith);
        nonce_size = nonced;
        label_short = short;
        some_blocks = omega arith;
        few_blocks = few;
        whole_blocks = length_joined bs r.whole;
        tag_size = length_tag forth back s;
        bytes_are = refl;
      }

  sent_opened : (key : List ℕ) → receive_answer forth back key (sent forth back s bs label)
      ≡ with_parts (sent_fields forth back s bs label) (open_answer (cipher_of forth back key s.nonce.bytes) key s.nonce.bytes label (own_tag forth back s) bs)
  sent_opened key =
      as_opened forth back key (sent forth back s bs label) (sent_fields forth back s bs label) sent_laid
      ∙ ap (λ x. with_parts (sent_fields forth back s bs label) (open_answer (cipher_of forth back key s.nonce.bytes) key s.nonce.bytes label (own_tag forth back s) x))
      (wholes_joined bs r.whole r.few)

  module _ (is_own : own ≡ true) where
    sent_same : (old : List ℕ) → open_answer (under forth back s) s.key.bytes s.nonce.bytes old (own_tag forth back s) bs ≡ Ok s
        → receive_answer forth back s.key.bytes (sent forth back s bs label) ≡ Ok (arrival s (sent_fields forth back s bs label))
    sent_same old h =
        let c = under forth back s in
        let v = state_with c s.key.bytes s.nonce.bytes old bs (found_length c bs) in
        let is : s ≡ v = (answer_ok (open_claims c s.key.bytes s.nonce.bytes old (own_tag forth back s) bs) v s s h).0 in
        let own_sum = same_true (c.label_sum label) s.label (sym r.own_is ∙ is_own) in
        let sums : c.label_sum old ≡ c.label_sum label = sym (own_sum ∙ ap (λ x. x.label) is) in
        sent_opened s.key.bytes
        ∙ ap (with_parts (sent_fields forth back s bs label))
        (relabelled c s.key.bytes s.nonce.bytes old label (own_tag forth back s) bs s sums r.short h)

    pub arrives : (out after : List ℕ) → after ≡ overlaid out (sent forth back s bs label) → Arrives forth back s bs label (take size after)
    arrives out after put =
        let x = sent forth back s bs label in
        subst (Arrives forth back s bs label) (sym (ap (take size) put ∙ take_at x (drop (length x) out) size (sym r.size_is)))
        (record { is_sent = refl; laid = sent_laid; as_opened = sent_opened; same_state = sent_same })
