-- A sheet that stands for a text and a label stands for the edited ones after an edit.
use Rattle.std.proofs.Common.{◌≡◌, ℕ, ◌+◌, ◌-◌, ◌*◌, ◌/◌, ◌<◌, ◌≤◌, ◌⊎◌, List, [], length, get_or, Ok, sym, refl, ap, ◌∙◌, subst, ap₂, inl, inr, arith}
use Rattle.std.proofs.lemmas.List.{length-append, get_or_past, take_all}
use Rattle.std.proofs.lemmas.Bool.{cases_lt, cases_order, ltb-false}
use Rattle.permutation.specs.Blocks.{◌⊕◌}
use Rattle.permutation.specs.BlockLaws.{same_entries, xors_comm}
use Rattle.modes.specs.Refusals.{answer}
use Rattle.modes.specs.RefusalLaws.{taken_rest}
use Rattle.modes.specs.Sums.{padded_at, block_at, too_long}
use Rattle.modes.specs.SumLaws.{length_block_at, padded_inside, padded_end, padded_past}
use Rattle.sheet.specs.declared.state.State.{State}
use Rattle.sheet.specs.Calls.{under}
use Rattle.sheet.specs.Ciphers.{Cipher, Lawful}
use Rattle.sheet.specs.Edits.{Edit, altered, edited, restated, overwritten, lengthened, shortened, write_edit, append_edit, cut_edit, text_in, write_claims, append_claims, relabel_claims, written, written_blocks, appended, appended_blocks, cut_back, cut_blocks, relabelled}
use Rattle.sheet.specs.Laying.{laid_text}
use Rattle.sheet.specs.Opening.{AllBytes}
use Rattle.sheet.specs.Sealing.{blocks_in, sealed, total, sum_of, opened}
use Rattle.sheet.specs.Standing.{Stands}
use Rattle.sheet.proofs.Altering.{xor_back, xor_front, length_altered, altered_inside, altered_outside}
use Rattle.sheet.proofs.Applied.{edit_some, edit_path}
use Rattle.sheet.proofs.Claims.{range_found, append_found}
use Rattle.sheet.proofs.Layings.{length_laid, laid_inside, laid_outside, length_overwritten, overwritten_laid, lengthened_laid, length_shortened, shortened_laid}
use Rattle.sheet.proofs.Texts.{block_byte, is_sealed, sealed_at, length_sealed, opened_sealed}

-- x is given up and y is taken
exchanged : (a x y : List ℕ) → (a ⊕ x) ⊕ (x ⊕ y) ≡ a ⊕ y
exchanged a x y = ap (λ z. (a ⊕ x) ⊕ z) (xors_comm 32 x y) ∙ xor_back a y x

-- blocks outside the range are the same blocks of the old text
pub record Suits (e : Edit) (t : List ℕ) : Type 0 where
  pub bytes : AllBytes e.text
  pub kept : (i : ℕ) → i < blocks_in (length e.text) → (i < e.from) ⊎ (e.to ≤ i)
      → (i < blocks_in (length t)) × (block_at t (i + 1) ≡ block_at e.text (i + 1))

-- a state is its fields
state_path : (s : State) (m n : ℕ) (a b x y : List ℕ) → m ≡ n → a ≡ b → x ≡ y → restated s m a x ≡ restated s n b y
state_path s m n a b x y p q r = ap₂ (λ k l. restated s k l x) p q ∙ ap (restated s n b) r

module _ (f b : List ℕ → List ℕ) (s : State) (bs : List (List ℕ)) (t text_label : List ℕ) (stands : Stands f b s bs t text_label) where
  abbrev c : Cipher
  c = under f b s

  abbrev key : List ℕ
  key = s.key.bytes

  abbrev nonce : List ℕ
  nonce = s.nonce.bytes

  label_is : s.label ≡ c.label_sum text_label
  label_is = ap (λ x. x.label) stands.state_is

  sum_is : s.sum ≡ sum_of c text_label (sealed c t)
  sum_is = ap (λ x. x.sum) stands.state_is

  pub length_is : s.length ≡ length t
  length_is = ap (λ x. x.length) stands.state_is

  -- the sheet with the blocks of another text and the sum that these have
  pub standing : (t' label' : List ℕ) (bs' : List (List ℕ)) (s' : State) → AllBytes t' → length t' ≤ 131071 → length label' ≤ 4096 → bs' ≡ sealed c t'
      → s' ≡ restated s (length t') (c.label_sum label') (sum_of c label' (sealed c t')) → Stands f b s' bs' t' label'
  standing t' label' bs' s' bytes short label_short blocks is =
      subst (λ x. Stands f b x bs' t' label') (sym is)
      (record {
        seals = record {
          key_size = stands.seals.key_size;
          nonce_size = stands.seals.nonce_size;
          label_short = label_short;
          text_bytes = bytes;
          text_short = short;
          blocks_are = blocks;
          tag_is = ap (λ m. c.fin m (sum_of c label' (sealed c t'))) (sym (length_sealed c t'));
        };
        state_is = refl;
      })

  module _ (laws : Lawful c) where
    -- what the sheet's blocks hold is the text
    pub text_is : text_in c s bs ≡ t
    text_is = ap₂ (opened c) stands.seals.blocks_are length_is ∙ opened_sealed c laws t stands.seals.text_bytes

    module _ (e : Edit) (suits : Suits e t) where
      altered_sealed : altered c e bs ≡ sealed c e.text
      altered_sealed =
          is_sealed c e.text (altered c e bs) (length_altered c e bs)
          (λ i h. go i h (cases_lt i e.from) (cases_lt i e.to))
        where
          away : (i : ℕ) → i < blocks_in (length e.text) → (i < e.from) ⊎ (e.to ≤ i) → get_or (altered c e bs) i [] ≡ c.enc (i + 1) (block_at e.text (i + 1))
          away i h o =
              let k = suits.kept i h o in
              altered_outside c e bs i h o ∙ ap (λ x. get_or x i []) stands.seals.blocks_are ∙ sealed_at c t i k.0 ∙ ap (c.enc (i + 1)) k.1

          go : (i : ℕ) → i < blocks_in (length e.text) → (i < e.from) ⊎ (e.from ≤ i) → (i < e.to) ⊎ (e.to ≤ i)
              → get_or (altered c e bs) i [] ≡ c.enc (i + 1) (block_at e.text (i + 1))
          go i h (inl a) z = away i h (inl a)
          go i h (inr a) (inl z) = altered_inside c e bs i h a z
          go i h (inr a) (inr z) = away i h (inr z)

      pub edited_stands : length e.text ≤ 131071 → Stands f b (edited c e s bs) (altered c e bs) e.text text_label
      edited_stands short =
          let old = total c (sealed c t) in
          let new = total c (sealed c e.text) in
          let sum : s.sum ⊕ (total c bs ⊕ total c (altered c e bs)) ≡ sum_of c text_label (sealed c e.text) =
          ap₂ ◌⊕◌ sum_is (ap₂ (λ x y. total c x ⊕ total c y) stands.seals.blocks_are altered_sealed) ∙ exchanged (c.label_sum text_label) old new in
          standing e.text text_label (altered c e bs) (edited c e s bs) suits.bytes short stands.seals.label_short altered_sealed
          (state_path s _ _ _ _ _ _ refl label_is sum)

-- Blocks of texts that agree there.
block_same : (t u : List ℕ) (i : ℕ) → ((j : ℕ) → j < 32 → padded_at t (32 * i + j) ≡ padded_at u (32 * i + j)) → block_at t (i + 1) ≡ block_at u (i + 1)
block_same t u i f =
    same_entries 32 _ _ (length_block_at t (i + 1)) (length_block_at u (i + 1))
    (λ j h. block_byte t i j h ∙ f j h ∙ sym (block_byte u i j h))

padded_same : (t u : List ℕ) (p : ℕ) → length t ≡ length u → (p < length t → get_or t p 0 ≡ get_or u p 0) → padded_at t p ≡ padded_at u p
padded_same t u p e f = go (cases_order p (length t))
  where
    go : (p ≡ length t) ⊎ ((p < length t) ⊎ (length t < p)) → padded_at t p ≡ padded_at u p
    go (inl x) = padded_end t p (sym x) ∙ sym (padded_end u p (sym (x ∙ e)))
    go (inr (inl x)) = padded_inside t p x ∙ f x ∙ sym (padded_inside u p (omega arith))
    go (inr (inr x)) = padded_past t p x ∙ sym (padded_past u p (omega arith))

-- Bytes laid into a text, as an edit of it.
module _ (t : List ℕ) (at : ℕ) (d : List ℕ) (n : ℕ) (text_bytes : AllBytes t) (bytes : AllBytes d) where
  laid_bytes : AllBytes (laid_text t at d n)
  laid_bytes i = go (cases_lt i n) (cases_lt i at) (cases_lt i (at + length d))
    where
      go : (i < n) ⊎ (n ≤ i) → (i < at) ⊎ (at ≤ i) → (i < at + length d) ⊎ (at + length d ≤ i) → get_or (laid_text t at d n) i 0 < 256
      go (inl h) (inl a) z = omega (arith, laid_outside t at d n i h (inl a), text_bytes i)
      go (inl h) (inr a) (inl z) = omega (arith, laid_inside t at d n i h a z, bytes (i - at))
      go (inl h) (inr a) (inr z) = omega (arith, laid_outside t at d n i h (inr z), text_bytes i)
      go (inr h) a z = omega (arith, get_or_past (laid_text t at d n) i 0 (omega (arith, length_laid t at d n)))

  -- the blocks up to number `to` change, and beyond them there is nothing or nothing changes
  pub laid_suits : (last : ℕ) → at ≤ length t → at ≤ n → (last ≡ blocks_in n) ⊎ ((n ≡ length t) × (at + length d ≤ 32 * last))
      → Suits (record { from = at / 32; to = last; text = laid_text t at d n }) t
  laid_suits last within start rest = record { bytes = laid_bytes; kept = λ i h o. go i (omega (arith, length_laid t at d n)) o rest }
    where
      early : (i : ℕ) → i < at / 32 → (i < blocks_in (length t)) × (block_at t (i + 1) ≡ block_at (laid_text t at d n) (i + 1))
      early i h = (
        omega arith,
        block_same t (laid_text t at d n) i
            (λ j l.
            let p : 32 * i + j < at = omega arith in
            padded_inside t (32 * i + j) (omega arith) ∙ sym (laid_outside t at d n (32 * i + j) (omega arith) (inl p))
            ∙ sym (padded_inside (laid_text t at d n) (32 * i + j) (omega (arith, length_laid t at d n)))),
      )

      go : (i : ℕ) → i < blocks_in n → (i < at / 32) ⊎ (last ≤ i) → (last ≡ blocks_in n) ⊎ ((n ≡ length t) × (at + length d ≤ 32 * last))
          → (i < blocks_in (length t)) × (block_at t (i + 1) ≡ block_at (laid_text t at d n) (i + 1))
      go i h (inl a) z = early i a
      go i h (inr a) (inl z) = absurd (omega arith)
      go i h (inr a) (inr z) =
          let same = z.0 in
          let far = z.1 in (
            omega arith,
            block_same t (laid_text t at d n) i
                (λ j l.
                padded_same t (laid_text t at d n) (32 * i + j) (sym (length_laid t at d n ∙ same))
                (λ p. sym (laid_outside t at d n (32 * i + j) (omega arith) (inr (omega arith))))),
          )

-- an edit that leaves the text as it is
same_suits : (e : Edit) (t : List ℕ) → e.text ≡ t → AllBytes t → Suits e t
same_suits e t same bytes = record {
  bytes = λ i. subst (λ (x : List ℕ). get_or x i 0 < 256) (sym same) (bytes i);
  kept = λ i h o. (subst (λ (x : List ℕ). i < blocks_in (length x)) same h, ap (λ x. block_at x (i + 1)) (sym same));
}

laid_nothing : (t : List ℕ) (at : ℕ) (d : List ℕ) → length d ≡ 0 → laid_text t at d (length t) ≡ t
laid_nothing t at d none =
    same_entries (length t) _ _ (length_laid t at d (length t)) refl (λ i h. laid_outside t at d (length t) i h (go i (cases_lt i at)))
  where
    go : (i : ℕ) → (i < at) ⊎ (at ≤ i) → (i < at) ⊎ (at + length d ≤ i)
    go i (inl h) = inl h
    go i (inr h) = inr (omega arith)

module _ (t : List ℕ) (bytes : AllBytes t) where
  pub write_suits : (at : ℕ) (d : List ℕ) → at + length d ≤ length t → AllBytes d → Suits (write_edit t at d) t
  write_suits at d fits given = go (cases_lt 0 (length d))
    where
      go : (0 < length d) ⊎ (length d ≤ 0) → Suits (write_edit t at d) t
      go (inl h) =
          subst (λ e. Suits e t)
          (edit_path _ (write_edit t at d) refl (sym (edit_some (length d) (at / 32) ((at + length d + 31) / 32) [] h)) (sym (overwritten_laid t at d fits)))
          (laid_suits t at d (length t) bytes given ((at + length d + 31) / 32) (omega arith) (omega arith) (inr (refl, omega arith)))
      go (inr h) = same_suits (write_edit t at d) t (overwritten_laid t at d fits ∙ laid_nothing t at d (omega arith)) bytes

  pub append_suits : (d : List ℕ) → AllBytes d → Suits (append_edit t d) t
  append_suits d given = go (cases_lt 0 (length d))
    where
      go : (0 < length d) ⊎ (length d ≤ 0) → Suits (append_edit t d) t
      go (inl h) =
          subst (λ e. Suits e t)
          (edit_path _ (append_edit t d) refl (sym (edit_some (length d) (length t / 32) (blocks_in (length t + length d)) [] h)) (sym (lengthened_laid t d)))
          (laid_suits t (length t) d (length t + length d) bytes given (blocks_in (length t + length d)) (omega arith) (omega arith) (inl refl))
      go (inr h) =
          let none : length t + length d ≡ length t = omega arith in
          same_suits (append_edit t d) t (lengthened_laid t d ∙ ap (laid_text t (length t) d) none ∙ laid_nothing t (length t) d (omega arith)) bytes

  pub cut_suits : (n : ℕ) → Suits (cut_edit t n) t
  cut_suits n = go (cases_lt 0 n)
    where
      go : (0 < n) ⊎ (n ≤ 0) → Suits (cut_edit t n) t
      go (inl h) =
          subst (λ e. Suits e t)
          (edit_path _ (cut_edit t n) refl (sym (edit_some n ((length t - n) / 32) (blocks_in (length t - n)) [] h)) (sym (shortened_laid t n)))
          (laid_suits t (length t - n) [] (length t - n) bytes (λ i. omega arith) (blocks_in (length t - n)) (omega arith) (omega arith) (inl refl))
      go (inr h) =
          let none : length t - n ≡ length t = omega arith in
          same_suits (cut_edit t n) t (take_all (length t - n) t (omega arith)) bytes

-- The steps of the calls that are taken.
module _ (f b : List ℕ → List ℕ) (s : State) (bs : List (List ℕ)) (t text_label : List ℕ) (laws : Lawful (under f b s)) (stands : Stands f b s bs t text_label) where
  -- an edit of what the blocks hold is an edit of the text
  by_edit : (change : List ℕ → Edit) → Suits (change t) t → length (change t).text ≤ 131071
      → (s' : State) (bs' : List (List ℕ)) → s' ≡ edited (under f b s) (change (text_in (under f b s) s bs)) s bs → bs' ≡ altered (under f b s) (change (text_in (under f b s) s bs)) bs
      → Stands f b s' bs' (change t).text text_label
  by_edit change suits short s' bs' is are =
      let texts = text_is f b s bs t text_label stands laws in
      subst (λ x. Stands f b x bs' (change t).text text_label) (sym (is ∙ ap (λ x. edited (under f b s) (change x) s bs) texts))
      (subst (λ x. Stands f b (edited (under f b s) (change t) s bs) x (change t).text text_label) (sym (are ∙ ap (λ x. altered (under f b s) (change x) bs) texts))
      (edited_stands f b s bs t text_label stands laws (change t) suits short))

  pub write_step : (at : ℕ) (d : List ℕ) → AllBytes d → Ok (tt {0}) ≡ answer {A = Unit {0}} (write_claims s bs at (length d)) tt
      → (s' : State) (bs' : List (List ℕ)) → s' ≡ written (under f b s) s bs at d → bs' ≡ written_blocks (under f b s) s bs at d
      → Stands f b s' bs' (overwritten t at d) text_label
  write_step at d given says =
      let found = range_found s bs at (length d) tt tt says in
      let fits : at + length d ≤ length t = omega (arith, found.within, length_is f b s bs t text_label stands) in
      by_edit (λ x. write_edit x at d) (write_suits t stands.seals.text_bytes at d fits given) (omega (arith, length_overwritten t at d fits, stands.seals.text_short))

  pub append_step : (d : List ℕ) (limit : ℕ) → AllBytes d → Ok (tt {0}) ≡ answer {A = Unit {0}} (append_claims s limit bs (length d)) tt
      → (s' : State) (bs' : List (List ℕ)) → s' ≡ appended (under f b s) s bs d → bs' ≡ appended_blocks (under f b s) s bs d
      → Stands f b s' bs' (lengthened t d) text_label
  append_step d limit given says =
      let found = append_found s limit bs (length d) tt tt says in
      by_edit (λ x. append_edit x d) (append_suits t stands.seals.text_bytes d given)
      (omega (arith, length-append t d, found.short, length_is f b s bs t text_label stands))

  pub cut_step : (n : ℕ) (s' : State) (bs' : List (List ℕ)) → s' ≡ cut_back (under f b s) s bs n → bs' ≡ cut_blocks (under f b s) s bs n
      → Stands f b s' bs' (shortened t n) text_label
  cut_step n = by_edit (λ x. cut_edit x n) (cut_suits t stands.seals.text_bytes n) (omega (arith, length_shortened t n, stands.seals.text_short))

-- a label needs no block, and the cipher no law
pub relabel_step : (f b : List ℕ → List ℕ) (s : State) (bs : List (List ℕ)) (t text_label new : List ℕ) → Stands f b s bs t text_label
    → Ok (tt {0}) ≡ answer {A = Unit {0}} (relabel_claims new) tt → (s' : State) → s' ≡ relabelled (under f b s) s new → Stands f b s' bs t new
relabel_step f b s bs t text_label new stands says s' is =
    let c = under f b s in
    let short = taken_rest (too_long new) [] tt tt says in
    let blocks = total c (sealed c t) in
    standing f b s bs t text_label stands t new bs s' stands.seals.text_bytes stands.seals.text_short (ltb-false 4096 (length new) short.0) stands.seals.blocks_are
    (is
    ∙ state_path s _ _ _ _ _ _ (length_is f b s bs t text_label stands) refl
    (ap₂ (λ x y. x ⊕ (y ⊕ c.label_sum new)) (sum_is f b s bs t text_label stands) (label_is f b s bs t text_label stands)
    ∙ xor_front (c.label_sum text_label) blocks (c.label_sum new) ∙ xors_comm 32 blocks (c.label_sum new)))
