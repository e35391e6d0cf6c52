-- The calls that edit, as edits that are worked in place, and where they change nothing.
use Rattle.std.proofs.Common.{◌≡◌, ℕ, ◌+◌, ◌-◌, ◌/◌, ◌<◌, ◌≤◌, eqb, ◌⊎◌, List, [], length, Ok, sym, refl, ap, ◌∙◌, ap₂, inl, inr, arith}
use Rattle.std.proofs.lemmas.List.{ext_get_or}
use Rattle.std.proofs.lemmas.Bool.{cases_lt, cond-true, cond-false, eq-eqb, ne_eqb}
use Rattle.permutation.specs.Blocks.{◌⊕◌}
use Rattle.permutation.specs.BlockLaws.{xors_assoc, xors_cancel}
use Rattle.modes.specs.Refusals.{Claim, answer}
use Rattle.modes.specs.RefusalLaws.{answer_ok}
use Rattle.sheet.specs.declared.state.State.{State}
use Rattle.sheet.specs.Ciphers.{Cipher}
use Rattle.sheet.specs.Edits.{Edit, edit, altered, edited, restated, text_in, write_edit, append_edit, cut_edit}
use Rattle.sheet.specs.Laying.{laid_text, laid_edit}
use Rattle.sheet.specs.Sealing.{blocks_in, total}
use Rattle.sheet.proofs.Altering.{length_altered, altered_outside}
use Rattle.sheet.proofs.Layings.{overwritten_laid, lengthened_laid, shortened_laid}
use Rattle.sheet.proofs.Texts.{length_opened}

-- a call that is taken answers the state of its edit, and leaves its blocks
pub record Worked (claims : List Claim) (c : Cipher) (e : Edit) (s : State) (bs : List (List ℕ)) (after : State) (left : List (List ℕ)) : Type 0 where
  pub value : Ok after ≡ answer claims (edited c e s bs)
  pub blocks : left ≡ altered c e bs

-- the edit that was worked is the call's
pub worked_as : (claims : List Claim) (c : Cipher) (worked e : Edit) (s : State) (bs : List (List ℕ)) (after : State) (left : List (List ℕ))
    → Ok (tt {0}) ≡ answer {A = Unit {0}} claims tt → worked ≡ e → after ≡ edited c worked s bs → left ≡ altered c worked bs → Worked claims c e s bs after left
worked_as claims c worked e s bs after left checked same is are = record {
  value = ap Ok (is ∙ ap (λ x. edited c x s bs) same) ∙ sym (answer_ok claims (tt {0}) tt (edited c e s bs) (sym checked)).1;
  blocks = are ∙ ap (λ x. altered c x bs) same;
}

-- the last block of an edit, with no block where the amount is 0
pub edit_none : (amount first last : ℕ) (new : List ℕ) → amount ≡ 0 → (edit amount first last new).to ≡ (edit amount first last new).from
edit_none amount first last new z = cond-true (eqb amount 0) first last (eq-eqb amount 0 z)

pub edit_some : (amount first last : ℕ) (new : List ℕ) → 0 < amount → (edit amount first last new).to ≡ last
edit_some amount first last new z = cond-false (eqb amount 0) first last (ne_eqb amount 0 (λ e. omega arith))

-- an edit of no block, of a text that stays as long
module _ (c : Cipher) (e : Edit) (s : State) (bs : List (List ℕ)) (count : length bs ≡ blocks_in s.length) (none : e.to ≡ e.from)
    (same : length e.text ≡ s.length) where
  nothing_altered : bs ≡ altered c e bs
  nothing_altered =
      let long = length_altered c e bs in
      let fits : length bs ≡ blocks_in (length e.text) = count ∙ ap blocks_in (sym same) in
      ext_get_or [] bs (altered c e bs) (fits ∙ sym long)
      (λ i h. sym (altered_outside c e bs i (omega arith) (away i (cases_lt i e.from))))
    where
      away : (i : ℕ) → (i < e.from) ⊎ (e.from ≤ i) → (i < e.from) ⊎ (e.to ≤ i)
      away i (inl h) = inl h
      away i (inr h) = inr (omega arith)

  nothing_edited : length s.sum ≡ 32 → s ≡ edited c e s bs
  nothing_edited size =
      let x = total c bs in
      let sum : s.sum ≡ s.sum ⊕ (total c bs ⊕ total c (altered c e bs)) =
      sym (ap (λ y. s.sum ⊕ (x ⊕ total c y)) (sym nothing_altered) ∙ sym (xors_assoc 32 s.sum x x) ∙ xors_cancel 32 s.sum x size) in
      ap₂ (λ n y. restated s n s.label y) (sym same) sum

  pub nothing_worked : (claims : List Claim) → Ok (tt {0}) ≡ answer {A = Unit {0}} claims tt → length s.sum ≡ 32 → Worked claims c e s bs s bs
  nothing_worked claims checked size = worked_as claims c e e s bs s bs checked refl (nothing_edited size) nothing_altered

pub edit_path : (a b : Edit) → a.from ≡ b.from → a.to ≡ b.to → a.text ≡ b.text → a ≡ b
edit_path a b x y z =
    ap₂ (λ m n. record { from = m; to = n; text = a.text }) x y ∙ ap (λ t. record { from = b.from; to = b.to; text = t }) z

-- each call's edit, where it has bytes
module _ (c : Cipher) (s : State) (bs : List (List ℕ)) where
  text_length : length (text_in c s bs) ≡ s.length
  text_length = length_opened c bs s.length

  pub write_laid : (at : ℕ) (d : List ℕ) → at + length d ≤ s.length → 0 < length d
      → laid_edit c s bs at d s.length ((at + length d + 31) / 32) ≡ write_edit (text_in c s bs) at d
  write_laid at d fits some =
      edit_path _ _ refl (sym (edit_some (length d) (at / 32) ((at + length d + 31) / 32) [] some))
      (sym (overwritten_laid (text_in c s bs) at d (omega (arith, text_length)) ∙ ap (laid_text (text_in c s bs) at d) text_length))

  pub append_laid : (d : List ℕ) → 0 < length d → laid_edit c s bs s.length d (s.length + length d) (blocks_in (s.length + length d)) ≡ append_edit (text_in c s bs) d
  append_laid d some =
      edit_path _ _ (ap (λ n. n / 32) (sym text_length))
      (ap (λ n. blocks_in (n + length d)) (sym text_length) ∙ sym (edit_some (length d) _ (blocks_in (length (text_in c s bs) + length d)) [] some))
      (sym (lengthened_laid (text_in c s bs) d ∙ ap (λ n. laid_text (text_in c s bs) n d (n + length d)) text_length))

  pub cut_laid : (n : ℕ) → 0 < n → laid_edit c s bs (s.length - n) [] (s.length - n) (blocks_in (s.length - n)) ≡ cut_edit (text_in c s bs) n
  cut_laid n some =
      edit_path _ _ (ap (λ m. (m - n) / 32) (sym text_length))
      (ap (λ m. blocks_in (m - n)) (sym text_length) ∙ sym (edit_some n _ (blocks_in (length (text_in c s bs) - n)) [] some))
      (sym (shortened_laid (text_in c s bs) n ∙ ap (λ m. laid_text (text_in c s bs) (m - n) [] (m - n)) text_length))
