-- What was sealed is opened again, and reads as the text.
use Rattle.std.proofs.Common.{◌≡◌, ℕ, List, length, Ok, sym, refl, ap, ◌∙◌}
use Rattle.modes.specs.RefusalLaws.{answer_ok}
use Rattle.sheet.specs.declared.state.State.{State}
use Rattle.sheet.specs.Calls.{seal_claims, seal_answer, tag_answer}
use Rattle.sheet.specs.Ciphers.{Cipher, Lawful}
use Rattle.sheet.specs.Opening.{AllBytes, sealed_state, Seals, Reopens}
use Rattle.sheet.specs.Sealing.{sealed, sum_of, opened}
use Rattle.sheet.proofs.Claims.{seal_found}
use Rattle.sheet.proofs.Openings.{seals_taken}
use Rattle.sheet.proofs.Texts.{length_sealed, opened_sealed}

pub reopens : (c : Cipher) (key nonce label text : List ℕ) (limit : ℕ) (bs : List (List ℕ))
    → (length key ≡ 16 → length nonce ≡ 13 → Lawful c) → AllBytes text → (s : State)
    → Ok s ≡ seal_answer c key nonce label text limit bs → Reopens c key nonce label text (sealed c text) s
reopens c key nonce label text limit bs lawful bytes s h =
    let f = seal_found key nonce label text limit bs _ s h in
    let is : s ≡ sealed_state c key nonce label text = (answer_ok (seal_claims key nonce label text limit bs) _ s text (sym h)).0 in
    let z : Seals c key nonce label text (sealed c text) (tag_answer c s) = record {
      key_size = f.key_size;
      nonce_size = f.nonce_size;
      label_short = f.label_short;
      text_bytes = bytes;
      text_short = f.text_short;
      blocks_are = refl;
      tag_is = ap (tag_answer c) is ∙ ap (λ m. c.fin m (sum_of c label (sealed c text))) (sym (length_sealed c text));
    } in
    record {
      opens_again = seals_taken c key nonce label (tag_answer c s) (sealed c text) lawful text z ∙ ap Ok (sym is);
      reads_back = ap (λ x. opened c (sealed c text) x.length) is ∙ opened_sealed c (lawful f.key_size f.nonce_size) text bytes;
    }
