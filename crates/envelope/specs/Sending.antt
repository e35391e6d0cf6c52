-- What sending a sheet answers and writes, with a permutation whose functions are `forth` and `back`.
use Rattle.std.specs.Prelude.{◌≡◌, ℕ, not, List, [], ◌∷◌, length, Ok, Result, nat_lt}
use Rattle.modes.specs.declared.refusal.Layer.TheVariants.{Envelope}
use Rattle.modes.specs.declared.refusal.Reason.TheVariants.{BufferLength, LabelSum}
use Rattle.modes.specs.declared.refusal.Refusal.{Refusal}
use Rattle.modes.specs.Refusals.{Claim, claim, refusal, answer}
use Rattle.modes.specs.Sums.{same, too_long, label_sum}
use Rattle.sheet.specs.declared.state.State.{State}
use Rattle.sheet.specs.Calls.{miscounted, open_answer, tag_answer, under}
use Rattle.sheet.specs.Ciphers.{cipher_of}
use Rattle.envelope.specs.Layouts.{layout, joined, Fields, Laid}
use Rattle.envelope.specs.Receiving.{arrival, receive_answer, with_parts}

-- the tag that a sheet has
abbrev pub own_tag : (forth back : List ℕ → List ℕ) → State → List ℕ
own_tag forth back s = tag_answer (under forth back s) s

-- the envelope of a sheet with these blocks, under a label
abbrev pub sent : (forth back : List ℕ → List ℕ) → State → List (List ℕ) → (label : List ℕ) → List ℕ
sent forth back s bs label = layout s.nonce.bytes label bs (own_tag forth back s)

abbrev pub sent_fields : (forth back : List ℕ → List ℕ) → State → List (List ℕ) → (label : List ℕ) → Fields
sent_fields forth back s bs label = record { nonce = s.nonce.bytes; label = label; blocks = joined bs; tag = own_tag forth back s }

-- a buffer of n bytes is too short for the envelope
abbrev pub no_space : ℕ → List ℕ → Claim
no_space n envelope = claim (nat_lt n (length envelope)) (refusal Envelope BufferLength 0)

abbrev pub other_label : List ℕ → List ℕ → Claim
other_label sum own = claim (not (same sum own)) (refusal Envelope LabelSum 0)

abbrev pub send_claims : (forth back : List ℕ → List ℕ) → State → List (List ℕ) → (label : List ℕ) → ℕ → List Claim
send_claims forth back s bs label n =
    too_long label ∷ miscounted s bs ∷ no_space n (sent forth back s bs label) ∷ other_label (label_sum forth s.key.bytes label) s.label ∷ []

-- the count of bytes written
abbrev pub send_answer : (forth back : List ℕ → List ℕ) → State → List (List ℕ) → (label : List ℕ) → ℕ → Result ℕ Refusal
send_answer forth back s bs label n = answer (send_claims forth back s bs label n) (length (sent forth back s bs label))

-- What was sent is an envelope with these parts. Receiving it under any key is opening them over the sheet's own blocks; and
-- where the sheet can be opened with its tag, under whichever label of that label sum, it is received with the same state.
pub record Arrives (forth back : List ℕ → List ℕ) (s : State) (bs : List (List ℕ)) (label bytes : List ℕ) : Type 0 where
  pub is_sent : bytes ≡ sent forth back s bs label
  pub laid : Laid bytes (sent_fields forth back s bs label)
  pub as_opened : (key : List ℕ)
      → receive_answer forth back key bytes
      ≡ with_parts (sent_fields forth back s bs label)
      (open_answer (cipher_of forth back key s.nonce.bytes) key s.nonce.bytes label (own_tag forth back s) bs)
  pub same_state : (own : List ℕ)
      → open_answer (under forth back s) s.key.bytes s.nonce.bytes own (own_tag forth back s) bs ≡ Ok s
      → receive_answer forth back s.key.bytes bytes ≡ Ok (arrival s (sent_fields forth back s bs label))
