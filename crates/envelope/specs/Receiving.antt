-- What receiving an envelope answers, with a permutation whose functions are `forth` and `back`.
use Rattle.std.specs.Prelude.{◌≡◌, ℕ, List, [], ◌∷◌, Ok, Err, Result}
use Rattle.sheet.specs.Chunks.{wholes}
use Rattle.modes.specs.declared.refusal.Refusal.{Refusal}
use Rattle.modes.specs.Keys.{bad_key}
use Rattle.modes.specs.Refusals.{Claim, answer}
use Rattle.sheet.specs.declared.state.State.{State}
use Rattle.sheet.specs.Calls.{state_with, wrong_tag, bad_padding, last_plain, found_length, open_answer}
use Rattle.sheet.specs.Ciphers.{Cipher, cipher_of}
use Rattle.sheet.specs.Opening.{sealed_state, Seals, OpensExactly}
use Rattle.sheet.specs.Sealing.{tag_of, opened}
use Rattle.envelope.specs.Layouts.{Fields, Laid}
use Rattle.envelope.specs.Parsing.{no_mark, bad_number, bad_length, count_place, fields_in}

-- what arrives: the state of the sheet, and the parts of the envelope
pub record Arrival : Type 0 where
  pub state : State
  pub parts : Fields

abbrev pub arrival : State → Fields → Arrival
arrival s f = record { state = s; parts = f }

-- opening the sheet that the parts carry, over their blocks
abbrev pub part_cipher : (forth back : List ℕ → List ℕ) → List ℕ → Fields → Cipher
part_cipher forth back key f = cipher_of forth back key f.nonce

abbrev pub open_parts : (forth back : List ℕ → List ℕ) → List ℕ → Fields → Result State Refusal
open_parts forth back key f = open_answer (part_cipher forth back key f) key f.nonce f.label f.tag (wholes f.blocks)

-- the parts' tag or padding is wrong
abbrev pub part_claims : Cipher → Fields → List Claim
part_claims c f = wrong_tag f.tag (tag_of c f.label (wholes f.blocks)) ∷ bad_padding (last_plain c (wholes f.blocks)) ∷ []

abbrev pub part_state : Cipher → List ℕ → Fields → State
part_state c key f = state_with c key f.nonce f.label (wholes f.blocks) (found_length c (wholes f.blocks))

abbrev pub receive_claims : (forth back : List ℕ → List ℕ) → (key bytes : List ℕ) → List Claim
receive_claims forth back key bytes =
    bad_key key ∷ no_mark bytes ∷ bad_number 0 4096 bytes 2 ∷ bad_number 1 4096 bytes (count_place bytes) ∷ bad_length bytes
    ∷ part_claims (part_cipher forth back key (fields_in bytes)) (fields_in bytes)

unfoldable pub receive_answer : (forth back : List ℕ → List ℕ) → (key bytes : List ℕ) → Result Arrival Refusal
receive_answer forth back key bytes =
    answer (receive_claims forth back key bytes)
    (arrival (part_state (part_cipher forth back key (fields_in bytes)) key (fields_in bytes)) (fields_in bytes))

-- an answer about a sheet, with the parts that it came from
abbrev pub with_parts : Fields → Result State Refusal → Result Arrival Refusal
with_parts f (Ok s) = Ok (arrival s f)
with_parts f (Err e) = Err e

-- Opening what the parts of the envelope carry is taken exactly when some text seals to it.
abbrev pub PartsOpenExactly : (forth back : List ℕ → List ℕ) → (key bytes : List ℕ) → Type 0
PartsOpenExactly forth back key bytes =
    (f : Fields) → Laid bytes f
    → OpensExactly (part_cipher forth back key f) key f.nonce f.label f.tag (wholes f.blocks) (open_parts forth back key f)

-- Receiving is taken exactly when the bytes are an envelope and some text seals to its parts; that text is what is read.
pub record ReceivesExactly (forth back : List ℕ → List ℕ) (key bytes : List ℕ) (r : Result Arrival Refusal) : Type 0 where
  pub as_opened : (f : Fields) → Laid bytes f → r ≡ with_parts f (open_parts forth back key f)
  pub taken_laid : (a : Arrival) → r ≡ Ok a → Laid bytes a.parts
  pub taken_seals : (s : State) (f : Fields) → r ≡ Ok (arrival s f)
      → (text : List ℕ) × Seals (part_cipher forth back key f) key f.nonce f.label text (wholes f.blocks) f.tag
      × (s ≡ sealed_state (part_cipher forth back key f) key f.nonce f.label text)
      × (opened (part_cipher forth back key f) (wholes f.blocks) s.length ≡ text)
  pub seals_taken : (f : Fields) (text : List ℕ) → Laid bytes f
      → Seals (part_cipher forth back key f) key f.nonce f.label text (wholes f.blocks) f.tag
      → r ≡ Ok (arrival (sealed_state (part_cipher forth back key f) key f.nonce f.label text) f)
