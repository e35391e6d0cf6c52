-- Opening: what it takes, and what text it finds.
use Rattle.std.specs.Prelude.{◌≡◌, ℕ, ◌<◌, ◌≤◌, List, length, Ok, Result, slice_index}
use Rattle.modes.specs.declared.refusal.Refusal.{Refusal}
use Rattle.sheet.specs.declared.state.State.{State}
use Rattle.sheet.specs.Calls.{state_with, open_answer, tag_answer}
use Rattle.sheet.specs.Ciphers.{Cipher}
use Rattle.sheet.specs.Sealing.{sealed, tag_of, opened}

-- every entry is a byte
abbrev pub AllBytes : List ℕ → Type 0
AllBytes t = (i : ℕ) → slice_index t i < 256

-- the state of the sheet that sealing a text makes
abbrev pub sealed_state : Cipher → (key nonce label text : List ℕ) → State
sealed_state c key nonce label text = state_with c key nonce label (sealed c text) (length text)

-- a text, at most 131,071 bytes long, seals to these blocks and this tag under the key, the nonce and the label
pub record Seals (c : Cipher) (key nonce label text : List ℕ) (bs : List (List ℕ)) (tag : List ℕ) : Type 0 where
  pub key_size : length key ≡ 16
  pub nonce_size : length nonce ≡ 13
  pub label_short : length label ≤ 4096
  pub text_bytes : AllBytes text
  pub text_short : length text ≤ 131071
  pub blocks_are : bs ≡ sealed c text
  pub tag_is : tag ≡ tag_of c label (sealed c text)

-- Opening is taken exactly when some text seals to the blocks and the tag; there is one such text, and it is what is read.
pub record OpensExactly (c : Cipher) (key nonce label tag : List ℕ) (bs : List (List ℕ)) (r : Result State Refusal) : Type 0 where
  pub taken_seals : (s : State) → r ≡ Ok s
      → (text : List ℕ) × Seals c key nonce label text bs tag × (s ≡ sealed_state c key nonce label text) × (opened c bs s.length ≡ text)
  pub seals_taken : (text : List ℕ) → Seals c key nonce label text bs tag → r ≡ Ok (sealed_state c key nonce label text)
  pub one_text : (text other : List ℕ) → Seals c key nonce label text bs tag → Seals c key nonce label other bs tag → text ≡ other

-- What was sealed is opened again with its own tag, to the same state, and the text is what is read.
pub record Reopens (c : Cipher) (key nonce label text : List ℕ) (bs : List (List ℕ)) (s : State) : Type 0 where
  pub opens_again : open_answer c key nonce label (tag_answer c s) bs ≡ Ok s
  pub reads_back : opened c bs s.length ≡ text
