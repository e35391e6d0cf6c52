-- A sheet stands for a text and a label.
use Rattle.std.specs.Prelude.{◌≡◌, ℕ, List, length}
use Rattle.modes.specs.Keys.{Bytes}
use Rattle.sheet.specs.declared.state.State.{State}
use Rattle.sheet.specs.Calls.{under, tag_answer}
use Rattle.sheet.specs.Opening.{Seals, sealed_state}

-- key and nonce are bytes, as a state's always are
abbrev pub Keyed : State → Type 0
Keyed s = Bytes 16 s.key.bytes × Bytes 13 s.nonce.bytes

-- a key and a nonce that have their lengths are bytes
abbrev pub Keyable : (key nonce : List ℕ) → Type 0
Keyable key nonce = length key ≡ 16 → length nonce ≡ 13 → Bytes 16 key × Bytes 13 nonce

-- Its blocks, its sum and its tag, and its whole state, are those of sealing that text under that label, its key and its nonce.
pub record Stands (forth back : List ℕ → List ℕ) (s : State) (bs : List (List ℕ)) (text label : List ℕ) : Type 0 where
  pub seals : Seals (under forth back s) s.key.bytes s.nonce.bytes label text bs (tag_answer (under forth back s) s)
  pub state_is : s ≡ sealed_state (under forth back s) s.key.bytes s.nonce.bytes label text
