-- Keys, nonces and tags: byte strings of a fixed length.
use Rattle.std.specs.Prelude.{◌≡◌, ℕ, ◌<◌, not, List, length, ◌==◌, slice_index}
use Rattle.modes.specs.declared.keys.Key.{Key}
use Rattle.modes.specs.declared.keys.Nonce.{Nonce}
use Rattle.modes.specs.declared.refusal.Layer.TheVariants.{Cipher}
use Rattle.modes.specs.declared.refusal.Reason.{Reason}
use Rattle.modes.specs.declared.refusal.Reason.TheVariants.{KeyLength, NonceLength, TagLength}
use Rattle.modes.specs.Refusals.{Claim, claim, refusal}

-- n bytes
abbrev pub Bytes : ℕ → List ℕ → Type 0
Bytes n x = (length x ≡ n) × ((i : ℕ) → i < n → slice_index x i < 256)

abbrev pub key_of : List ℕ → Key
key_of b = record { bytes = b }

abbrev pub nonce_of : List ℕ → Nonce
nonce_of b = record { bytes = b }

-- the bytes are not n, and are declined for the reason
abbrev pub bad_length : ℕ → Reason → List ℕ → Claim
bad_length n why b = claim (not (length b == n)) (refusal Cipher why 0)

abbrev pub bad_key : List ℕ → Claim
bad_key b = bad_length 16 KeyLength b

abbrev pub bad_nonce : List ℕ → Claim
bad_nonce b = bad_length 13 NonceLength b

abbrev pub bad_tag : List ℕ → Claim
bad_tag b = bad_length 16 TagLength b
