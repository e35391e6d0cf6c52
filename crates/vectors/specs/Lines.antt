-- The words of a case, and the line that answers it.
use Rattle.std.specs.Prelude.{◌≡◌, ℕ, ◌+◌, ◌*◌, ◌/◌, ◌%◌, ◌<◌, ◌⊎◌, List, [], ◌∷◌, ◌++◌, length, string_bytes, codes, slice_index}
use Rattle.modes.specs.declared.cipher.Usage.{Usage}
use Rattle.modes.specs.declared.cipher.Usage.TheVariants.{Label, Text, Plate}
use Rattle.text.specs.Hex.{hex_of, Spells}
use Rattle.text.specs.Words.{refusal_text}
use Rattle.vectors.specs.declared.answer.Answer.{Answer}
use Rattle.vectors.specs.declared.answer.Answer.TheVariants.{Value, Yes, Declined, Malformed}

-- a word for a byte string: a dash for the empty one
abbrev pub Writes : List ℕ → List ℕ → Type 0
Writes word bytes = ((word ≡ codes "-") × (bytes ≡ [])) ⊎ Spells word bytes

-- the word for a byte string in an answer
abbrev pub word_of : List ℕ → List ℕ
word_of [] = codes "-"
word_of (b ∷ bs) = hex_of (b ∷ bs)

-- byte i of those that the rule makes from a start on
abbrev pub ruled_byte : ℕ → ℕ → ℕ
ruled_byte start i = (start + 31 * i + i / 32) % 256

-- the n bytes of the rule
abbrev pub Ruled : ℕ → ℕ → List ℕ → Type 0
Ruled n start bytes = (length bytes ≡ n) × ((i : ℕ) → i < n → slice_index bytes i ≡ ruled_byte start i)

abbrev pub usage_name : Usage → List ℕ
usage_name Label = codes "label"
usage_name Text = codes "text"
usage_name Plate = codes "plate"

-- an answer that is these bytes
abbrev pub Values : List ℕ → Answer → Type 0
Values bytes (Value digits) = string_bytes digits ≡ hex_of bytes
Values bytes Yes = ⊥
Values bytes (Declined refusal) = ⊥
Values bytes Malformed = ⊥

abbrev pub answer_text : Answer → List ℕ
answer_text (Value digits) = string_bytes digits
answer_text Yes = codes "yes"
answer_text (Declined refusal) = codes "declined " ++ refusal_text refusal
answer_text Malformed = codes "malformed"
