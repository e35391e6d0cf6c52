-- Values worked by hand, together as one fact about the definitions.
use Rattle.std.specs.Prelude.{◌≡◌, ℕ, List, [], ◌∷◌, ◌++◌, length, Some, None, Err}
use Rattle.modes.specs.declared.refusal.Layer.TheVariants.{Envelope}
use Rattle.modes.specs.declared.refusal.Reason.TheVariants.{Number}
use Rattle.modes.specs.Refusals.{refusal, number_of}
use Rattle.modes.specs.Worked.{zeros}
use Rattle.sheet.specs.Sealing.{sealed, tag_of}
use Rattle.sheet.specs.Worked as sheets
use Rattle.sheet.specs.Worked.{zero_cipher}
use Rattle.envelope.specs.Layouts.{layout, joined}
use Rattle.envelope.specs.Numbers.{groups, number_in}
use Rattle.envelope.specs.Parsing.{parse_answer}

-- the envelope of the empty sheet: zero rounds, a key and a nonce of zeros, label and text empty
abbrev pub empty_envelope : List ℕ
empty_envelope = layout (zeros 13) [] (sealed zero_cipher []) (tag_of zero_cipher [] (sealed zero_cipher []))

pub record WorkedValues : Type 0 where
  pub of_the_sheets : sheets.WorkedValues
  pub zero_written : groups 0 ≡ 0x00 ∷ []
  pub written : groups 300 ≡ 0xAC ∷ 0x02 ∷ []
  pub read : number_in (0xAC ∷ 0x02 ∷ []) ≡ Some (300, 2)
  -- a closing zero group changes nothing but the bytes taken
  pub read_longer : number_in (0xAC ∷ 0x82 ∷ 0x00 ∷ []) ≡ Some (300, 3)
  pub unended : (rest : List ℕ) → number_in (0x80 ∷ 0x80 ∷ 0x80 ∷ rest) ≡ None
  -- as the label length, and as the block count
  pub unended_label : (rest : List ℕ) → parse_answer (0x52 ∷ 0x53 ∷ 0x80 ∷ 0x80 ∷ 0x80 ∷ rest) ≡ Err (refusal Envelope Number 2)
  pub unended_count : (rest : List ℕ) → parse_answer (0x52 ∷ 0x53 ∷ 0x00 ∷ 0x80 ∷ 0x80 ∷ 0x80 ∷ rest) ≡ Err (refusal Envelope Number 3)
  pub that_is_five : number_of Number ≡ 5
  pub empty_bytes : empty_envelope ≡ 0x52 ∷ 0x53 ∷ 0x00 ∷ 0x01 ∷ (zeros 13 ++ (joined (sealed zero_cipher []) ++ tag_of zero_cipher [] (sealed zero_cipher [])))
  pub empty_length : length empty_envelope ≡ 65
