-- What taking an envelope apart answers, and when it is declined.
use Rattle.std.specs.Prelude.{◌≡◌, ℕ, ◌+◌, ◌*◌, Bool, true, not, ◌||◌, List, [], ◌∷◌, length, take, drop, Some, None, Ok, Option, Result, ◌==◌, nat_lt}
use Rattle.std.specs.Option.{unwrap_or}
use Rattle.modes.specs.declared.refusal.Layer.TheVariants.{Envelope}
use Rattle.modes.specs.declared.refusal.Reason.TheVariants.{Mark, Number, EnvelopeLength}
use Rattle.modes.specs.declared.refusal.Refusal.{Refusal}
use Rattle.modes.specs.Refusals.{Claim, claim, refusal, answer}
use Rattle.modes.specs.Sums.{same}
use Rattle.envelope.specs.Layouts.{mark, Fields, Laid}
use Rattle.envelope.specs.Numbers.{number_in}

-- a number that was read: its value and how many bytes it took, 0 where there is none
abbrev pub value_of : Option (ℕ × ℕ) → ℕ
value_of o = (unwrap_or o (0, 0)).0

abbrev pub taken_of : Option (ℕ × ℕ) → ℕ
taken_of o = (unwrap_or o (0, 0)).1

-- the number that begins at a byte
abbrev pub number_at : List ℕ → ℕ → Option (ℕ × ℕ)
number_at bytes at = number_in (drop at bytes)

abbrev pub outside : ℕ → ℕ → Option (ℕ × ℕ) → Bool
outside low high None = true
outside low high (Some p) = nat_lt p.0 low || nat_lt high p.0

-- the number that begins at a byte does not end in time, or is out of its range
abbrev pub bad_number : ℕ → ℕ → List ℕ → ℕ → Claim
bad_number low high bytes at = claim (outside low high (number_at bytes at)) (refusal Envelope Number at)

abbrev pub no_mark : List ℕ → Claim
no_mark bytes = claim (not (same (take 2 bytes) mark)) (refusal Envelope Mark 0)

-- the label length begins at byte 2, the block count where that ends, and the nonce where the block count does
abbrev pub label_size : List ℕ → ℕ
label_size bytes = value_of (number_at bytes 2)

abbrev pub count_place : List ℕ → ℕ
count_place bytes = 2 + taken_of (number_at bytes 2)

abbrev pub block_count : List ℕ → ℕ
block_count bytes = value_of (number_at bytes (count_place bytes))

abbrev pub nonce_place : List ℕ → ℕ
nonce_place bytes = count_place bytes + taken_of (number_at bytes (count_place bytes))

-- the length that the two numbers say
abbrev pub told_length : List ℕ → ℕ
told_length bytes = nonce_place bytes + 13 + label_size bytes + 32 * block_count bytes + 16

abbrev pub bad_length : List ℕ → Claim
bad_length bytes = claim (not (length bytes == told_length bytes)) (refusal Envelope EnvelopeLength (told_length bytes))

abbrev pub parse_claims : List ℕ → List Claim
parse_claims bytes =
    no_mark bytes ∷ bad_number 0 4096 bytes 2 ∷ bad_number 1 4096 bytes (count_place bytes) ∷ bad_length bytes ∷ []

-- n bytes from a place on
abbrev pub part : List ℕ → ℕ → ℕ → List ℕ
part bytes at n = take n (drop at bytes)

abbrev pub fields_in : List ℕ → Fields
fields_in bytes = record {
  nonce = part bytes (nonce_place bytes) 13;
  label = part bytes (nonce_place bytes + 13) (label_size bytes);
  blocks = part bytes (nonce_place bytes + 13 + label_size bytes) (32 * block_count bytes);
  tag = part bytes (nonce_place bytes + 13 + label_size bytes + 32 * block_count bytes) 16;
}

abbrev pub parse_answer : List ℕ → Result Fields Refusal
parse_answer bytes = answer (parse_claims bytes) (fields_in bytes)

-- What is taken apart is an envelope with these parts, and every envelope is taken apart into its parts.
pub record ParsesExactly (bytes : List ℕ) (r : Result Fields Refusal) : Type 0 where
  pub taken_laid : (f : Fields) → r ≡ Ok f → Laid bytes f
  pub laid_taken : (f : Fields) → Laid bytes f → r ≡ Ok f
