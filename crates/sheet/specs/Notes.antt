-- A holder whose first block is a note.
use Rattle.std.specs.Prelude.{ℕ, ◌-◌, List, [], ◌∷◌, take, drop, replicate, Result, ◌==◌}
use Rattle.modes.specs.declared.refusal.Layer.TheVariants.{Holder}
use Rattle.modes.specs.declared.refusal.Reason.TheVariants.{Limit}
use Rattle.modes.specs.declared.refusal.Refusal.{Refusal}
use Rattle.modes.specs.Refusals.{Claim, claim, refusal, answer}
use Rattle.sheet.specs.Holders.{bad_buffer}

-- the note, alone in a list, or nothing where there is none yet
abbrev pub note_in : List (List ℕ) → List (List ℕ)
note_in below = take 1 below

-- the blocks beyond the note
abbrev pub beyond : List (List ℕ) → List (List ℕ)
beyond below = drop 1 below

-- the limit beyond the note
abbrev pub room_beyond : ℕ → ℕ
room_beyond limit = limit - 1

-- the note once there is one: zeros where there was none
abbrev pub noted : List (List ℕ) → List (List ℕ)
noted [] = replicate 32 0 ∷ []
noted (note ∷ _) = note ∷ []

abbrev pub no_room_for_note : ℕ → Claim
no_room_for_note limit = claim (limit == 0) (refusal Holder Limit 0)

-- replacing the note, under a limit below
abbrev pub note_answer : ℕ → List ℕ → Result (Unit {0}) Refusal
note_answer limit note = answer (bad_buffer note ∷ no_room_for_note limit ∷ []) tt
