-- What comes of a command, and what is said of it.
use Rattle.std.specs.Prelude.{◌≡◌, ℕ, ◌<◌, ◌≤◌, true, List, ◌++◌, length, take, drop, Some, None, Ok, Err, string_bytes, codes, decimal, Option, Result, String, slice_index}
use Rattle.std.specs.Char.{is_ascii_whitespace}
use Rattle.modes.specs.declared.refusal.Refusal.{Refusal}
use Rattle.text.specs.Hex.{hex_of, Spells}
use Rattle.text.specs.Words.{reason_text, refusal_text}
use Rattle.std.specs.declared.alloc.Global.{Global}
use Rattle.vestmortar.specs.declared.digits.Place.TheVariants.{InKeyFile}
use Rattle.vestmortar.specs.Digits.{Misspells}
use Rattle.vestmortar.specs.declared.failure.Failure.{Failure}
use Rattle.vestmortar.specs.declared.failure.Failure.TheVariants.{Declined, Usage, Unreadable, NotHex, OddDigits, Output, Memory}
use Rattle.vestmortar.specs.declared.work.Outcome.{Outcome}
use Rattle.vestmortar.specs.declared.work.Outcome.TheVariants.{Tag, Agreed, Sealed, Kept, Opened, Read, Damaged, Help}

-- the digits stand in the text with nothing but white space around them
abbrev pub Amid : List ℕ → List ℕ → Type 0
Amid text digits =
    (m : ℕ)
    × (digits ≡ take (length digits) (drop m text))
    × ((i : ℕ) → i < m → is_ascii_whitespace (slice_index text i) ≡ true)
    × ((i : ℕ) → length digits ≤ i → i < length (drop m text) → is_ascii_whitespace (slice_index (drop m text) i) ≡ true)

abbrev pub HoldsKey : List ℕ → List ℕ → Type 0
HoldsKey text key = (digits : List ℕ) × Amid text digits × Spells digits key

-- or they spell none, which the failure says of the file with this name
abbrev pub LacksKey : List ℕ → String Global → Failure → Type 0
LacksKey text name failure = (digits : List ℕ) × Amid text digits × Misspells digits (InKeyFile name) failure

-- a failure is the library's refusal, where it answers `a`, or memory ran out
abbrev pub Declines : {A : Type 0} → Result A Refusal → Failure → Type 0
Declines a (Declined refusal) = a ≡ Err refusal
Declines a (Usage misuse) = ⊥
Declines a (Unreadable name error) = ⊥
Declines a (NotHex place) = ⊥
Declines a (OddDigits place) = ⊥
Declines a (Output error) = ⊥
Declines a Memory = Unit {0}

-- the outcome of signing, where the library answers `a`
abbrev pub Signs : Result (List ℕ) Refusal → Result Outcome Failure → Type 0
Signs a (Ok (Tag digits)) = (tag : List ℕ) × (a ≡ Ok tag) × (string_bytes digits ≡ hex_of tag)
Signs a (Ok Agreed) = ⊥
Signs a (Ok (Sealed n count digits)) = ⊥
Signs a (Ok (Kept count nonce digits)) = ⊥
Signs a (Ok (Opened n)) = ⊥
Signs a (Ok (Read text)) = ⊥
Signs a (Ok (Damaged k)) = ⊥
Signs a (Ok Help) = ⊥
Signs a (Err failure) = Declines a failure

-- the outcome of a check, where the library answers `a`
abbrev pub checked : Result (Unit {0}) Refusal → Result Outcome Failure
checked (Ok u) = Ok Agreed
checked (Err refusal) = Err (Declined refusal)

-- what is printed of an outcome; the help text is not said here
abbrev pub outcome_text : Outcome → Option (List ℕ)
outcome_text (Tag digits) = Some (string_bytes digits)
outcome_text Agreed = Some (codes "yes: the plate carries this tag")
outcome_text (Sealed n count tag) =
    Some (codes "sealed: " ++ (decimal n ++ (codes " bytes in " ++ (decimal count ++ (codes " blocks, tag " ++ string_bytes tag)))))
outcome_text (Kept count nonce tag) =
    Some (codes "sheet: " ++ (decimal count ++ (codes " blocks, nonce " ++ (string_bytes nonce ++ (codes ", tag " ++ string_bytes tag)))))
outcome_text (Opened n) = Some (codes "opened: " ++ (decimal n ++ codes " bytes"))
outcome_text (Read text) = Some (codes "read: " ++ string_bytes text)
outcome_text (Damaged k) = Some (codes "damaged: block " ++ decimal k)
outcome_text Help = None

-- what is printed of a refusal; of errors nothing is said here
abbrev pub failure_text : Failure → Option (List ℕ)
failure_text (Declined refusal) = Some (codes "declined: " ++ (refusal_text refusal ++ (codes ": " ++ reason_text refusal.reason)))
failure_text (Usage misuse) = None
failure_text (Unreadable name error) = None
failure_text (NotHex place) = None
failure_text (OddDigits place) = None
failure_text (Output error) = None
failure_text Memory = None
