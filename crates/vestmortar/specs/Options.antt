-- The options that a command's words give.
use Rattle.std.specs.Prelude.{◌≡◌, ◌≢◌, ℕ, List, [], ◌∷◌, ◌++◌, codes, MatchResult, Bool, ◌&&◌, not, is_some, if◌then◌else◌, Some, None, Ok, Err, Option, Result, String, nat_eq, slice_index_or, slice_set}
use Rattle.std.specs.List.{list_any}
use Rattle.std.specs.declared.alloc.Global.{Global}
use Rattle.vestmortar.specs.declared.failure.Misuse.{Misuse}
use Rattle.vestmortar.specs.declared.failure.Misuse.TheVariants.{NotTaken}
use Rattle.vestmortar.specs.declared.flag.Flag.{Flag}
use Rattle.vestmortar.specs.declared.flag.Flag.TheVariants.{Key, Tag, Nonce, Label, At, Bytes, Block}
use Rattle.vestmortar.specs.declared.options.Options.{Options}

-- every option, in the order in which they are looked for
abbrev pub all_flags : List Flag
all_flags = Key ∷ Tag ∷ Nonce ∷ Label ∷ At ∷ Bytes ∷ Block ∷ []

-- an option's name, and the word that gives it
abbrev pub flag_name : Flag → List ℕ
flag_name Key = codes "key"
flag_name Tag = codes "tag"
flag_name Nonce = codes "nonce"
flag_name Label = codes "label"
flag_name At = codes "at"
flag_name Bytes = codes "bytes"
flag_name Block = codes "block"

abbrev pub flag_word : Flag → List ℕ
flag_word flag = codes "--" ++ flag_name flag

-- the flag that a word gives, or that none does
abbrev pub IsFlag : {E : Type 0} → List ℕ → Result Flag E → Type 0
IsFlag word r = MatchResult r (λ flag. word ≡ flag_word flag) (λ _. (flag : Flag) → word ≢ flag_word flag)

-- the place of an option's value
abbrev pub place_of : Flag → ℕ
place_of Key = 0
place_of Tag = 1
place_of Nonce = 2
place_of Label = 3
place_of At = 4
place_of Bytes = 5
place_of Block = 6

-- the value of an option, and the options with it given or taken out
abbrev pub value_of : Flag → Options → Option (String Global)
value_of flag o = slice_index_or o.values (place_of flag) None

abbrev pub given : Flag → String Global → Options → Options
given flag v o = record { values = slice_set o.values (place_of flag) (Some v); file = o.file }

abbrev pub without : Flag → Options → Options
without flag o = record { values = slice_set o.values (place_of flag) None; file = o.file }

-- the first of these flags whose option is given, but not among those taken, is refused
abbrev pub is_among : List Flag → Flag → Bool
is_among taken flag = list_any (λ f. nat_eq (place_of f) (place_of flag)) taken

abbrev pub only_answer : List Flag → Options → List Flag → Result (Unit {0}) Misuse
only_answer taken o [] = Ok tt
only_answer taken o (flag ∷ flags) =
    if is_some (value_of flag o) && not (is_among taken flag) then Err (NotTaken flag) else only_answer taken o flags

-- no option is given but those that are taken
abbrev pub TakesOnly : List Flag → Options → Type 0
TakesOnly taken o = only_answer taken o all_flags ≡ Ok tt

-- no option of a sheet is given
abbrev pub NoSheetOptions : Options → Type 0
NoSheetOptions o = (value_of Nonce o ≡ None) × (value_of Label o ≡ None) × (value_of At o ≡ None) × (value_of Bytes o ≡ None) × (value_of Block o ≡ None)
