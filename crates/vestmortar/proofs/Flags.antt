-- The options that a command does not take: each flag is looked at in turn.
use Rattle.std.proofs.Common.{◌≡◌, refl, sym, ap, ◌∙◌, ℕ, ◌+◌, ◌<◌, List, [], ◌∷◌, drop, drop-cons, add-one, Bool, true, false, ◌&&◌, not, is_some, if◌then◌else◌, Err, slice_index_or}
use Rattle.std.specs.List.{list_any}
use denote.Enum.Bare.{sameb}
use denote.Enum.Declared.{tag_of}
use Rattle.vestmortar.specs.contracts.flag.Flag.{the_type}
use Rattle.vestmortar.specs.declared.failure.Misuse.TheVariants.{NotTaken}
use Rattle.vestmortar.specs.declared.flag.Flag.{Flag}
use Rattle.vestmortar.specs.declared.flag.Flag.TheVariants.{Key, Tag, Nonce, Label, At, Bytes, Block}
use Rattle.vestmortar.specs.declared.options.Options.{Options}
use Rattle.vestmortar.specs.Options.{all_flags, place_of, value_of, is_among, only_answer}

tag_of_flag : (f : Flag) → tag_of the_type f ≡ place_of f
tag_of_flag Key = refl
tag_of_flag Tag = refl
tag_of_flag Nonce = refl
tag_of_flag Label = refl
tag_of_flag At = refl
tag_of_flag Bytes = refl
tag_of_flag Block = refl

-- `contains` compares flags as their places do
pub among : (taken : List Flag) (flag : Flag) → list_any (λ f. sameb the_type f flag) taken ≡ is_among taken flag
among [] flag = refl
among (f ∷ taken) flag = rw (tag_of_flag f, tag_of_flag flag, among taken flag) refl

abbrev pub flag_at : ℕ → Flag
flag_at i = slice_index_or all_flags i Key

abbrev pub is_refused : List Flag → Options → Flag → Bool
is_refused taken o flag = is_some (value_of flag o) && not (is_among taken flag)

-- what the flag at a place makes of the answer
pub step : (taken : List Flag) (o : Options) (i : ℕ) → i < 7
    → only_answer taken o (drop i all_flags) ≡ (if is_refused taken o (flag_at i) then Err (NotTaken (flag_at i)) else only_answer taken o (drop (i + 1) all_flags))
step taken o i h = ap (only_answer taken o) (drop-cons all_flags i Key h) ∙ rw (add-one i) refl

-- a flag that is refused ends the search, and another one leaves it to the rest
pub refused : (taken : List Flag) (o : Options) (i : ℕ) → i < 7 → is_refused taken o (flag_at i) ≡ true
    → only_answer taken o (drop i all_flags) ≡ only_answer taken o all_flags → Err (NotTaken (flag_at i)) ≡ only_answer taken o all_flags
refused taken o i h e so_far = sym (step taken o i h ∙ rw e refl) ∙ so_far

pub passed : (taken : List Flag) (o : Options) (i : ℕ) → i < 7 → is_refused taken o (flag_at i) ≡ false
    → only_answer taken o (drop i all_flags) ≡ only_answer taken o all_flags → only_answer taken o (drop (i + 1) all_flags) ≡ only_answer taken o all_flags
passed taken o i h e so_far = sym (step taken o i h ∙ rw e refl) ∙ so_far
