-- The worked values, computed.
use Rattle.std.proofs.Common.{◌≡◌, ℕ, List, [], ◌∷◌, ◌++◌, length, refl, ap, ◌∙◌}
use Rattle.modes.specs.Worked.{zeros}
use Rattle.sheet.specs.Worked as sheets
use Rattle.envelope.specs.Layouts.{layout, joined}
use Rattle.envelope.specs.Numbers.{groups, number_in, number_within}
use Rattle.envelope.specs.Worked.{WorkedValues}

-- with the one block and the tag that the empty sheet has
sized : (bs : List (List ℕ)) (tag b t : List ℕ) → bs ≡ b ∷ [] → tag ≡ t → length (layout (zeros 13) [] bs tag) ≡ length (layout (zeros 13) [] (b ∷ []) t)
sized bs tag b t e f = ap (λ x. length (layout (zeros 13) [] x tag)) e ∙ ap (λ x. length (layout (zeros 13) [] (b ∷ []) x)) f

bytes : (bs : List (List ℕ)) (tag b : List ℕ) → bs ≡ b ∷ [] → layout (zeros 13) [] bs tag ≡ 0x52 ∷ 0x53 ∷ 0x00 ∷ 0x01 ∷ (zeros 13 ++ (joined bs ++ tag))
unfolding layout groups
bytes bs tag b e = ap (λ x. 0x52 ∷ 0x53 ∷ 0x00 ∷ (groups (length x) ++ (zeros 13 ++ (joined bs ++ tag)))) e

pub worked : sheets.WorkedValues → WorkedValues
unfolding layout groups number_in number_within
worked s = record {
  of_the_sheets = s;
  zero_written = refl;
  written = refl;
  read = refl;
  read_longer = refl;
  unended = λ rest. refl;
  unended_label = λ rest. refl;
  unended_count = λ rest. refl;
  that_is_five = refl;
  empty_bytes = bytes _ _ _ s.empty_block;
  empty_length = sized _ _ _ _ s.empty_block s.empty_tag;
}
