-- An envelope: mark, label length, block count, nonce, label, blocks, tag, and no more.
use Rattle.std.specs.Prelude.{◌≡◌, ℕ, ◌+◌, ◌*◌, ◌<◌, ◌≤◌, List, [], ◌∷◌, ◌++◌, length}
use Rattle.envelope.specs.Numbers.{Encodes, groups}

abbrev pub mark : List ℕ
mark = 0x52 ∷ 0x53 ∷ []

-- blocks, one after the other
abbrev pub joined : List (List ℕ) → List ℕ
joined [] = []
joined (b ∷ bs) = b ++ joined bs

-- what is sent
unfoldable pub layout : (nonce label : List ℕ) → List (List ℕ) → (tag : List ℕ) → List ℕ
layout nonce label bs tag =
    mark ++ (groups (length label) ++ (groups (length bs) ++ (nonce ++ (label ++ (joined bs ++ tag)))))

-- and how long that is, for a label of n bytes and m blocks
abbrev pub layout_length : ℕ → ℕ → ℕ
layout_length n m = 2 + length (groups n) + length (groups m) + 13 + n + 32 * m + 16

-- the parts of an envelope that have bytes of their own
pub record Fields : Type 0 where
  pub nonce : List ℕ
  pub label : List ℕ
  pub blocks : List ℕ
  pub tag : List ℕ

-- These bytes are an envelope with these parts. Each of the two numbers may have any of its forms.
pub record Laid (bytes : List ℕ) (f : Fields) : Type 0 where
  pub count : ℕ
  pub label_form : List ℕ
  pub count_form : List ℕ
  pub label_told : Encodes (length f.label) label_form
  pub count_told : Encodes count count_form
  pub nonce_size : length f.nonce ≡ 13
  pub label_short : length f.label ≤ 4096
  pub some_blocks : 0 < count
  pub few_blocks : count ≤ 4096
  pub whole_blocks : length f.blocks ≡ 32 * count
  pub tag_size : length f.tag ≡ 16
  pub bytes_are : bytes ≡ mark ++ (label_form ++ (count_form ++ (f.nonce ++ (f.label ++ (f.blocks ++ f.tag)))))
