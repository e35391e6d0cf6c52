-- What the blocks of a holder add to a sum and hold of a text, under the masks that are made from the block l.
use Rattle.std.specs.Prelude.{ℕ, ◌+◌, ◌/◌, ◌%◌, List, slice_index}
use Rattle.sheet.specs.Ciphers.{enc_at, con_at}
use Rattle.sheet.specs.Holders.{block}

-- block k of the list, where it is not the last
abbrev pub block_adds : (List ℕ → List ℕ) → List ℕ → List (List ℕ) → ℕ → List ℕ
block_adds forth l bs k = con_at forth l k (block bs k)

-- byte i of the opened blocks
abbrev pub opened_byte : (List ℕ → List ℕ) → List ℕ → List (List ℕ) → ℕ → ℕ
opened_byte back l bs i = slice_index (enc_at back l (i / 32 + 1) (block bs (i / 32 + 1))) (i % 32)
