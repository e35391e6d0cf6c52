-- The nibbles of a row, in each way to keep it.
use Rattle.std.specs.Prelude.{ℕ, List}
use Rattle.permutation.specs.Packed.{word_row}
use Rattle.permutation.specs.declared.nibbles.NibbleRow.{NibbleRow}
use Rattle.permutation.specs.declared.words.WordRow.{WordRow}

abbrev pub cells_of : NibbleRow → List ℕ
cells_of r = r.cells

abbrev pub nibbles_of : WordRow → List ℕ
nibbles_of r = word_row r.word
