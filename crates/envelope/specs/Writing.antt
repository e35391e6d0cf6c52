-- Bytes written over others.
use Rattle.std.specs.Prelude.{List, ℕ, ◌++◌, length, drop}

-- xs with ys in place of its front
abbrev pub overlaid : List ℕ → List ℕ → List ℕ
overlaid xs ys = ys ++ drop (length ys) xs
