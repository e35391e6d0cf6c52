-- Bytes as blocks of 32, one after the other.
use Rattle.std.specs.Prelude.{ℕ, ◌+◌, ◌*◌, ◌/◌, min, List, ◌++◌, length, take, drop}
use Rattle.std.specs.Simd.{first_chunks}

-- the first n blocks of bytes
abbrev pub chunks : ℕ → List ℕ → List (List ℕ)
chunks n bytes = first_chunks 32 n bytes

-- how many blocks bytes have room for
abbrev pub room_of : List ℕ → ℕ
room_of bytes = min (length bytes / 32) 4096

-- the blocks of bytes of which `count` are told to be in use: a count above the room counts as the room
abbrev pub held : ℕ → List ℕ → List (List ℕ)
held count bytes = chunks (min count (room_of bytes)) bytes

-- the whole blocks of bytes
abbrev pub wholes : List ℕ → List (List ℕ)
wholes bytes = chunks (room_of bytes) bytes

-- bytes with the 32 from 32 * i on replaced, and no other
abbrev pub overwritten : List ℕ → ℕ → List ℕ → List ℕ
overwritten bytes i x = take (32 * i) bytes ++ (x ++ drop (32 * i + 32) bytes)
