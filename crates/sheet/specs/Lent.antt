-- A memory holder: what the bytes lent to it hold.
use Rattle.std.specs.Prelude.{ℕ, List}
use Rattle.sheet.specs.declared.memory.MemoryHolder.{MemoryHolder}
use Rattle.sheet.specs.Chunks.{room_of, held}

abbrev pub lent_bytes : MemoryHolder → List ℕ
lent_bytes h = h.bytes.now

abbrev pub lent_list : MemoryHolder → List (List ℕ)
lent_list h = held h.count (lent_bytes h)

abbrev pub lent_room : MemoryHolder → ℕ
lent_room h = room_of (lent_bytes h)
