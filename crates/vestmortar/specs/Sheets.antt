-- What the program's calls on a sheet answer, with a permutation whose functions are `forth` and `back`.
use Rattle.std.specs.Prelude.{◌≡◌, ℕ, List, [], ◌∷◌, Ok, Err, vec_items, Result, Vec, bit_xor, slice_index, slice_set}
use Rattle.std.specs.declared.alloc.Global.{Global}
use Rattle.modes.specs.declared.refusal.Refusal.{Refusal}
use Rattle.modes.specs.Refusals.{answer}
use Rattle.sheet.specs.declared.state.State.{State}
use Rattle.sheet.specs.Calls.{seal_answer, read_answer, read_bytes, tag_answer, under}
use Rattle.sheet.specs.Chunks.{wholes}
use Rattle.sheet.specs.Ciphers.{cipher_of}
use Rattle.sheet.specs.Holders.{no_such_block}
use Rattle.vestmortar.specs.declared.failure.Failure.{Failure}
use Rattle.vestmortar.specs.declared.memory.Kept.{Kept}
use Rattle.vestmortar.specs.Outcomes.{Declines}

-- the tag of what was sealed, where the library answers so
abbrev pub tagged : (forth back : List ℕ → List ℕ) → Result State Refusal → Result (List ℕ) Refusal
tagged forth back (Ok s) = Ok (tag_answer (under forth back s) s)
tagged forth back (Err refusal) = Err refusal

-- sealing into empty memory with room for so many blocks
abbrev pub seal_tag : (forth back : List ℕ → List ℕ) (key nonce label text : List ℕ) (room : ℕ) → Result (List ℕ) Refusal
seal_tag forth back key nonce label text room = tagged forth back (seal_answer (cipher_of forth back key nonce) key nonce label text room [])

-- the outcome of sealing under a nonce, where the tag or refusal is `a`
abbrev pub Keeps : Result (List ℕ) Refusal → Vec ℕ Global → Result Kept Failure → Type 0
Keeps a nonce (Ok kept) = (a ≡ Ok kept.tag) × (kept.nonce ≡ nonce)
Keeps a nonce (Err failure) = Declines a failure

-- a block of the bytes is flipped if it is there
abbrev pub flip_answer : List ℕ → ℕ → Result (Unit {0}) Refusal
flip_answer bytes k = answer (no_such_block (wholes bytes) k ∷ []) tt

-- a block with the lowest bit of its first byte flipped
abbrev pub flipped : List ℕ → List ℕ
flipped block = slice_set block 0 (bit_xor (slice_index block 0) 1)

-- the outcome of reading n bytes from a position of an open sheet with these blocks
abbrev pub Reads : (forth back : List ℕ → List ℕ) → State → List (List ℕ) → ℕ → ℕ → Result (Vec ℕ Global) Failure → Type 0
Reads forth back s bs at n (Ok v) = (read_answer s bs at n ≡ Ok tt) × (vec_items v ≡ read_bytes (under forth back s) s bs at n)
Reads forth back s bs at n (Err failure) = Declines (read_answer s bs at n) failure
