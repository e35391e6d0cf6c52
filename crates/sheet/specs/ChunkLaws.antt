-- Laws of bytes as blocks: how many there are, which they are, and that each has 32 entries.
use Rattle.std.specs.Prelude.{◌≡◌, ℕ, zero, suc, ◌+◌, ◌*◌, ◌<◌, ◌≤◌, min, List, [], length, take, drop, slice_index_or, refl}
use Rattle.std.proofs.Common.{ap, ◌∙◌, arith, length-take, length-drop}
use Rattle.std.proofs.lemmas.List.{drop-drop}
use Rattle.sheet.specs.Chunks.{chunks, room_of, held, wholes}
use Rattle.sheet.specs.Holders.{Bounded}

pub length_chunks : (n : ℕ) (bytes : List ℕ) → length (chunks n bytes) ≡ n
length_chunks zero bytes = refl
length_chunks (suc n) bytes = ap suc (length_chunks n (drop 32 bytes))

pub get_or_chunks : (n : ℕ) (bytes : List ℕ) (i : ℕ) (d : List ℕ) → i < n → slice_index_or (chunks n bytes) i d ≡ take 32 (drop (32 * i) bytes)
get_or_chunks zero bytes i d h = absurd (omega arith)
get_or_chunks (suc n) bytes zero d h = refl
get_or_chunks (suc n) bytes (suc i) d h =
    let less : i < n = omega arith in
    let at : 32 + 32 * i ≡ 32 * suc i = omega arith in
    get_or_chunks n (drop 32 bytes) i d less ∙ ap (take 32) (drop-drop (32 * i) 32 bytes) ∙ ap (λ k. take 32 (drop k bytes)) at

pub chunks_bounded : (n : ℕ) (bytes : List ℕ) (limit : ℕ) → n ≤ limit → limit ≤ room_of bytes → Bounded (chunks n bytes) limit
chunks_bounded n bytes limit h l = record {
  within = omega (arith, length_chunks n bytes);
  small = omega arith;
  whole = λ i inside.
      let less : i < n = omega (arith, length_chunks n bytes) in
      ap length (get_or_chunks n bytes i [] less) ∙ simp (length-take, length-drop) (omega arith);
}

pub held_bounded : (count : ℕ) (bytes : List ℕ) → Bounded (held count bytes) (room_of bytes)
held_bounded count bytes = chunks_bounded (min count (room_of bytes)) bytes (room_of bytes) (omega arith) (omega arith)

pub wholes_bounded : (bytes : List ℕ) → Bounded (wholes bytes) (room_of bytes)
wholes_bounded bytes = chunks_bounded (room_of bytes) bytes (room_of bytes) (omega arith) (omega arith)
