-- What lies beyond a note is within bounds.
use Rattle.std.specs.Prelude.{ℕ, ◌+◌, ◌<◌, List, [], length}
use Rattle.std.proofs.Common.{ap, ◌∙◌, arith, length-drop}
use Rattle.std.proofs.lemmas.List.{get_or-drop}
use Rattle.sheet.specs.Holders.{Bounded}
use Rattle.sheet.specs.Notes.{beyond, room_beyond}

pub beyond_bounded : {below : List (List ℕ)} {limit : ℕ} → Bounded below limit → Bounded (beyond below) (room_beyond limit)
beyond_bounded {below} {limit} b = record {
  within = simp length-drop (omega (arith, b.within));
  small = omega (arith, b.small);
  whole = λ i h.
      let inside : 1 + i < length below = omega (arith, length-drop 1 below) in
      ap length (get_or-drop 1 below i []) ∙ b.whole (1 + i) inside;
}
