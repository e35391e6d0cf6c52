-- Blocks beyond a note.
use Rattle.std.proofs.Common.{◌≡◌, ℕ, ◌+◌, ◌<◌, cond, List, [], ◌∷◌, ◌++◌, length, replicate, is_ok, Ok, Result, refl, ap, ◌∙◌, arith}
use Rattle.std.proofs.lemmas.List.{get_or-drop}
use Rattle.std.proofs.lemmas.Bool.{cond-false, eq-eqb, lt-leb, not_from_true}
use Rattle.modes.specs.declared.refusal.Refusal.{Refusal}
use Rattle.sheet.specs.Holders.{Sound, add_answer, with_more}
use Rattle.sheet.specs.Notes.{note_in, beyond, room_beyond, noted}
use Rattle.sheet.proofs.Claims.{add_found}

pub beyond_sound : (below : List (List ℕ)) → Sound below → Sound (beyond below)
beyond_sound below s i j = simp (get_or-drop 1 below i []) (s (1 + i) j)

-- what lies below once there is a note
abbrev with_note : List (List ℕ) → List (List ℕ)
with_note below = noted below ++ beyond below

pub note_there : (below : List (List ℕ)) → 0 < length below → below ≡ with_note below
note_there [] h = absurd (omega arith)
note_there (note ∷ rest) h = refl

pub note_made : (below after : List (List ℕ)) → length below ≡ 0 → after ≡ with_more below (replicate 32 0) → after ≡ with_note below
note_made [] after h e = e
note_made (note ∷ rest) after h e = absurd (omega arith)

-- a block of 32 entries is added where there is room
taken : (limit : ℕ) (bs : List (List ℕ)) (x : List ℕ) → length x ≡ 32 → length bs < limit → add_answer limit bs x ≡ Ok tt
taken limit bs x size less =
    cond-false _ _ _ (not_from_true _ (eq-eqb (length x) 32 size)) ∙ cond-false _ _ _ (lt-leb limit (length bs) less)

pub record Added (limit : ℕ) (below after : List (List ℕ)) (x : List ℕ) (r : Result (Unit {0}) Refusal) : Type 0 where
  pub ok : r ≡ Ok tt
  pub list : beyond after ≡ with_more (beyond below) x
  pub note : note_in after ≡ noted below

-- an add above a note that is there, or was just made
pub added : (limit : ℕ) (below mid after : List (List ℕ)) (x : List ℕ) (r : Result (Unit {0}) Refusal)
    → Ok tt ≡ add_answer (room_beyond limit) (beyond below) x → mid ≡ with_note below
    → r ≡ add_answer limit mid x → after ≡ cond (is_ok r) (with_more mid x) mid → Added limit below after x r
added limit below mid after x r checked is says grown =
    let found = add_found (room_beyond limit) (beyond below) x checked in
    let room = found.room in
    let ok : r ≡ Ok tt = says ∙ taken limit mid x found.size (omega (arith, length_noted below, ap length is)) in
    let all : after ≡ with_more (with_note below) x = grown ∙ ap (λ a. cond (is_ok a) (with_more mid x) mid) ok ∙ ap (λ m. with_more m x) is in
    record {
      ok = ok;
      list = ap beyond all ∙ beyond_noted below x;
      note = ap note_in all ∙ note_noted below x;
    }
  where
    length_noted : (bs : List (List ℕ)) → length (with_note bs) ≡ 1 + length (beyond bs)
    length_noted [] = refl
    length_noted (b ∷ bs) = omega arith

    beyond_noted : (bs : List (List ℕ)) (x : List ℕ) → beyond (with_more (with_note bs) x) ≡ with_more (beyond bs) x
    beyond_noted [] x = refl
    beyond_noted (b ∷ bs) x = refl

    note_noted : (bs : List (List ℕ)) (x : List ℕ) → note_in (with_more (with_note bs) x) ≡ noted bs
    note_noted [] x = refl
    note_noted (b ∷ bs) x = refl
