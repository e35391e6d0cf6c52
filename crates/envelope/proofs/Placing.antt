-- One write behind the other.
use Rattle.std.proofs.Common.{◌≡◌, ℕ, ◌+◌, ◌-◌, ◌<◌, ◌≤◌, List, [], ◌++◌, length, get_or, take, drop, sym, ap, ◌∙◌, subst, ap₂, arith, length-take}
use Rattle.std.proofs.lemmas.List.{append_assoc, drop-drop, length-append}
use Rattle.std.proofs.Math.Seq.{take-append-add, take-append_seam, drop-append-add}
use Rattle.sheet.specs.Holders.{block}
use Rattle.sheet.specs.Edits.{overwritten}
use Rattle.envelope.specs.declared.writing.Writer.{Writer}
use Rattle.envelope.specs.Layouts.{joined}
use Rattle.envelope.specs.Writers.{Wrote}
use Rattle.envelope.specs.Writing.{overlaid}
use Rattle.envelope.proofs.Blocks.{joined_more}

seams : (front p rest q : List ℕ) → take (length front + length p) (front ++ (p ++ rest)) ++ (q ++ drop (length front + (length p + length q)) (front ++ (p ++ rest)))
    ≡ front ++ (p ++ (q ++ drop (length q) rest))
seams front p rest q = simp (take-append-add, take-append_seam, drop-append-add, append_assoc)

placed_more : (xs : List ℕ) (at : ℕ) (p q : List ℕ) → at ≤ length xs → overwritten (overwritten xs at p) (at + length p) q ≡ overwritten xs at (p ++ q)
placed_more xs at p q fits =
    let front = take at xs in
    let rest = drop (at + length p) xs in
    let size : at ≡ length front = simp length-take (omega arith) in
    let first : at + length p ≡ length front + length p = omega arith in
    let both : at + length p + length q ≡ length front + (length p + length q) = omega arith in
    let end : at + length p + length q ≡ at + length (p ++ q) = omega (arith, length-append p q) in
    ap₂ (λ m n. take m (front ++ (p ++ rest)) ++ (q ++ drop n (front ++ (p ++ rest)))) first both
    ∙ seams front p rest q
    ∙ ap (λ r. front ++ (p ++ (q ++ r))) (drop-drop (length q) (at + length p) xs ∙ ap (λ n. drop n xs) end)
    ∙ ap (λ r. front ++ r) (sym (append_assoc p q (drop (at + length (p ++ q)) xs)))

-- Two writes, one behind the other, are one write of both.
pub wrote_both : {w v u : Writer} {p q : List ℕ} → Wrote w v p → Wrote v u q → w.place ≤ length w.buffer.now → Wrote w u (p ++ q)
wrote_both {w} {v} {u} {p} {q} a b fits = record {
  buffer_is =
      b.buffer_is
      ∙ ap₂ (λ x at. overwritten x at q) a.buffer_is a.place_is
      ∙ placed_more w.buffer.now w.place p q fits;
  place_is = let first = a.place_is in let then = b.place_is in omega (arith, length-append p q);
  same_length = b.same_length ∙ a.same_length;
  tied = b.tied ∙ a.tied;
}

-- one block more
pub block_more : {w v u : Writer} {b : List ℕ} (bs : List (List ℕ)) (k : ℕ) → w.place ≤ length w.buffer.now → k < length bs
    → Wrote w v (joined (take k bs)) → Wrote v u b → b ≡ block bs (k + 1) → Wrote w u (joined (take (k + 1) bs))
block_more {w} {v} {u} {b} bs k fits h so_far more is =
    let front = joined (take k bs) in
    let place : k + 1 - 1 ≡ k = omega arith in
    subst (Wrote w u) (ap (λ x. front ++ x) (is ∙ ap (λ i. get_or bs i []) place) ∙ joined_more bs k h) (wrote_both so_far more fits)

-- from an empty buffer on
pub wrote_all : (w v : Writer) (out p : List ℕ) → w.buffer.now ≡ out → w.place ≡ 0 → Wrote w v p → v.buffer.now ≡ overlaid out p
wrote_all w v out p is here a =
    let front : 0 + length p ≡ length p = omega arith in
    a.buffer_is ∙ ap₂ (λ x at. overwritten x at p) is here ∙ ap (λ n. p ++ drop n out) front
