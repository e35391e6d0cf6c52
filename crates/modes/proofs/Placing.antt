-- A part of a list written over.
use Rattle.std.proofs.Common.{◌≡◌, ℕ, ◌+◌, List, ◌++◌, length, take, drop, sym, ap, ◌∙◌, append_assoc}
use Rattle.std.proofs.lemmas.List.{take_at, drop_at, drop-drop}

-- p written over a ++ z, right after a
pub placed_after : (a z p : List ℕ) (n : ℕ) → length a ≡ n
    → take n (a ++ z) ++ (p ++ drop (n + length p) (a ++ z)) ≡ (a ++ p) ++ drop (length p) z
placed_after a z p n h =
    ap (λ x. x ++ (p ++ drop (n + length p) (a ++ z))) (take_at a z n h)
    ∙ ap (λ x. a ++ (p ++ x)) (sym (drop-drop (length p) n (a ++ z)) ∙ ap (drop (length p)) (drop_at a z n h))
    ∙ sym (append_assoc a p (drop (length p) z))
