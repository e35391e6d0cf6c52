-- An array whose element at each index a closure gave, and left itself as it was.
use denote.Param.Members.{Mut}
use Rattle.std.proofs.Common.{◌≡◌, ℕ, zero, suc, ◌+◌, ◌<◌, ◌≤◌, List, map, get_or, sym, subst, ap, ◌∙◌, ⊎_elim, arith}
use Rattle.std.proofs.lemmas.Bool.{cases_eq}
use Rattle.std.proofs.lemmas.List.FromFn.{fill_by_all}
use Rattle.std.specs.Array.{IsFromFnResult, IsFromFnResultFrom}
use Rattle.std.specs.Fn.{Called}
use Rattle.std.specs.List.{range_with_len}

module _ {F B : Type 0} (g : Mut F (ℕ × Unit {0}) B) (h : ℕ → B) (f : F) (m : ℕ)
    (gives : (i : ℕ) (y : B) (q : F) → i < m → Called g f (i, tt) y q → (q ≡ f) × (y ≡ h i)) where
  made_at : (ys : List B) (i n : ℕ) → i + n ≡ m → IsFromFnResultFrom g f ys i n → (k : ℕ) (d : B) → i ≤ k → k < m → get_or ys k d ≡ h k
  made_at ys i zero e c k d low high = absurd (omega arith)
  made_at ys i (suc n) e c k d low high =
      let here = gives i c.1 c.0 (omega arith) c.3 in
      ⊎_elim
      (λ (same : k ≡ i). ap (λ j. get_or ys j d) same ∙ c.2.1 d ∙ here.1 ∙ ap h (sym same))
      (λ (apart : k ≡ i → ⊥).
      made_at ys (i + 1) n (omega arith) (subst (λ p. IsFromFnResultFrom g p ys (i + 1) n) here.0 c.4) k d (omega arith) high)
      (cases_eq k i)

  pub made_entry : (ys : List B) → IsFromFnResult g f ys m → (k : ℕ) (d : B) → k < m → get_or ys k d ≡ h k
  made_entry ys made k d l = made_at ys 0 m (omega arith) made.each k d (omega arith) l

  pub made_by_index : (ys : List B) (d : B) → IsFromFnResult g f ys m → ys ≡ map h (range_with_len 0 m)
  made_by_index ys d made = fill_by_all h ys m d made.long (λ k l. made_entry ys made k d l)
