-- What an array holds that a method of arrays made, and where its closure may be called.
use Rattle.std.proofs.Common.{◌≡◌, ℕ, zero, suc, ◌+◌, ◌<◌, ◌≤◌, List, [], ◌∷◌, get_or, ◌∙◌, ap, sym, refl, subst, ⊎_elim, suc-le-suc, arith}
use Rattle.std.proofs.lemmas.Bool.{cases_eq}
use denote.Param.Members.{Mut, Called}
use Rattle.std.specs.Array.{MapsFrom, IsMapOf, list_steps}
use Rattle.std.specs.Iterator.{Yields, CallableAtEachTurn}
use Rattle.std.specs.List.{All}
use Rattle.permutation.specs.Minalpher.{row}
use Rattle.permutation.specs.Rows.{row_at}
use Rattle.permutation.specs.BlockLaws.{same_entries}

-- where P holds of each item of an array, its closure is called at such items alone
module _ (P : ℕ → Type 0) where
  all_left : (xs ys zs : List ℕ) → All P xs → Yields list_steps xs ys zs → All P zs
  all_left xs [] zs a e = subst (All P) e a
  all_left xs (y ∷ ys) zs a e = all_left e.0 ys zs (λ k d h. subst (All P) e.1 a (suc k) d (suc-le-suc h)) e.2

  pub callable : {F : Type 0} {R : F → ℕ → F → Type 0} {Q : F → ℕ → Type 0} (xs : List ℕ) (f : F) → All P xs
      → ((q : F) (x : ℕ) → P x → Q q x) → CallableAtEachTurn list_steps R Q xs f
  callable xs f a h =
      record { at = λ ys zs q x u y r t. h q x (subst (All P) t (all_left xs ys zs a y) 0 0 (omega arith)) }

-- a closure that changes nothing it has captured, and gives h of each item
module _ {F : Type 0} (g : Mut F (ℕ × Unit {0}) ℕ) (f : F) (xs ys : List ℕ) (h : ℕ → ℕ)
    (gives : (x y : ℕ) (q : F) → Called g f (x, tt) y q → (f ≡ q) × (y ≡ h x)) where
  maps_at : (n i : ℕ) → MapsFrom g f xs ys i n → (j : ℕ) → i ≤ j → j < i + n → get_or ys j 0 ≡ h (get_or xs j 0)
  maps_at zero i e j l m = absurd (omega arith)
  maps_at (suc n) i e j l m =
      let here = gives e.1 e.2 e.0 e.5 in
      ⊎_elim
      (λ (first : j ≡ i).
      subst (λ (j : ℕ). get_or ys j 0 ≡ h (get_or xs j 0)) (sym first) (e.4.1 0 ∙ here.1 ∙ ap h (sym (e.3.1 0))))
      (λ (other : j ≡ i → ⊥).
      maps_at n (i + 1) (subst (λ (q : F). MapsFrom g q xs ys (i + 1) n) (sym here.0) e.6) j (omega arith) (omega arith))
      (cases_eq j i)

  pub map_row : IsMapOf g f xs ys 8 → ys ≡ row (λ j. h (get_or xs j 0))
  map_row e =
      same_entries 8 ys (row (λ j. h (get_or xs j 0))) e.long refl
      (λ j l. maps_at 8 0 e.each j (omega arith) (omega arith) ∙ sym (row_at (λ j. h (get_or xs j 0)) j l))
