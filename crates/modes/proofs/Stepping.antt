-- A step, place by place.
use Rattle.std.proofs.Common.{◌≡◌, ℕ, ◌+◌, ◌<◌, ◌≤◌, ◌≢◌, List, [], ◌∷◌, ◌++◌, length, get_or, drop, set, sym, ap, ◌∙◌, subst, ⊎_elim, arith}
use Rattle.std.proofs.lemmas.List.{get_or-set_same, get_or-set_other, get_or-drop, get_or_append_left, get_or-append_right, length-append, length-drop, length-set}
use Rattle.std.proofs.lemmas.Bool.{cases_lt}
use Rattle.permutation.specs.BlockLaws.{same_entries}

-- bytes 1 to 31 of x, and then d
module _ (x y : List ℕ) (d : ℕ) (hx : length x ≡ 32) (hy : length y ≡ 32)
    (moved : (k : ℕ) → k < 31 → get_or y k 0 ≡ get_or x (k + 1) 0) where
  shifted_at : (k : ℕ) → k < 32 → get_or (set y 31 d) k 0 ≡ get_or (drop 1 x ++ d ∷ []) k 0
  shifted_at k h =
      let rest : length (drop 1 x) ≡ 31 = simp length-drop (omega arith) in
      ⊎_elim
      (λ (l : k < 31).
      let inside : k < length (drop 1 x) = omega arith in
      let apart : k ≢ 31 = omega arith in
      let next : 1 + k ≡ k + 1 = omega arith in
      get_or-set_other y 31 k d 0 apart ∙ moved k l
      ∙ sym (get_or_append_left (drop 1 x) (d ∷ []) 0 k inside ∙ get_or-drop 1 x k 0 ∙ ap (λ n. get_or x n 0) next))
      (λ (l : 31 ≤ k).
      let last : k ≡ 31 = omega arith in
      let within : 31 < length y = omega arith in
      subst (λ (n : ℕ). get_or (set y 31 d) n 0 ≡ get_or (drop 1 x ++ d ∷ []) n 0) (sym last)
      (get_or-set_same y 31 d 0 within ∙ sym (get_or-append_right (drop 1 x) (d ∷ []) 31 31 0 rest (omega arith))))
      (cases_lt k 31)

  pub shifted : set y 31 d ≡ drop 1 x ++ d ∷ []
  shifted =
      same_entries 32 (set y 31 d) (drop 1 x ++ d ∷ []) (simp length-set hy)
      (simp (length-append, length-drop) (omega arith))
      shifted_at
