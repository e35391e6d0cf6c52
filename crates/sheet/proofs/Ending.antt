-- Where a text ends in its last block: the function finds the place that the words describe.
use Rattle.std.proofs.Common.{◌≡◌, ℕ, zero, suc, ◌<◌, ◌≤◌, true, false, cond, eqb, ◌⊎◌, List, get_or, Some, None, sym, ap, ◌∙◌, inl, inr, ⊎_elim, arith}
use Rattle.std.proofs.lemmas.Bool.{cases_Bool, cases_lt, cases_order, eqb-true, eq-eqb, ne_eqb, cond-true, cond-false}
use Rattle.sheet.specs.Sealing.{end_within, text_end, Ends}

-- the same below k in place of 32
pub record EndsWithin (p : List ℕ) (n k : ℕ) : Type 0 where
  pub inside : n < k
  pub mark : get_or p n 0 ≡ 0x80
  pub rest : (j : ℕ) → n < j → j < k → get_or p j 0 ≡ 0x00

pub end_found : (p : List ℕ) (n k : ℕ) → end_within p k ≡ Some n → EndsWithin p n k
unfolding end_within
end_found p n zero h = let z : ◌≡◌ {A = ℕ} 0 1 = cc in absurd (omega arith)
end_found p n (suc k) h =
    ⊎_elim
    (λ (e : eqb (get_or p k 0) 0x00 ≡ true).
    let w = end_found p n k (sym (cond-true (eqb (get_or p k 0) 0x00) (end_within p k) (cond (eqb (get_or p k 0) 0x80) (Some k) None) e) ∙ h) in
    let zero_here = eqb-true (get_or p k 0) 0x00 e in
    let l = w.inside in
    record { inside = omega arith; mark = w.mark; rest = λ j a b. at_last j (omega arith) zero_here (λ b'. w.rest j a b') })
    (λ (e : eqb (get_or p k 0) 0x00 ≡ false).
    let q = sym (cond-false (eqb (get_or p k 0) 0x00) (end_within p k) (cond (eqb (get_or p k 0) 0x80) (Some k) None) e) ∙ h in
    ⊎_elim
    (λ (m : eqb (get_or p k 0) 0x80 ≡ true).
    let same : k ≡ n = (let s = sym (cond-true (eqb (get_or p k 0) 0x80) (Some k) None m) ∙ q in cc) in
    record {
      inside = omega arith;
      mark = ap (λ i. get_or p i 0) (sym same) ∙ eqb-true (get_or p k 0) 0x80 m;
      rest = λ j a b. absurd (omega arith);
    })
    (λ (m : eqb (get_or p k 0) 0x80 ≡ false).
    let s = sym (cond-false (eqb (get_or p k 0) 0x80) (Some k) None m) ∙ q in
    let z : ◌≡◌ {A = ℕ} 0 1 = cc in
    absurd (omega arith))
    (cases_Bool (eqb (get_or p k 0) 0x80)))
    (cases_Bool (eqb (get_or p k 0) 0x00))
  where
    at_last : (j : ℕ) → j ≤ k → get_or p k 0 ≡ 0x00 → (j < k → get_or p j 0 ≡ 0x00) → get_or p j 0 ≡ 0x00
    at_last j l here below = go (cases_order j k)
      where
        go : (j ≡ k) ⊎ ((j < k) ⊎ (k < j)) → get_or p j 0 ≡ 0x00
        go (inl e) = ap (λ i. get_or p i 0) e ∙ here
        go (inr (inl b)) = below b
        go (inr (inr b)) = absurd (omega arith)

pub found_end : (p : List ℕ) (n k : ℕ) → EndsWithin p n k → end_within p k ≡ Some n
unfolding end_within
found_end p n zero w = let l = w.inside in absurd (omega arith)
found_end p n (suc k) w = go (found_end p n k) (cases_order n k)
  where
    go : (EndsWithin p n k → end_within p k ≡ Some n) → (n ≡ k) ⊎ ((n < k) ⊎ (k < n)) → end_within p (suc k) ≡ Some n
    go below (inl e) =
        let m : get_or p k 0 ≡ 0x80 = ap (λ i. get_or p i 0) (sym e) ∙ w.mark in
        cond-false (eqb (get_or p k 0) 0x00) (end_within p k) (cond (eqb (get_or p k 0) 0x80) (Some k) None) (ne_eqb (get_or p k 0) 0x00 (λ z. omega arith))
        ∙ cond-true (eqb (get_or p k 0) 0x80) (Some k) None (eq-eqb (get_or p k 0) 0x80 m)
        ∙ ap Some (sym e)
    go below (inr (inl l)) =
        cond-true (eqb (get_or p k 0) 0x00) (end_within p k) (cond (eqb (get_or p k 0) 0x80) (Some k) None) (eq-eqb (get_or p k 0) 0x00 (w.rest k l (omega arith)))
        ∙ below (record { inside = l; mark = w.mark; rest = λ j a b. w.rest j a (omega arith) })
    go below (inr (inr l)) = let i = w.inside in absurd (omega arith)

pub end_ends : (p : List ℕ) (n : ℕ) → text_end p ≡ Some n → Ends p n
unfolding text_end
end_ends p n h = let w = end_found p n 32 h in record { inside = w.inside; mark = w.mark; rest = w.rest }

pub ends_end : (p : List ℕ) (n : ℕ) → Ends p n → text_end p ≡ Some n
unfolding text_end
ends_end p n w = found_end p n 32 (record { inside = w.inside; mark = w.mark; rest = w.rest })

-- zeros behind the first n bytes do not count
past_zeros : (p : List ℕ) (n k : ℕ) → n ≤ k → ((j : ℕ) → n ≤ j → j < k → get_or p j 0 ≡ 0x00) → end_within p k ≡ end_within p n
unfolding end_within
past_zeros p n zero l z = let none : 0 ≡ n = omega arith in ap (end_within p) none
past_zeros p n (suc k) l z = go (past_zeros p n k) (cases_lt k n)
  where
    go : (n ≤ k → ((j : ℕ) → n ≤ j → j < k → get_or p j 0 ≡ 0x00) → end_within p k ≡ end_within p n) → (k < n) ⊎ (n ≤ k) → end_within p (suc k) ≡ end_within p n
    go below (inl h) = let all : suc k ≡ n = omega arith in ap (end_within p) all
    go below (inr h) =
        cond-true (eqb (get_or p k 0) 0x00) (end_within p k) (cond (eqb (get_or p k 0) 0x80) (Some k) None) (eq-eqb (get_or p k 0) 0x00 (z k h (omega arith)))
        ∙ below h (λ j a b. z j a (omega arith))

pub end_of_zeros : (p : List ℕ) → ((j : ℕ) → j < 32 → get_or p j 0 ≡ 0x00) → text_end p ≡ None
unfolding text_end end_within
end_of_zeros p z = past_zeros p 0 32 (omega arith) (λ j a b. z j b)

-- the last byte that is not zero is the one that counts
pub end_at_last : (p : List ℕ) (n : ℕ) → n < 32 → (get_or p n 0 ≡ 0x00 → ⊥) → ((j : ℕ) → n < j → j < 32 → get_or p j 0 ≡ 0x00)
    → text_end p ≡ cond (eqb (get_or p n 0) 0x80) (Some n) None
unfolding text_end end_within
end_at_last p n l some z =
    past_zeros p (suc n) 32 (omega arith) (λ j a b. z j (omega arith) b)
    ∙ cond-false (eqb (get_or p n 0) 0x00) (end_within p n) (cond (eqb (get_or p n 0) 0x80) (Some n) None) (ne_eqb (get_or p n 0) 0x00 some)
