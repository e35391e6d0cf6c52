-- A part of a list of blocks: what it adds to the sum, and what sealing it anew leaves.
use Rattle.std.proofs.Common.{◌≡◌, ℕ, ◌+◌, ◌-◌, ◌*◌, ◌<◌, ◌≤◌, max, cond, eqb, ltb, ◌≢◌, ◌⊎◌, List, [], ◌∷◌, ◌++◌, length, get_or, set, replicate, sym, refl, ap, ◌∙◌, ap₂, inl, inr, arith}
use Rattle.std.proofs.lemmas.List.{length-set, length_push, get_or-set_same, get_or-set_other, get_or_append_left, get_or_push, get_or_past}
use Rattle.std.proofs.lemmas.Bool.{cases_lt, cases_order, cond-true, cond-false, lt-ltb, le-ltb}
use Rattle.permutation.specs.Blocks.{◌⊕◌}
use Rattle.modes.specs.Cipher.{masked}
use Rattle.modes.specs.Masks.{times, step}
use Rattle.modes.specs.Sums.{xor_to}
use Rattle.modes.specs.SumLaws.{xor_to_more}
use Rattle.sheet.specs.Holders.{block, with_block, with_more}
use Rattle.sheet.specs.Laying.{laid_block, plain_in, resealed, with_place, odd_from, Resealed, part_adds, part_total}

pub part_none : (f : List ℕ → List ℕ) (w : List ℕ) (bs : List (List ℕ)) (from n : ℕ) → n ≡ 0 → replicate 32 0 ≡ part_total f w bs from n
unfolding part_total xor_to
part_none f w bs from n e = sym (ap (xor_to (part_adds f w bs from)) e)

-- one block more, which k stand before, is added
pub part_more : (f : List ℕ → List ℕ) (w : List ℕ) (bs : List (List ℕ)) (from k count : ℕ) (sum even more after : List ℕ) → from ≤ k
    → count ≡ length bs → sum ≡ part_total f w bs from (k - from) → even ≡ times (2 * (k - from + 1)) step w
    → more ≡ cond (eqb (k + 1) count) (block bs (k + 1)) (masked f even (block bs (k + 1))) → after ≡ sum ⊕ more
    → after ≡ part_total f w bs from (k + 1 - from)
unfolding part_total
part_more f w bs from k count sum even more after low all so_far mask adds is =
    let n : ℕ = k - from in
    let next : k + 1 - from ≡ n + 1 = omega arith in
    let number : k + 1 ≡ from + (n + 1) = omega arith in
    let here : more ≡ part_adds f w bs from (n + 1) =
    adds ∙ ap₂ (λ m e. cond (eqb (k + 1) m) (block bs (k + 1)) (masked f e (block bs (k + 1)))) all mask
    ∙ ap (λ j. cond (eqb j (length bs)) (block bs j) (masked f (times (2 * (n + 1)) step w) (block bs j))) number in
    is ∙ ap₂ ◌⊕◌ so_far here ∙ sym (xor_to_more (part_adds f w bs from) n) ∙ ap (xor_to (part_adds f w bs from)) (sym next)

-- a list with a block at a place
module _ (bs : List (List ℕ)) (i : ℕ) (x : List ℕ) where
  there : i < length bs → with_place bs i x ≡ set bs i x
  there h = cond-true (ltb i (length bs)) (set bs i x) (bs ++ x ∷ []) (lt-ltb i (length bs) h)

  at_end : length bs ≤ i → with_place bs i x ≡ bs ++ x ∷ []
  at_end h = cond-false (ltb i (length bs)) (set bs i x) (bs ++ x ∷ []) (le-ltb i (length bs) h)

  by_length : (i < length bs) ⊎ (length bs ≤ i) → i ≤ length bs → length (with_place bs i x) ≡ max (length bs) (i + 1)
  by_length (inl h) l = ap length (there h) ∙ (length-set bs i x ∙ omega arith)
  by_length (inr h) l = ap length (at_end h) ∙ (length_push bs x ∙ omega arith)

  length_placed : i ≤ length bs → length (with_place bs i x) ≡ max (length bs) (i + 1)
  length_placed l = by_length (cases_lt i (length bs)) l

  by_same : (i < length bs) ⊎ (length bs ≤ i) → i ≤ length bs → get_or (with_place bs i x) i [] ≡ x
  by_same (inl h) l = ap (λ y. get_or y i []) (there h) ∙ get_or-set_same bs i x [] h
  by_same (inr h) l = ap (λ y. get_or y i []) (at_end h) ∙ get_or_push bs x [] i (omega arith)

  placed_same : i ≤ length bs → get_or (with_place bs i x) i [] ≡ x
  placed_same l = by_same (cases_lt i (length bs)) l

  by_other : (k : ℕ) → k ≢ i → (i < length bs) ⊎ (length bs ≤ i) → i ≤ length bs → (k < i) ⊎ (i ≤ k) → get_or (with_place bs i x) k [] ≡ get_or bs k []
  by_other k o (inl h) l p = ap (λ y. get_or y k []) (there h) ∙ get_or-set_other bs i k x [] o
  by_other k o (inr h) l (inl p) = ap (λ y. get_or y k []) (at_end h) ∙ get_or_append_left bs (x ∷ []) [] k (omega arith)
  by_other k o (inr h) l (inr p) =
      let beyond : i < k = go (cases_order i k) in
      ap (λ y. get_or y k []) (at_end h)
      ∙ get_or_past (bs ++ x ∷ []) k [] (omega (arith, length_push bs x)) ∙ sym (get_or_past bs k [] (omega arith))
    where
      go : (i ≡ k) ⊎ ((i < k) ⊎ (k < i)) → i < k
      go (inl e) = absurd (o (sym e))
      go (inr (inl q)) = q
      go (inr (inr q)) = absurd (omega arith)

  placed_other : (k : ℕ) → k ≢ i → i ≤ length bs → get_or (with_place bs i x) k [] ≡ get_or bs k []
  placed_other k o l = by_other k o (cases_lt i (length bs)) l (cases_lt k i)

module _ (f b : List ℕ → List ℕ) (at : ℕ) (d : List ℕ) (n : ℕ) where
  -- a block that is there is opened, altered and put; beyond the end one is added
  pub put_resealed : (w : List ℕ) (bs : List (List ℕ)) (i : ℕ) (plain x : List ℕ) (after : List (List ℕ)) → i < length bs
      → plain ≡ masked b w (block bs (i + 1)) → x ≡ masked f w (laid_block at d n i plain) → after ≡ with_block bs (i + 1) x
      → after ≡ with_place bs i (resealed f b w at d n bs i)
  unfolding resealed
  put_resealed w bs i plain x after inside was is put =
      let place : i + 1 - 1 ≡ i = omega arith in
      let old : plain_in b w bs i ≡ plain =
      cond-true (ltb i (length bs)) (masked b w (get_or bs i [])) (replicate 32 0) (lt-ltb i (length bs) inside)
      ∙ ap (λ j. masked b w (get_or bs j [])) (sym place) ∙ sym was in
      put ∙ ap₂ (set bs) place is ∙ ap (λ p. set bs i (masked f w (laid_block at d n i p))) (sym old)
      ∙ sym (there bs i (masked f w (laid_block at d n i (plain_in b w bs i))) inside)

  pub add_resealed : (w : List ℕ) (bs : List (List ℕ)) (i : ℕ) (x : List ℕ) (after : List (List ℕ)) → length bs ≤ i
      → x ≡ masked f w (laid_block at d n i (replicate 32 0)) → after ≡ with_more bs x
      → after ≡ with_place bs i (resealed f b w at d n bs i)
  unfolding resealed
  add_resealed w bs i x after beyond is add =
      let old : plain_in b w bs i ≡ replicate 32 0 =
      cond-false (ltb i (length bs)) (masked b w (get_or bs i [])) (replicate 32 0) (le-ltb i (length bs) beyond) in
      add ∙ ap (λ y. bs ++ y ∷ []) is ∙ ap (λ p. bs ++ masked f w (laid_block at d n i p) ∷ []) (sym old)
      ∙ sym (at_end bs i (masked f w (laid_block at d n i (plain_in b w bs i))) beyond)

  pub reseal_none : (w : List ℕ) (bs : List (List ℕ)) (from : ℕ) → from ≤ length bs → Resealed f b w at d n from from bs bs
  reseal_none w bs from h = record {
    count = omega arith;
    inside = λ i a l. absurd (omega arith);
    before = λ i l. refl;
    behind = λ i l. refl;
  }

  -- the block at a place has the same bytes before it is sealed anew as at the beginning
  same_here : (w : List ℕ) (bs mid : List (List ℕ)) (i : ℕ) → get_or mid i [] ≡ get_or bs i [] → length mid ≡ max (length bs) i
      → (i < length bs) ⊎ (length bs ≤ i) → resealed f b w at d n mid i ≡ resealed f b w at d n bs i
  unfolding resealed
  same_here w bs mid i kept long o = ap (λ p. masked f w (laid_block at d n i p)) (go o)
    where
      go : (i < length bs) ⊎ (length bs ≤ i) → plain_in b w mid i ≡ plain_in b w bs i
      go (inl h) =
          cond-true (ltb i (length mid)) (masked b w (get_or mid i [])) (replicate 32 0) (lt-ltb i (length mid) (omega arith))
          ∙ ap (masked b w) kept
          ∙ sym (cond-true (ltb i (length bs)) (masked b w (get_or bs i [])) (replicate 32 0) (lt-ltb i (length bs) h))
      go (inr h) =
          cond-false (ltb i (length mid)) (masked b w (get_or mid i [])) (replicate 32 0) (le-ltb i (length mid) (omega arith))
          ∙ sym (cond-false (ltb i (length bs)) (masked b w (get_or bs i [])) (replicate 32 0) (le-ltb i (length bs) h))

  pub reseal_more : (w odd : List ℕ) (bs mid after : List (List ℕ)) (from i : ℕ) → from ≤ i → from ≤ length bs
      → Resealed f b w at d n from i bs mid → odd ≡ odd_from w from i → after ≡ with_place mid i (resealed f b odd at d n mid i)
      → Resealed f b w at d n from (i + 1) bs after
  reseal_more w odd bs mid after from i low within r mask is =
      let long = r.count in
      let fits : i ≤ length mid = omega arith in
      let x : List ℕ = resealed f b odd at d n mid i in
      let here : x ≡ resealed f b (odd_from w from i) at d n bs i =
      ap (λ m. resealed f b m at d n mid i) mask
      ∙ same_here (odd_from w from i) bs mid i (r.behind i (omega arith)) (omega arith) (cases_lt i (length bs)) in
      record {
        count = ap length is ∙ (length_placed mid i x fits ∙ omega arith);
        inside = λ k a l. go k a l here fits (cases_order k i);
        before = λ k l. ap (λ y. get_or y k []) is ∙ placed_other mid i x k (λ e. omega arith) fits ∙ r.before k l;
        behind = λ k l. ap (λ y. get_or y k []) is ∙ placed_other mid i x k (λ e. omega arith) fits ∙ r.behind k (omega arith);
      }
    where
      go : (k : ℕ) → from ≤ k → k < i + 1 → resealed f b odd at d n mid i ≡ resealed f b (odd_from w from i) at d n bs i → i ≤ length mid
          → (k ≡ i) ⊎ ((k < i) ⊎ (i < k)) → get_or after k [] ≡ resealed f b (odd_from w from k) at d n bs k
      go k a l here fits (inl e) =
          ap₂ (λ y j. get_or y j []) is e ∙ placed_same mid i _ fits ∙ here ∙ ap (λ j. resealed f b (odd_from w from j) at d n bs j) (sym e)
      go k a l here fits (inr (inl p)) =
          ap (λ y. get_or y k []) is ∙ placed_other mid i _ k (λ e. omega arith) fits ∙ r.inside k a p
      go k a l here fits (inr (inr p)) = absurd (omega arith)
