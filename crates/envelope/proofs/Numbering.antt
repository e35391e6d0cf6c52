-- Numbers are read as they are written.
use Rattle.std.proofs.Common.{◌≡◌, ℕ, zero, suc, ◌+◌, ◌*◌, ◌/◌, ◌%◌, ◌<◌, ◌≤◌, ltb, ◌⊎◌, List, [], ◌∷◌, ◌++◌, length, take, Some, None, Option, sym, refl, ap, ◌∙◌, subst, inl, inr, arith, length-take}
use Rattle.std.proofs.lemmas.Bool.{cases_lt, cond-true, cond-false, lt-ltb, le-ltb}
use Rattle.std.proofs.lemmas.Grind.{common_steps}
use Rattle.envelope.specs.Numbers.{spelled, Ended, Encodes, groups, grouped, number_within, number_in, ReadsExactly, WritesExactly}

ended_more : (b : ℕ) (a : List ℕ) → 128 ≤ b → Ended a → Ended (b ∷ a)
ended_more b [] h e = absurd e
ended_more b (c ∷ a) h e = (h, e)

-- what was read, as far as its bytes go
abbrev Read : ℕ → List ℕ → ℕ × ℕ → Type 0
Read k bytes p = (p.1 ≤ length bytes) × (p.1 ≤ k) × Ended (take p.1 bytes) × (spelled (take p.1 bytes) ≡ p.0)

read_is : (k : ℕ) (bytes : List ℕ) (p : ℕ × ℕ) → number_within k bytes ≡ Some p → Read k bytes p
unfolding number_within
read_is zero bytes p h = absurd (cc)
read_is (suc k) [] p h = absurd (cc)
read_is (suc k) (b ∷ bytes) p h = by (read_is k bytes) (cases_lt b 128)
  where
    more : ((q : ℕ × ℕ) → number_within k bytes ≡ Some q → Read k bytes q) → (o : Option (ℕ × ℕ)) → number_within k bytes ≡ o → 128 ≤ b → grouped b o ≡ Some p → Read (suc k) (b ∷ bytes) p
    more rest None e l g = absurd (cc)
    more rest (Some q) e l g =
        let r = rest q e in
        let is : (b % 128 + 128 * q.0, suc q.1) ≡ p = cc in
        subst (Read (suc k) (b ∷ bytes)) is
        (omega (arith, r.0), omega (arith, r.1), ended_more b (take q.1 bytes) l r.2, ap (λ n. b % 128 + 128 * n) r.3)

    by : ((q : ℕ × ℕ) → number_within k bytes ≡ Some q → Read k bytes q) → (b < 128) ⊎ (128 ≤ b) → Read (suc k) (b ∷ bytes) p
    by rest (inl l) =
        let is : (b, 1) ≡ p = cc (cond-true (ltb b 128) (Some (b, 1)) (grouped b (number_within k bytes)) (lt-ltb b 128 l)) in
        subst (Read (suc k) (b ∷ bytes)) is (omega arith, omega arith, l, omega arith)
    by rest (inr l) = more rest (number_within k bytes) refl l (sym (cond-false (ltb b 128) _ _ (le-ltb b 128 l)) ∙ h)

is_read : (k : ℕ) (a rest : List ℕ) → Ended a → length a ≤ k → number_within k (a ++ rest) ≡ Some (spelled a, length a)
unfolding number_within
is_read zero [] rest e l = absurd e
is_read zero (b ∷ a) rest e l = absurd (omega arith)
is_read (suc k) [] rest e l = absurd e
is_read (suc k) (b ∷ []) rest e l =
    let n : b ≡ b % 128 + 128 * 0 = omega arith in
    cond-true (ltb b 128) _ _ (lt-ltb b 128 e) ∙ ap (λ m. Some (m, 1)) n
is_read (suc k) (b ∷ c ∷ a) rest e l =
    cond-false (ltb b 128) _ _ (le-ltb b 128 e.0) ∙ ap (grouped b) (is_read k (c ∷ a) rest e.1 (omega arith))

pub reads_exactly : (bytes : List ℕ) → ReadsExactly bytes (number_in bytes)
unfolding number_in
reads_exactly bytes = record {
  taken_encodes = λ n t h.
      let r = read_is 3 bytes (n, t) h in
      (r.0, record { short = go n t r.1 r.0; ended = r.2; spells = r.3 });
  encodes_taken = λ n a rest e is.
      ap (number_within 3) is ∙ is_read 3 a rest e.ended e.short ∙ ap (λ m. Some (m, length a)) e.spells;
}
  where
    go : (n t : ℕ) → t ≤ 3 → t ≤ length bytes → length (take t bytes) ≤ 3
    go n t h l = omega (arith, length-take t bytes)

pub exact_reading : (bytes : List ℕ) (r : Option (ℕ × ℕ)) → r ≡ number_in bytes → ReadsExactly bytes r
exact_reading bytes r e = subst (ReadsExactly bytes) (sym e) (reads_exactly bytes)

-- the last group alone, and one group and the groups of the rest
pub one_group : (n : ℕ) → n < 128 → n ∷ [] ≡ groups n
unfolding groups
one_group n h = grind (arith, common_steps)

pub more_groups : (n : ℕ) → 128 ≤ n → n < 2097152 → (n % 128 + 128) ∷ groups (n / 128) ≡ groups n
unfolding groups
more_groups n l h = grind (arith, common_steps)

pub few_groups : (n : ℕ) → length (groups n) ≤ 3
unfolding groups
few_groups n = grind (arith, common_steps)

two_at_most : (n : ℕ) → n < 16384 → length (groups n) ≤ 2
unfolding groups
two_at_most n h = grind (arith, common_steps)

groups_encode : (n : ℕ) → n < 2097152 → Encodes n (groups n)
unfolding groups
groups_encode n l = record { short = few_groups n; ended = grind (arith, common_steps); spells = grind (arith, common_steps) }

groups_least : (n : ℕ) (b : List ℕ) → Encodes n b → length (groups n) ≤ length b
groups_least n [] e = absurd e.ended
groups_least n (x ∷ []) e = let s = e.spells in omega (arith, ap length (one_group n (omega arith)))
groups_least n (x ∷ y ∷ []) e = let s = e.spells in two_at_most n (omega arith)
groups_least n (x ∷ y ∷ z ∷ b) e = omega (arith, few_groups n)

pub writes_exactly : (n : ℕ) → WritesExactly n (groups n)
unfolding number_in
writes_exactly n = record {
  encodes = groups_encode n;
  shortest = groups_least n;
  read_back = λ l rest.
      let e = groups_encode n l in
      is_read 3 (groups n) rest e.ended e.short ∙ ap (λ m. Some (m, length (groups n))) e.spells;
}
