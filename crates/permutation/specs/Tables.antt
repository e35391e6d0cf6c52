-- The rules of the tables: one test of a table, computed at all of its entries, gives the rule at each.
use Rattle.std.specs.Prelude.{◌≡◌, ℕ, zero, suc, ◌<◌, Bool, true, ◌&&◌, List, ◌==◌, nat_lt, slice_index, refl}
use Rattle.std.proofs.Common.{ap, ◌∙◌, ⊎_elim, le_of_suc-le-suc, not-suc-le-zero, eq-or-lt_of_le}
use Rattle.std.proofs.lemmas.Bool.{and_parts, eqb-true, ltb-true}
use Rattle.permutation.specs.Minalpher.{sub, p1, q1, p2, q2}

-- the test f passes at each number below n
abbrev pub all_below : (ℕ → Bool) → ℕ → Bool
all_below f zero = true
all_below f (suc n) = f n && all_below f n

pub at_each : (f : ℕ → Bool) (n : ℕ) → all_below f n ≡ true → (k : ℕ) → k < n → f k ≡ true
at_each f zero t k h = absurd (not-suc-le-zero h)
at_each f (suc n) t k h =
    let both = and_parts (f n) (all_below f n) t in
    ⊎_elim (λ e. ap f e ∙ both.0) (λ l. at_each f n both.1 k l) (eq-or-lt_of_le (le_of_suc-le-suc h))

-- the S-box gives nibbles, and undoes itself
abbrev sub_test : ℕ → Bool
sub_test n = nat_lt (sub n) 16 && sub (sub n) == n

sub_rules : (n : ℕ) → n < 16 → (sub n < 16) × (sub (sub n) ≡ n)
sub_rules n h =
    let t = and_parts (nat_lt (sub n) 16) (sub (sub n) == n) (at_each sub_test 16 refl n h) in
    (ltb-true (sub n) 16 t.0, eqb-true (sub (sub n)) n t.1)

pub sub_below : (n : ℕ) → n < 16 → sub n < 16
sub_below n h = (sub_rules n h).0

pub sub_twice : (n : ℕ) → n < 16 → sub (sub n) ≡ n
sub_twice n h = (sub_rules n h).1

-- the list l' names places of a row, and the list l has j at the place that l' has at j
pub record Undoes (l l' : List ℕ) : Type 0 where
  pub within : (j : ℕ) → j < 8 → slice_index l' j < 8
  pub undone : (j : ℕ) → j < 8 → slice_index l (slice_index l' j) ≡ j

abbrev undoes_test : List ℕ → List ℕ → ℕ → Bool
undoes_test l l' j = nat_lt (slice_index l' j) 8 && slice_index l (slice_index l' j) == j

undoes : (l l' : List ℕ) → all_below (undoes_test l l') 8 ≡ true → Undoes l l'
undoes l l' t =
    let both : (j : ℕ) → j < 8 → (nat_lt (slice_index l' j) 8 ≡ true) × ((slice_index l (slice_index l' j) == j) ≡ true) =
    λ j h. and_parts (nat_lt (slice_index l' j) 8) (slice_index l (slice_index l' j) == j) (at_each (undoes_test l l') 8 t j h) in
    record {
      within = λ j h. ltb-true (slice_index l' j) 8 (both j h).0;
      undone = λ j h. eqb-true (slice_index l (slice_index l' j)) j (both j h).1;
    }

pub p1_p2 : Undoes p1 p2
p1_p2 = undoes p1 p2 refl

pub p2_p1 : Undoes p2 p1
p2_p1 = undoes p2 p1 refl

pub q1_q2 : Undoes q1 q2
q1_q2 = undoes q1 q2 refl

pub q2_q1 : Undoes q2 q1
q2_q1 = undoes q2 q1 refl
