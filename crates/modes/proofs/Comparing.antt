-- Two lists are the same exactly where no byte differs.
use Rattle.std.proofs.Common.{◌≡◌, ℕ, ◌+◌, ◌<◌, true, false, eqb, List, length, get_or, sym, ap, ◌∙◌, ⊎_elim, arith, below_more}
use Rattle.std.proofs.lemmas.Bool.{eqb-true, eqb-false, cases_Bool}
use lib.Bits.{bit_xor, bit_or, xor_self, xor_assoc, xor_zero_r, or_add_and, and_le_l, and_le_r}
use Rattle.permutation.specs.BlockLaws.{same_entries}
use Rattle.modes.specs.PlateLaws.{same_true, true_same}
use Rattle.modes.specs.Sums.{same}

or_zero : (a b : ℕ) → bit_or a b ≡ 0 → (a ≡ 0) × (b ≡ 0)
or_zero a b h =
    let s = or_add_and a b in
    let l = and_le_l a b in
    let r = and_le_r a b in
    (omega arith, omega arith)

xor_zero : (a b : ℕ) → bit_xor a b ≡ 0 → a ≡ b
xor_zero a b h =
    sym (xor_zero_r a) ∙ ap (bit_xor a) (sym (xor_self b)) ∙ sym (xor_assoc a b b) ∙ ap (λ c. bit_xor c b) h

-- the bytes of x and y at each place below n agree
abbrev pub Agree : List ℕ → List ℕ → ℕ → Type 0
Agree x y n = (k : ℕ) → k < n → get_or x k 0 ≡ get_or y k 0

-- one byte more: noting its difference keeps what was noted before
pub noted_more : (x y : List ℕ) (d i : ℕ) → (d ≡ 0 → Agree x y i)
    → bit_or d (bit_xor (get_or x i 0) (get_or y i 0)) ≡ 0 → Agree x y (i + 1)
noted_more x y d i inv e =
    let p = or_zero d (bit_xor (get_or x i 0) (get_or y i 0)) e in
    below_more _ _ (inv p.0) (xor_zero (get_or x i 0) (get_or y i 0) p.1)

pub none_noted : (x y : List ℕ) (d i : ℕ) → (Agree x y i → d ≡ 0)
    → Agree x y (i + 1) → bit_or d (bit_xor (get_or x i 0) (get_or y i 0)) ≡ 0
none_noted x y d i inv all =
    ap (λ b. bit_or b (bit_xor (get_or x i 0) (get_or y i 0))) (inv (λ k h. all k (omega arith)))
    ∙ ap (λ b. bit_xor b (get_or y i 0)) (all i (omega arith))
    ∙ xor_self (get_or y i 0)

pub tells_same : (x y : List ℕ) (n d : ℕ) → length x ≡ n → length y ≡ n → (d ≡ 0 → Agree x y n) → (Agree x y n → d ≡ 0) → eqb d 0 ≡ same x y
tells_same x y n d hx hy from to =
    ⊎_elim
    (λ (e : eqb d 0 ≡ true). e ∙ sym (true_same x y (same_entries n x y hx hy (from (eqb-true d 0 e)))))
    (λ (e : eqb d 0 ≡ false).
    e
    ∙ ⊎_elim
    (λ (t : same x y ≡ true).
    let agree : Agree x y n = λ k h. ap (λ z. get_or z k 0) (same_true x y t) in
    absurd (eqb-false d 0 e (to agree)))
    (λ (t : same x y ≡ false). sym t)
    (cases_Bool (same x y)))
    (cases_Bool (eqb d 0))
