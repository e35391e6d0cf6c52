-- Laws of answers: whether a call is declined, and how, does not hang on its value.
use Rattle.std.specs.Prelude.{◌≡◌, ℕ, true, false, cond, List, [], ◌∷◌, Ok, Err, refl}
use Rattle.std.proofs.Common.{arith}
use Rattle.std.proofs.lemmas.Bool.{cond-false}
use Rattle.modes.specs.declared.refusal.Refusal.{Refusal}
use Rattle.modes.specs.Refusals.{Claim, answer}

-- a call that is declined would be declined alike with any other value
pub answer_err : {A B : Type 0} (cs : List Claim) (x : A) (y : B) (e : Refusal) → answer cs x ≡ Err e → answer cs y ≡ Err e
answer_err [] x y e h = let z : ◌≡◌ {A = ℕ} 0 1 = cc in absurd (omega arith)
answer_err {A} {B} (c ∷ cs) x y e h =
    (elim c.holds as (λ b. cond b (Err c.told) (answer cs x) ≡ Err e → cond b (Err c.told) (answer cs y) ≡ Err e)
    [ true ↦ (λ k. cc) | false ↦ (λ k. answer_err cs x y e k) ]) h

-- a call that is taken answers its value, and would with any other
pub answer_ok : {A B : Type 0} (cs : List Claim) (x v : A) (y : B) → answer cs x ≡ Ok v → (v ≡ x) × (answer cs y ≡ Ok y)
answer_ok [] x v y h = (cc, refl)
answer_ok {A} {B} (c ∷ cs) x v y h =
    (elim c.holds as (λ b. cond b (Err c.told) (answer cs x) ≡ Ok v → (v ≡ x) × (cond b (Err c.told) (answer cs y) ≡ Ok y))
    [ true ↦ (λ k. let z : ◌≡◌ {A = ℕ} 0 1 = cc in absurd (omega arith)) | false ↦ (λ k. answer_ok cs x v y k) ]) h

-- where a call is taken, its first sentence is false, and so are the rest
pub taken_rest : {A : Type 0} (c : Claim) (cs : List Claim) (x v : A) → Ok v ≡ answer (c ∷ cs) x → (c.holds ≡ false) × (Ok v ≡ answer cs x)
taken_rest c cs x v h =
    (elim c.holds as (λ b. Ok v ≡ cond b (Err c.told) (answer cs x) → (b ≡ false) × (Ok v ≡ answer cs x))
    [ true ↦ (λ k. let z : ◌≡◌ {A = ℕ} 0 1 = cc in absurd (omega arith)) | false ↦ (λ k. (refl, k)) ]) h

-- a false first sentence leaves the answer to the rest
pub taken_more : {A : Type 0} (c : Claim) (cs : List Claim) (x : A) → c.holds ≡ false → answer (c ∷ cs) x ≡ answer cs x
taken_more c cs x h = cond-false c.holds (Err c.told) (answer cs x) h
