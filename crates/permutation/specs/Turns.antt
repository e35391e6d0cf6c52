-- The rounds, and the rounds of the inverse, which undo them.
use Rattle.std.specs.Prelude.{◌≡◌, ℕ, zero, suc, refl}
use Rattle.std.proofs.Common.{ap, ◌∙◌}
use Rattle.permutation.specs.Minalpher.{State, S, T, M, E, xor_state, round, rounds, rounds_back}
use Rattle.permutation.specs.Shapes.{IsState, TS_state, TS_twice, M_state, M_twice, M_xor, E_state, state_xor, xor_state_cancel}

ME_state : (k : ℕ) → IsState (M (E k))
ME_state k = M_state (E k) (E_state k)

round_state : (e s : State) → IsState e → IsState s → IsState (round e s)
unfolding round
round_state e s k h = state_xor (M (T (S s))) e (M_state (T (S s)) (TS_state s h)) k

pub rounds_state : (r : ℕ) (s : State) → IsState s → IsState (rounds r s)
unfolding rounds
rounds_state zero s h = h
rounds_state (suc r) s h = round_state (E r) (rounds r s) (E_state r) (rounds_state r s h)

pub rounds_back_state : (r : ℕ) (s : State) → IsState s → IsState (rounds_back r s)
unfolding rounds_back
rounds_back_state zero s h = h
rounds_back_state (suc r) s h = rounds_back_state r (round (M (E r)) s) (round_state (M (E r)) s (ME_state r) h)

-- with T after S between them, a round with f = M(e) undoes one with e
round_undone : (e f s : State) → IsState e → IsState s → M e ≡ f → round f (T (S (round e s))) ≡ T (S s)
unfolding round
round_undone e f s k h eq =
    let t = T (S s) in
    let t_state = TS_state s h in
    let z = xor_state (M t) e in
    ap (λ u. xor_state (M u) f) (TS_twice z (state_xor (M t) e (M_state t t_state) k))
    ∙ ap (λ u. xor_state u f) (M_xor (M t) e)
    ∙ ap (λ u. xor_state (xor_state u (M e)) f) (M_twice t t_state)
    ∙ ap (λ u. xor_state (xor_state t u) f) eq
    ∙ xor_state_cancel t f t_state

pub rounds_undone : (r : ℕ) (s : State) → IsState s → rounds_back r (T (S (rounds r s))) ≡ T (S s)
unfolding rounds rounds_back
rounds_undone zero s h = refl
rounds_undone (suc r) s h =
    ap (rounds_back r) (round_undone (E r) (M (E r)) (rounds r s) (E_state r) (rounds_state r s h) refl) ∙ rounds_undone r s h

pub rounds_redone : (r : ℕ) (s : State) → IsState s → rounds r (T (S (rounds_back r s))) ≡ T (S s)
unfolding rounds rounds_back
rounds_redone zero s h = refl
rounds_redone (suc r) s h =
    ap (round (E r)) (rounds_redone r (round (M (E r)) s) (round_state (M (E r)) s (ME_state r) h))
    ∙ round_undone (M (E r)) (E r) s (ME_state r) h (M_twice (E r) (E_state r))
