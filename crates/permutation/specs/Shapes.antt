-- Matrices and states of rows: T after S undoes itself, and so does M, which is linear.
use Rattle.std.specs.Prelude.{◌≡◌, ℕ, List}
use Rattle.std.proofs.Common.{ap, sym, ◌∙◌, lit<}
use Rattle.permutation.specs.BlockLaws.{xors_comm, xors_cancel, xors_swap}
use Rattle.permutation.specs.Minalpher.{Matrix, matrix, State, state, S, T, M, E, p1, q1, p2, q2, xor_row, xor3, xor_matrix, xor_state, mixed}
use Rattle.permutation.specs.Tables.{p1_p2, p2_p1, q1_q2, q2_q1}
use Rattle.permutation.specs.Rows.{IsRow, row_xor, row_zero, row_constant, row_picked, picked_twice}
use Rattle.permutation.specs.Mixing.{xor3_swap, mixed_0, mixed_1, mixed_2, mixed_3}

abbrev pub IsMatrix : Matrix → Type 0
IsMatrix m = IsRow m.r0 × IsRow m.r1 × IsRow m.r2 × IsRow m.r3

abbrev pub IsState : State → Type 0
IsState s = IsMatrix s.a × IsMatrix s.b

pub same_matrix : {a b c d e f g h : List ℕ} → a ≡ e → b ≡ f → c ≡ g → d ≡ h → matrix a b c d ≡ matrix e f g h
same_matrix p q r s = cc

pub same_state : {a b c d : Matrix} → a ≡ c → b ≡ d → state a b ≡ state c d
same_state p q = cc

-- the exclusive or
matrix_xor : (m n : Matrix) → IsMatrix m → IsMatrix n → IsMatrix (xor_matrix m n)
matrix_xor m n h k =
    (row_xor _ _ h.0 k.0, row_xor _ _ h.1 k.1, row_xor _ _ h.2 k.2, row_xor _ _ h.3 k.3)

pub state_xor : (s e : State) → IsState s → IsState e → IsState (xor_state s e)
state_xor s e h k = (matrix_xor _ _ h.0 k.0, matrix_xor _ _ h.1 k.1)

xor_matrix_comm : (m n : Matrix) → xor_matrix m n ≡ xor_matrix n m
xor_matrix_comm m n =
    same_matrix (xors_comm 8 m.r0 n.r0) (xors_comm 8 m.r1 n.r1)
    (xors_comm 8 m.r2 n.r2) (xors_comm 8 m.r3 n.r3)

xor_matrix_swap : (a b c d : Matrix) → xor_matrix (xor_matrix a b) (xor_matrix c d) ≡ xor_matrix (xor_matrix a c) (xor_matrix b d)
xor_matrix_swap a b c d =
    same_matrix (xors_swap 8 a.r0 b.r0 c.r0 d.r0) (xors_swap 8 a.r1 b.r1 c.r1 d.r1)
    (xors_swap 8 a.r2 b.r2 c.r2 d.r2) (xors_swap 8 a.r3 b.r3 c.r3 d.r3)

xor_matrix_cancel : (m n : Matrix) → IsMatrix m → xor_matrix (xor_matrix m n) n ≡ m
xor_matrix_cancel m n h =
    same_matrix (xors_cancel 8 m.r0 n.r0 h.0.eight) (xors_cancel 8 m.r1 n.r1 h.1.eight)
    (xors_cancel 8 m.r2 n.r2 h.2.eight) (xors_cancel 8 m.r3 n.r3 h.3.eight)

pub xor_state_cancel : (s e : State) → IsState s → xor_state (xor_state s e) e ≡ s
xor_state_cancel s e h = same_state (xor_matrix_cancel s.a e.a h.0) (xor_matrix_cancel s.b e.b h.1)

-- T after S
pub TS_state : (s : State) → IsState s → IsState (T (S s))
TS_state s h =
    let a = h.0 in
    let b = h.1 in
    let new_a : IsMatrix (T (S s)).a =
    (row_picked p1 p2 p1_p2 _ b.0, row_picked q1 q2 q1_q2 _ b.1, row_picked p2 p1 p2_p1 _ b.2, row_picked q2 q1 q2_q1 _ b.3) in
    let new_b : IsMatrix (T (S s)).b =
    (row_picked p2 p1 p2_p1 _ a.0, row_picked q2 q1 q2_q1 _ a.1, row_picked p1 p2 p1_p2 _ a.2, row_picked q1 q2 q1_q2 _ a.3) in
    (new_a, new_b)

pub TS_twice : (s : State) → IsState s → T (S (T (S s))) ≡ s
TS_twice s h =
    let a = h.0 in
    let b = h.1 in
    same_state
    (same_matrix (picked_twice p1 p2 p1_p2 _ a.0) (picked_twice q1 q2 q1_q2 _ a.1)
    (picked_twice p2 p1 p2_p1 _ a.2) (picked_twice q2 q1 q2_q1 _ a.3))
    (same_matrix (picked_twice p2 p1 p2_p1 _ b.0) (picked_twice q2 q1 q2_q1 _ b.1)
    (picked_twice p1 p2 p1_p2 _ b.2) (picked_twice q1 q2 q1_q2 _ b.3))

-- M
row_xor3 : (x y z : List ℕ) → IsRow x → IsRow y → IsRow z → IsRow (xor3 x y z)
row_xor3 x y z r s t = row_xor (xor_row x y) z (row_xor x y r s) t

matrix_mixed : (m : Matrix) → IsMatrix m → IsMatrix (mixed m)
matrix_mixed m h =
    (row_xor3 _ _ _ h.0 h.1 h.3, row_xor3 _ _ _ h.0 h.1 h.2, row_xor3 _ _ _ h.1 h.2 h.3, row_xor3 _ _ _ h.0 h.2 h.3)

mixed_twice : (m : Matrix) → IsMatrix m → mixed (mixed m) ≡ m
mixed_twice m h =
    same_matrix (mixed_0 m.r0 m.r1 m.r2 m.r3 h.0.eight) (mixed_1 m.r0 m.r1 m.r2 m.r3 h.1.eight)
    (mixed_2 m.r0 m.r1 m.r2 m.r3 h.2.eight) (mixed_3 m.r0 m.r1 m.r2 m.r3 h.3.eight)

mixed_xor : (m n : Matrix) → mixed (xor_matrix m n) ≡ xor_matrix (mixed m) (mixed n)
mixed_xor m n =
    same_matrix (xor3_swap m.r0 m.r1 m.r3 n.r0 n.r1 n.r3) (xor3_swap m.r0 m.r1 m.r2 n.r0 n.r1 n.r2)
    (xor3_swap m.r1 m.r2 m.r3 n.r1 n.r2 n.r3) (xor3_swap m.r0 m.r2 m.r3 n.r0 n.r2 n.r3)

pub M_state : (s : State) → IsState s → IsState (M s)
M_state s h = (matrix_mixed s.a h.0, matrix_mixed (xor_matrix s.a s.b) (matrix_xor s.a s.b h.0 h.1))

pub M_xor : (s e : State) → M (xor_state s e) ≡ xor_state (M s) (M e)
M_xor s e =
    same_state (mixed_xor s.a e.a)
    (ap mixed (xor_matrix_swap s.a e.a s.b e.b) ∙ mixed_xor (xor_matrix s.a s.b) (xor_matrix e.a e.b))

pub M_twice : (s : State) → IsState s → M (M s) ≡ s
M_twice s h =
    let a = s.a in
    let b = s.b in
    let ab = xor_matrix a b in
    same_state (mixed_twice a h.0)
    (ap mixed (sym (mixed_xor a ab)) ∙ mixed_twice (xor_matrix a ab) (matrix_xor a ab h.0 (matrix_xor a b h.0 h.1))
    ∙ xor_matrix_comm a ab ∙ ap (λ t. xor_matrix t a) (xor_matrix_comm a b) ∙ xor_matrix_cancel b a h.1)

pub E_state : (k : ℕ) → IsState (E k)
E_state k =
    let constants : IsMatrix (E k).b =
    (row_constant k 0 (lit< tt), row_constant k 1 (lit< tt), row_constant k 2 (lit< tt), row_constant k 3 (lit< tt)) in
    ((row_zero, row_zero, row_zero, row_zero), constants)
