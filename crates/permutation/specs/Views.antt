-- What the code's matrices and states hold, as those of the definitions, where `nibbles` says what a row holds.
use Rattle.std.specs.Prelude.{ℕ, List}
use Rattle.permutation.specs.Minalpher as minalpher
use Rattle.permutation.specs.Minalpher.{matrix, state, p1, q1, p2, q2}
use Rattle.permutation.specs.declared.rows.IndexList.{IndexList}
use Rattle.permutation.specs.declared.rows.IndexList.TheVariants.{P1, Q1, P2, Q2}
use Rattle.permutation.specs.declared.state.Matrix.{Matrix}
use Rattle.permutation.specs.declared.state.State.{State}

abbrev pub list_of : IndexList → List ℕ
list_of P1 = p1
list_of Q1 = q1
list_of P2 = p2
list_of Q2 = q2

module _ {W : Type 0} (nibbles : W → List ℕ) where
  abbrev pub matrix_view : Matrix W → minalpher.Matrix
  matrix_view m = matrix (nibbles m.r0) (nibbles m.r1) (nibbles m.r2) (nibbles m.r3)

  abbrev pub state_view : State W → minalpher.State
  state_view s = state (matrix_view s.a) (matrix_view s.b)
