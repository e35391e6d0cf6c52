-- Forward and backward undo each other at every number of rounds.
use Rattle.std.specs.Prelude.{◌≡◌, ℕ, List}
use Rattle.std.proofs.Common.{ap, ◌∙◌}
use Rattle.permutation.specs.Blocks.{Block, Inverse}
use Rattle.permutation.specs.Minalpher.{State, S, T, state_of, block_of, rounds, rounds_back, forward, backward}
use Rattle.permutation.specs.Shapes.{IsState, TS_state, TS_twice}
use Rattle.permutation.specs.Turns.{rounds_state, rounds_back_state, rounds_undone, rounds_redone}
use Rattle.permutation.specs.Codes.{state_of_state, block_of_state_of, block_of_block, state_of_block_of}

-- what runs there on a block's state, runs to states, and has `back` to lead back, is undone on the block
module _ (there back : State → State)
    (there_state : (s : State) → IsState s → IsState (there s))
    (undone : (s : State) → IsState s → back (T (S (there s))) ≡ T (S s)) (x : List ℕ) (b : Block x) where
  end_state : IsState (T (S (there (state_of x))))
  end_state = TS_state (there (state_of x)) (there_state (state_of x) (state_of_state x b))

  on_block : Block (block_of (T (S (there (state_of x)))))
  on_block = block_of_block (T (S (there (state_of x)))) end_state

  on_block_undone : block_of (T (S (back (state_of (block_of (T (S (there (state_of x))))))))) ≡ x
  on_block_undone =
      let s_state = state_of_state x b in
      ap (λ s. block_of (T (S (back s)))) (state_of_block_of (T (S (there (state_of x)))) end_state)
      ∙ ap (λ s. block_of (T (S s))) (undone (state_of x) s_state)
      ∙ ap block_of (TS_twice (state_of x) s_state)
      ∙ block_of_state_of x b

pub inverse : (r : ℕ) → Inverse (forward r) (backward r)
unfolding forward backward
inverse r =
    record {
      undone = on_block_undone (rounds r) (rounds_back r) (rounds_state r) (rounds_undone r);
      redone = on_block_undone (rounds_back r) (rounds r) (rounds_back_state r) (rounds_redone r);
      forth_block = on_block (rounds r) (rounds_back r) (rounds_state r) (rounds_undone r);
      back_block = on_block (rounds_back r) (rounds r) (rounds_back_state r) (rounds_redone r);
    }
