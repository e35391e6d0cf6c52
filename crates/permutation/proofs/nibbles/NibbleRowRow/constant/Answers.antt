use Rattle.std.proofs.Common.{◌≡◌, ℕ, ◌%◌, ◌<◌, List, [], ◌∷◌, get_or, sym, subst, arith}
use lib.Bits.{bit_xor, xor_zero_r}
use Rattle.permutation.specs.Minalpher.{constant_row}
use Rattle.permutation.specs.Rows.{row_constant}
use Rattle.permutation.proofs.nibbles.NibbleRowRow.constant.Goals as goal

-- the entry in column 0 is written without its exclusive or with 0
written : (k i : ℕ)
    → let e = bit_xor (k % 16) i in e ∷ bit_xor e 1 ∷ bit_xor e 2 ∷ bit_xor e 3 ∷ 0 ∷ 0 ∷ 0 ∷ 0 ∷ [] ≡ constant_row k i
written k i = let first = xor_zero_r (bit_xor (k % 16) i) in cc

pub invariant_of-result : goal.invariant_of-result
invariant_of-result c =
    let row = row_constant c.args.k c.args.i (omega arith) in
    record { ok = λ j h. subst (λ (x : List ℕ). get_or x j 0 < 16) (sym (written c.args.k c.args.i)) (row.nibbles j h) }
