use Rattle.std.proofs.Common.{◌≡◌, ◌+◌, ◌*◌, ap, ◌∙◌, arith}
use Rattle.permutation.specs.Minalpher.{row_from}
use Rattle.permutation.specs.Shapes.{same_matrix}
use Rattle.permutation.proofs.state.Matrix.read.Goals as goal

pub returns : goal.returns
returns g c =
    let from = row_from c.args.block.now in
    let at = c.args.at in
    let second : 2 * (at + 4) ≡ 2 * at + 8 = omega arith in
    let third : 2 * (at + 8) ≡ 2 * at + 16 = omega arith in
    let fourth : 2 * (at + 12) ≡ 2 * at + 24 = omega arith in
    same_matrix c.read.ensures (c.read-2.ensures ∙ ap from second) (c.read-3.ensures ∙ ap from third)
    (c.read-4.ensures ∙ ap from fourth)
