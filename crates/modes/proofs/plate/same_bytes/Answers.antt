use Rattle.std.proofs.Common.{◌≡◌, arith, rules}
use Rattle.modes.proofs.Comparing.{noted_more, none_noted, tells_same}
use Rattle.modes.proofs.plate.same_bytes.Goals as goal

pub loop-i-preserved : goal.loop-i-preserved
loop-i-preserved g c = (
  noted_more c.args.left c.args.right c.loop-i.differing c.loop-i.i c.loop-i.invariant.0,
  none_noted c.args.left c.args.right c.loop-i.differing c.loop-i.i c.loop-i.invariant.1,
)

pub returns : goal.returns
returns g c =
    let last : c.loop-i.i ≡ g.row.N = omega arith in
    tells_same c.args.left c.args.right g.row.N c.loop-i.differing (search rules) (search rules)
    (λ e k h. c.loop-i.invariant.0 e k (omega arith))
    (λ all. c.loop-i.invariant.1 (λ k h. all k (omega arith)))
