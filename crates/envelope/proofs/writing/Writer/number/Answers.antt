use Rattle.std.proofs.Common.{length, ap, subst, arith}
use Rattle.envelope.specs.Writers.{Wrote}
use Rattle.envelope.proofs.Numbering.{more_groups}
use Rattle.envelope.proofs.Placing.{wrote_both}
use Rattle.envelope.proofs.writing.Writer.number.Goals as goal

pub loop-rest-preserved : goal.loop-rest-preserved
loop-rest-preserved c =
    let n = c.loop-rest.rest in
    let is = more_groups n (omega arith) (omega arith) in
    record {
      small = omega arith;
      room = omega (arith, ap length is);
      whole = λ after w. c.loop-rest.invariant.whole after (subst (Wrote c.loop-rest.self after) is (wrote_both c.bytes.ensures w (omega arith)));
    }
