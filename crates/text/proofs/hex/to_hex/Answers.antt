use Rattle.std.proofs.Common.{ap, ◌∙◌}
use Rattle.std.proofs.lemmas.Slice.{pushed}
use Rattle.text.proofs.Spelling.{hex_more}
use Rattle.text.proofs.hex.to_hex.Goals as goal

pub loop-byte-preserved : goal.loop-byte-preserved
loop-byte-preserved c =
    let pair = c.hex_pair-high.ensures in
    let first = pushed _ c.loop-byte.invariant c.in_ok-push.was c.push.ensures.bytes in
    let second = pushed _ first c.in_ok-push-2.was c.push-in-loop-byte.ensures.bytes in
    let high = c.push.ensures.ascii pair.ascii.0 in
    let low = c.push-in-loop-byte.ensures.ascii pair.ascii.1 in
    rw (high, low) at second
    ∙ hex_more c.args.bytes.now c.loop-byte.byte-index _ _ c.loop-byte-test.true (ap (λ p. p.0) pair.is) (ap (λ p. p.1) pair.is)
