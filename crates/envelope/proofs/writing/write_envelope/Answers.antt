use Rattle.std.proofs.Common.{◌≡◌, ◌≤◌, length, subst, arith, rules}
use Rattle.std.proofs.lemmas.List.{append_assoc}
use Rattle.envelope.specs.Layouts.{layout}
use Rattle.envelope.specs.Numbers.{groups}
use Rattle.envelope.specs.Writers.{Wrote}
use Rattle.envelope.specs.Writing.{overlaid}
use Rattle.envelope.proofs.Placing.{wrote_both, wrote_all}
use Rattle.envelope.proofs.writing.write_envelope.Goals as goal

pub returns : goal.returns
unfolding layout
returns g c =
    let w = c.new-writer.result in
    let bs = g.R.ReadBlocks.list c.args.h.now in
    let fits : w.place ≤ length w.buffer.now = omega (arith, c.new-writer.ensures.place) in
    let count = subst (λ n. Wrote c.number.new.self c.number-2.new.self (groups n)) c.count.ensures.value c.number-2.ensures in
    let all =
    wrote_both
    (wrote_both (wrote_both (wrote_both (wrote_both (wrote_both c.bytes.ensures c.number.ensures fits) count fits) c.bytes-2.ensures fits) c.bytes-3.ensures fits) c.blocks-2.ensures fits)
    c.bytes-4.ensures fits in
    let parts = simp append_assoc at all in
    let done : c.bytes-4.new.self.buffer.now ≡ overlaid c.args.out.now (layout c.args.nonce c.args.label.now bs c.args.tag) =
    wrote_all w _ _ _ c.new-writer.ensures.buffer c.new-writer.ensures.place parts in
    search rules
