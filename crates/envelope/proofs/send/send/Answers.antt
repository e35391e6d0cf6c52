use Rattle.std.proofs.Common.{length, sym, refl, ap, ◌∙◌, arith, rules}
use Rattle.envelope.proofs.Sendings.{Ready, ready, decided, arrives}
use Rattle.envelope.proofs.send.send.Given.{Over}
use Rattle.envelope.proofs.send.send.Goals as goal
use Rattle.envelope.proofs.send.send.Goals.{After-envelope_length-size}

found : (g : Over) (c : After-envelope_length-size g)
    → Ready g.K.Permutation.forth g.K.Permutation.back c.args.sheet.now.state (g.R.ReadBlocks.list c.args.h.now) c.args.label.now c.in_ok-own.own c.envelope_length-size.result
found g c =
    let s = c.args.sheet.now.state in
    let h = c.args.h.now in
    ready _ _ s _ (g.R.ReadBlocks.room h) _ _ c.count-count.result _ (g.R.ReadBlocks.bounded h) (ap length (sym c.nonce-nonce.ensures) ∙ search rules)
    c.in_ok-own.ensures c.count-count.ensures.value (omega (arith, c.if-count-block_count.false, c.block_count.ensures, c.length.ensures)) c.envelope_length-size.ensures

pub returns-then-out-size : goal.returns-then-out-size
returns-then-out-size g c =
    let r = found g (goal.at.returns-then-out-size g c).After-envelope_length-size in
    record {
      value = search (rules, decided r (length c.args.out.now));
      after = refl;
      arrives = tt;
    }

pub returns-then-not-own : goal.returns-then-not-own
returns-then-not-own g c =
    let r = found g (goal.at.returns-then-not-own g c).After-envelope_length-size in
    record {
      value = search (rules, decided r (length c.args.out.now));
      after = refl;
      arrives = tt;
    }

pub returns : goal.returns
returns g c =
    let r = found g (goal.at.returns g c).After-envelope_length-size in
    let after = rw (c.nonce-nonce.ensures, c.tag.ensures) at c.write_envelope.ensures in
    record { value = search (rules, decided r (length c.args.out.now)); after = after; arrives = arrives r (search rules) _ _ after }
