use Rattle.std.proofs.Common.{length, sym, rules}
use Rattle.modes.specs.RefusalLaws.{answer_ok}
use Rattle.sheet.specs.Calls.{under}
use Rattle.sheet.specs.Ciphers.{Lawful}
use Rattle.sheet.specs.Edits.{write_claims, written}
use Rattle.sheet.specs.Opening.{AllBytes}
use Rattle.sheet.proofs.Laws.{lawful}
use Rattle.sheet.proofs.Steps.{write_step}
use Rattle.sheet.proofs.sheet.Sheet.write.Goals as goal

pub returns : goal.returns
returns g c =
    let f = g.K.Permutation.forth in
    let b = g.K.Permutation.back in
    let s = c.args.self.now.state in
    let bs = g.H.ReadBlocks.list c.args.h.now in
    let cipher = under f b s in
    let at = c.args.at in
    let d = c.args.bytes.now in
    let e = c.in_ok-self.ensures in
    let taken = answer_ok (write_claims s bs at (length d)) (written cipher s bs at d) _ (tt {0}) (sym e.value) in
    let laws : Lawful cipher = lawful f b g.met.K.Permutation.inverse s.key.bytes s.nonce.bytes e.keyed.0 e.keyed.1 in
    let given : AllBytes d = λ i. search rules in
    record {
      value = sym taken.1;
      state = taken.0;
      after = e.after;
      same_room = e.same_room;
      untouched = e.untouched;
      stands = λ text text_label it. write_step f b s bs text text_label laws it at d given (sym taken.1) _ _ taken.0 e.after;
    }
