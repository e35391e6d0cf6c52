use Rattle.std.proofs.Common.{sym}
use Rattle.modes.specs.RefusalLaws.{answer_ok}
use Rattle.sheet.specs.Calls.{under}
use Rattle.sheet.specs.Ciphers.{Lawful}
use Rattle.sheet.specs.Edits.{cut_claims, cut_back}
use Rattle.sheet.proofs.Laws.{lawful}
use Rattle.sheet.proofs.Steps.{cut_step}
use Rattle.sheet.proofs.sheet.Sheet.cut.Goals as goal

pub returns : goal.returns
returns g c =
    let f = g.K.Permutation.forth in
    let b = g.K.Permutation.back in
    let s = c.args.self.now.state in
    let bs = g.H.ReadBlocks.list c.args.h.now in
    let cipher = under f b s in
    let n = c.args.amount in
    let e = c.in_ok-self.ensures in
    let taken = answer_ok (cut_claims s bs n) (cut_back cipher s bs n) _ (tt {0}) (sym e.value) in
    let laws : Lawful cipher = lawful f b g.met.K.Permutation.inverse s.key.bytes s.nonce.bytes e.keyed.0 e.keyed.1 in
    record {
      value = sym taken.1;
      state = taken.0;
      after = e.after;
      same_room = e.same_room;
      untouched = e.untouched;
      stands = λ text text_label it. cut_step f b s bs text text_label laws it n _ _ taken.0 e.after;
    }
