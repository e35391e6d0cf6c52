use Rattle.std.proofs.Common.{sym}
use Rattle.modes.specs.RefusalLaws.{answer_ok}
use Rattle.sheet.specs.Calls.{under}
use Rattle.sheet.specs.Edits.{relabel_claims, relabelled}
use Rattle.sheet.proofs.Steps.{relabel_step}
use Rattle.sheet.proofs.sheet.Sheet.relabel.Goals as goal

pub returns : goal.returns
returns g c =
    let f = g.K.Permutation.forth in
    let b = g.K.Permutation.back in
    let s = c.args.self.now.state in
    let cipher = under f b s in
    let new = c.args.label.now in
    let e = c.in_ok-self.ensures in
    let taken = answer_ok (relabel_claims new) (relabelled cipher s new) _ (tt {0}) (sym e) in
    record {
      value = sym taken.1;
      state = taken.0;
      stands = λ bs text text_label it. relabel_step f b s bs text text_label new it (sym taken.1) _ taken.0;
    }
