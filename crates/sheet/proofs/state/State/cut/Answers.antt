use Rattle.std.proofs.Common.{◌≡◌, ◌-◌, [], length, refl, ap, ◌∙◌, arith, rules}
use Rattle.std.proofs.lemmas.Bool.{true≢false}
use Rattle.sheet.specs.Calls.{under}
use Rattle.sheet.specs.Edits.{text_in, cut_edit, cut_claims}
use Rattle.sheet.specs.Laying.{laid_edit}
use Rattle.sheet.proofs.Applied.{worked_as, edit_none, nothing_worked, cut_laid}
use Rattle.sheet.proofs.Claims.{cut_found}
use Rattle.sheet.proofs.Layings.{length_shortened}
use Rattle.sheet.proofs.Texts.{length_opened}
use Rattle.sheet.proofs.state.State.cut.Goals as goal

pub edited-requires : goal.edited-requires
edited-requires g c =
    let found = cut_found c.args.self (g.H.ReadBlocks.list c.args.h.now) _ tt tt c.in_ok-check_cut.ensures in
    search rules

pub returns-then-amount-eq0 : goal.returns-then-amount-eq0
returns-then-amount-eq0 g c =
    let s = c.args.self in
    let bs = g.H.ReadBlocks.list c.args.h.now in
    let n = c.args.amount in
    let cipher = under g.K.Permutation.forth g.K.Permutation.back s in
    let checked = c.in_ok-check_cut.ensures in
    let found = cut_found s bs n tt tt checked in
    let none : n ≡ 0 = search rules in
    let size : length s.sum ≡ 32 = search rules in
    let long = length_opened cipher bs s.length in
    let e = cut_edit (text_in cipher s bs) n in
    let same : length e.text ≡ s.length = length_shortened (text_in cipher s bs) n ∙ omega arith in
    let empty = edit_none n _ _ e.text none in
    let left = nothing_worked cipher e s bs found.count empty same (cut_claims s bs n) checked size in
    record {
      value = left.value;
      after = left.blocks;
      same_room = refl;
      untouched = λ x. refl;
      keyed = search rules;
    }

pub returns : goal.returns
returns g c =
    let s = c.args.self in
    let bs = g.H.ReadBlocks.list c.args.h.now in
    let n = c.args.amount in
    let cipher = under g.K.Permutation.forth g.K.Permutation.back s in
    let same = ap (laid_edit cipher s bs (s.length - n) [] (s.length - n)) c.block_count.ensures ∙ cut_laid cipher s bs n (search rules) in
    let left = worked_as (cut_claims s bs n) cipher _ _ s bs _ _ c.in_ok-check_cut.ensures same c.edited.ensures.value c.edited.ensures.after in
    record {
      value = left.value;
      after = left.blocks;
      same_room = c.edited.ensures.same_room;
      untouched = λ x. absurd (true≢false x);
      keyed = search rules;
    }
