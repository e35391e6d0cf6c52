use Rattle.std.proofs.Common.{◌≡◌, ◌+◌, ◌/◌, length, refl, ap, ◌∙◌, arith, rules}
use Rattle.std.proofs.lemmas.Bool.{true≢false}
use Rattle.sheet.specs.Calls.{under}
use Rattle.sheet.specs.Edits.{text_in, write_edit, write_claims}
use Rattle.sheet.specs.Laying.{laid_edit}
use Rattle.sheet.proofs.Applied.{worked_as, edit_none, nothing_worked, write_laid}
use Rattle.sheet.proofs.Claims.{range_found}
use Rattle.sheet.proofs.Layings.{length_overwritten}
use Rattle.sheet.proofs.Texts.{length_opened}
use Rattle.sheet.proofs.state.State.write.Goals as goal

pub returns-then-is_empty : goal.returns-then-is_empty
returns-then-is_empty g c =
    let s = c.args.self in
    let bs = g.H.ReadBlocks.list c.args.h.now in
    let at = c.args.at in
    let d = c.args.bytes.now in
    let cipher = under g.K.Permutation.forth g.K.Permutation.back s in
    let checked = c.in_ok-check_range.ensures in
    let found = range_found s bs at (length d) tt tt checked in
    let none : length d ≡ 0 = search rules in
    let size : length s.sum ≡ 32 = search rules in
    let long = length_opened cipher bs s.length in
    let within = found.within in
    let e = write_edit (text_in cipher s bs) at d in
    let same : length e.text ≡ s.length = length_overwritten (text_in cipher s bs) at d (omega arith) ∙ long in
    let empty = edit_none (length d) _ _ e.text none in
    let left = nothing_worked cipher e s bs found.count empty same (write_claims s bs at (length d)) checked size in
    record {
      value = left.value;
      after = left.blocks;
      same_room = refl;
      untouched = λ x. refl;
      keyed = search rules;
    }

pub returns : goal.returns
returns g c =
    let s = c.args.self in
    let bs = g.H.ReadBlocks.list c.args.h.now in
    let at = c.args.at in
    let d = c.args.bytes.now in
    let cipher = under g.K.Permutation.forth g.K.Permutation.back s in
    let checked = c.in_ok-check_range.ensures in
    let found = range_found s bs at (length d) tt tt checked in
    let made = c.div_ceil-end.ensures in
    let end : c.div_ceil-end.result ≡ (at + length d + 31) / 32 = omega arith in
    let same = ap (laid_edit cipher s bs at d s.length) end ∙ write_laid cipher s bs at d found.within (search rules) in
    let left = worked_as (write_claims s bs at (length d)) cipher _ _ s bs _ _ c.in_ok-check_range.ensures same c.edited.ensures.value c.edited.ensures.after in
    record {
      value = left.value;
      after = left.blocks;
      same_room = c.edited.ensures.same_room;
      untouched = λ x. absurd (true≢false x);
      keyed = search rules;
    }
