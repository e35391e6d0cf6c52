use Rattle.std.proofs.Common.{◌≡◌, ◌+◌, length, refl, ap, ◌∙◌, arith, rules}
use Rattle.std.proofs.lemmas.List.{length-append}
use Rattle.std.proofs.lemmas.Bool.{true≢false}
use Rattle.sheet.specs.Calls.{under}
use Rattle.sheet.specs.Edits.{text_in, append_edit, append_claims}
use Rattle.sheet.specs.Laying.{laid_edit}
use Rattle.sheet.proofs.Applied.{worked_as, edit_none, nothing_worked, append_laid}
use Rattle.sheet.proofs.Claims.{append_found}
use Rattle.sheet.proofs.Texts.{length_opened}
use Rattle.sheet.proofs.state.State.append.Goals as goal

pub edited-requires : goal.edited-requires
edited-requires g c =
    let found = append_found c.args.self _ (g.H.ReadBlocks.list c.args.h.now) _ tt tt c.in_ok-check_append.ensures in
    search rules

pub returns-then-is_empty : goal.returns-then-is_empty
returns-then-is_empty g c =
    let s = c.args.self in
    let bs = g.H.ReadBlocks.list c.args.h.now in
    let d = c.args.bytes.now in
    let cipher = under g.K.Permutation.forth g.K.Permutation.back s in
    let checked = c.in_ok-check_append.ensures in
    let found = append_found s _ bs (length d) tt tt checked in
    let none : length d ≡ 0 = search rules in
    let size : length s.sum ≡ 32 = search rules in
    let long = length_opened cipher bs s.length in
    let e = append_edit (text_in cipher s bs) d in
    let same : length e.text ≡ s.length = length-append (text_in cipher s bs) d ∙ omega arith in
    let empty = edit_none (length d) _ _ e.text none in
    let left = nothing_worked cipher e s bs found.count empty same (append_claims s _ bs (length d)) checked size in
    record {
      value = left.value;
      after = left.blocks;
      same_room = refl;
      untouched = λ x. refl;
      keyed = search rules;
    }

pub returns : goal.returns
returns g c =
    let s = c.args.self in
    let bs = g.H.ReadBlocks.list c.args.h.now in
    let d = c.args.bytes.now in
    let cipher = under g.K.Permutation.forth g.K.Permutation.back s in
    let same = ap (laid_edit cipher s bs s.length d (s.length + length d)) c.block_count.ensures ∙ append_laid cipher s bs d (search rules) in
    let left = worked_as (append_claims s _ bs (length d)) cipher _ _ s bs _ _ c.in_ok-check_append.ensures same c.edited.ensures.value c.edited.ensures.after in
    record {
      value = left.value;
      after = left.blocks;
      same_room = c.edited.ensures.same_room;
      untouched = λ x. absurd (true≢false x);
      keyed = search rules;
    }
