use Rattle.std.proofs.Common.{◌≡◌, ◌+◌, length, drop, Ok, sym, ap, ◌∙◌, arith, rules}
use Rattle.std.proofs.lemmas.List.{length-take, length-drop, get_or-take, get_or-drop}
use Rattle.permutation.specs.BlockLaws.{same_entries}
use Rattle.sheet.specs.Calls.{under, read_answer, read_bytes}
use Rattle.sheet.specs.Holding.{opened_byte}
use Rattle.sheet.specs.Sealing.{opened}
use Rattle.sheet.proofs.Claims.{range_found}
use Rattle.sheet.proofs.Texts.{length_opened, opened_byte_at}
use Rattle.sheet.proofs.state.State.read.Goals as goal

pub returns : goal.returns
returns g c =
    let s = c.args.self in
    let bs = g.R.ReadBlocks.list c.args.h.now in
    let at = c.args.at in
    let out = c.args.out.now in
    let n = length out in
    let cipher = under g.K.Permutation.forth g.K.Permutation.back s in
    let told : Ok (tt {0}) ≡ read_answer s bs at n = search rules in
    let fits = (range_found s bs at n tt tt told).within in
    let size : length c.copy_out.new.out ≡ n = search rules in
    let long = length_opened cipher bs s.length in
    let dropped = length-drop at (opened cipher bs s.length) in
    let taken = length-take n (drop at (opened cipher bs s.length)) in
    let whole : length (read_bytes cipher s bs at n) ≡ n = omega arith in
    record {
      value = told;
      copied =
          same_entries n c.copy_out.new.out (read_bytes cipher s bs at n) size whole
          (λ i h.
          c.copy_out.ensures i h
          ∙ ap (λ l. opened_byte g.K.Permutation.back l bs (at + i)) c.mask-base.ensures
          ∙ sym (get_or-take n (drop at (opened cipher bs s.length)) i 0 h
          ∙ get_or-drop at (opened cipher bs s.length) i 0
          ∙ opened_byte_at cipher bs s.length (at + i) (omega arith)));
    }
