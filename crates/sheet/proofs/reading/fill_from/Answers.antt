use Rattle.std.proofs.Common.{◌≡◌, ◌+◌, ◌-◌, ◌≤◌, length, get_or, drop, ap, ◌∙◌, arith, rules}
use Rattle.std.proofs.lemmas.List.{get_or-take, get_or-drop}
use Rattle.sheet.proofs.Filling.{put_before, put_inside}
use Rattle.sheet.proofs.reading.fill_from.Goals as goal

pub returns : goal.returns
returns c =
    let out = c.args.out.now in
    let plain = c.args.plain in
    let lo = c.saturating_sub-lo.result in
    let hi = c.min-hi.result in
    let skipped = c.saturating_sub-skipped.result in
    let part = c.copy_from_slice.new.self in
    let is = c.copy_from_slice.ensures.after in
    let size : length part ≡ hi - lo = search rules in
    let within : lo ≤ length out = omega arith in
    record {
      inside = λ i h p q.
          let place : skipped + (i - lo) ≡ c.args.at + i - c.args.from = omega arith in
          put_inside lo (hi - lo) out part within i (omega arith) (omega arith)
          ∙ ap (λ y. get_or y (i - lo) 0) is
          ∙ get_or-take (skipped + (hi - lo) - skipped) (drop skipped plain) (i - lo) 0 (omega arith)
          ∙ get_or-drop skipped plain (i - lo) 0
          ∙ ap (λ n. get_or plain n 0) place;
      before = λ i p. put_before lo (hi - lo) out part within i (omega arith);
    }
