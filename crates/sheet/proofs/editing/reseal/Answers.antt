use Rattle.std.proofs.Common.{◌≡◌, ◌+◌, ◌-◌, ◌*◌, ap, ◌∙◌, arith}
use Rattle.modes.specs.Masks.{times, step}
use Rattle.sheet.proofs.Masking.{odd_mask, even_mask}
use Rattle.sheet.proofs.Partials.{reseal_more}
use Rattle.sheet.proofs.editing.reseal.Goals as goal

pub reseal_block-requires : goal.reseal_block-requires
reseal_block-requires g c =
    let r = c.loop-i.invariant.1.count in
    let room = c.loop-i.invariant.2 in
    let p = c.requires in
    (omega arith, omega arith)

pub loop-i-preserved : goal.loop-i-preserved
loop-i-preserved g c =
    let from = c.args.from in
    let i = c.loop-i.i in
    let low = c.loop-i.auto.i in
    let p = c.requires in
    let w = c.args.start.bytes in
    let next : i - from + 1 ≡ i + 1 - from = omega arith in
    let place : 2 * (i - from + 1) - 1 ≡ 2 * (i - from) + 1 = omega arith in
    let odd = odd_mask w (i - from) c.loop-i.mask.bytes c.loop-i.invariant.0 c.stepped-odd.result.bytes c.stepped-odd.ensures in
    let even = even_mask w (i - from) c.loop-i.mask.bytes c.loop-i.invariant.0 c.stepped-odd.result.bytes c.stepped-mask.result.bytes c.stepped-odd.ensures c.stepped-mask.ensures in (
      even ∙ ap (λ n. times (2 * n) step w) next,
      reseal_more g.K.Permutation.forth g.K.Permutation.back _ _ _ w c.stepped-odd.result.bytes (g.H.ReadBlocks.list c.args.h.now)
          (g.H.ReadBlocks.list c.loop-i.h) _ from i low (omega arith) c.loop-i.invariant.1 (odd ∙ ap (λ n. times n step w) place)
          c.reseal_block.ensures.after,
      c.reseal_block.ensures.same_room ∙ c.loop-i.invariant.2,
    )
