use Rattle.std.proofs.Common.{◌≡◌, ◌+◌, ◌-◌, ◌*◌, cond, eqb, sym, ap, ◌∙◌, arith, rules}
use Rattle.modes.specs.Cipher.{masked}
use Rattle.modes.specs.Masks.{times, step}
use Rattle.sheet.proofs.Masking.{even_mask}
use Rattle.sheet.proofs.Partials.{part_none, part_more}
use Rattle.sheet.proofs.editing.part_adds.Goals as goal
use Rattle.sheet.proofs.editing.part_adds.Goals.{then-k-count, else-k-count}

pub loop-k-init : goal.loop-k-init
loop-k-init g c =
    let none : 2 * (c.args.from - c.args.from) ≡ 0 = omega arith in
    (sym (ap (λ n. times n step c.args.start.bytes) none), part_none _ _ _ _ _ (omega arith))

pub loop-k-preserved : goal.loop-k-preserved
loop-k-preserved g c =
    let from = c.args.from in
    let k = c.loop-k.k in
    let low = c.loop-k.auto.k in
    let w = c.args.start.bytes in
    let next : k - from + 1 ≡ k + 1 - from = omega arith in
    let block = c.held_block-block.result in
    let more : c.if-k-count.more ≡ cond (eqb (k + 1) c.count-count.result) block (masked g.K.Permutation.forth c.stepped-even.result.bytes block) =
    elim c.if-k-count.branch [ then-k-count w ↦ search rules | else-k-count w ↦ search rules ] in
    let even = even_mask w (k - from) c.loop-k.mask.bytes c.loop-k.invariant.0 c.stepped.result.bytes c.stepped-even.result.bytes c.stepped.ensures c.stepped-even.ensures in (
      even ∙ ap (λ n. times (2 * n) step w) next,
      part_more g.K.Permutation.forth w (g.R.ReadBlocks.list c.args.h.now) from k c.count-count.result c.loop-k.sum
          c.stepped-even.result.bytes c.if-k-count.more _ low c.count-count.ensures.value c.loop-k.invariant.1 even
          (more
          ∙ ap (λ x. cond (eqb (k + 1) c.count-count.result) x (masked g.K.Permutation.forth c.stepped-even.result.bytes x)) c.held_block-block.ensures)
          c.xor_blocks-added.ensures,
    )
