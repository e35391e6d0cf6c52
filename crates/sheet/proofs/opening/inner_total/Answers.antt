use Rattle.std.proofs.Common.{◌+◌, ◌*◌, sym, refl, ap, ◌∙◌}
use Rattle.permutation.specs.Blocks.{◌⊕◌}
use Rattle.modes.specs.Cipher.{masked}
use Rattle.modes.specs.Masks.{times, step}
use Rattle.modes.specs.Sums.{xor_to}
use Rattle.modes.specs.SumLaws.{xor_to_more}
use Rattle.sheet.specs.Holding.{block_adds}
use Rattle.sheet.proofs.Masking.{even_mask}
use Rattle.sheet.proofs.opening.inner_total.Goals as goal

pub loop-k-init : goal.loop-k-init
unfolding xor_to
loop-k-init g c = (refl, refl)

pub loop-k-preserved : goal.loop-k-preserved
loop-k-preserved g c =
    let f = g.K.Permutation.forth in
    let l = c.args.base.bytes in
    let bs = g.R.ReadBlocks.list c.args.h.now in
    let k = c.loop-k.k in
    let even = even_mask l k c.loop-k.mask.bytes c.loop-k.invariant.0 c.stepped.result.bytes c.stepped-even.result.bytes c.stepped.ensures c.stepped-even.ensures in
    let adds = c.encipher.ensures ∙ ap (λ w. masked f w c.held_block.result) even
    ∙ ap (masked f (times (2 * (k + 1)) step l)) c.held_block.ensures in (
      even,
      c.xor_blocks-added.ensures ∙ ap (λ s. s ⊕ c.encipher.result) c.loop-k.invariant.1
          ∙ ap (λ y. xor_to (block_adds f l bs) k ⊕ y) adds ∙ sym (xor_to_more (block_adds f l bs) k),
    )
