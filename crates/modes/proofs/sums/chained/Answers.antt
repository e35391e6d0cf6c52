use Rattle.std.proofs.Common.{◌≡◌, ℕ, ◌+◌, ◌-◌, ◌/◌, [], cond, length, get_or, sym, refl, ap, ◌∙◌, arith}
use Rattle.permutation.specs.Blocks.{◌⊕◌}
use Rattle.modes.proofs.Padding.{chunk_block}
use Rattle.modes.specs.Cipher.{masked}
use Rattle.modes.specs.Masks.{times, step, turn}
use Rattle.modes.specs.MaskLaws.{times_more}
use Rattle.modes.specs.Sums.{block_at, xor_to, link, blocks_of, is_padded, chain}
use Rattle.modes.specs.SumLaws.{block_at_drop, xor_to_more}
use Rattle.std.specs.Simd.{first_chunks}
use Rattle.modes.proofs.sums.chained.Goals as goal

pub loop-block-init : goal.loop-block-init
unfolding xor_to
loop-block-init g c = (refl, refl)

pub loop-block-preserved : goal.loop-block-preserved
loop-block-preserved g c =
    let f = g.K.Permutation.forth in
    let l = c.args.base.bytes in
    let x = c.args.text.now in
    let i = c.loop-block.block-index in
    let m = c.saturating_sub-inner.result / 32 in
    let front = c.split_at.result.0.now in
    let n = length front / 32 in
    let blocks = c.as_chunks.result.0.now in
    let made : blocks ≡ first_chunks 32 n front = c.as_chunks.ensures.front in
    let count : length blocks ≡ n = c.as_chunks.ensures.front_len in
    let block : get_or blocks i [] ≡ block_at x (i + 1) =
    ap (λ bs. get_or bs i []) (made ∙ ap (first_chunks 32 n) c.split_at.ensures.front)
    ∙ chunk_block x m n i [] (omega arith) (omega arith) (omega arith) in
    let moved = c.stepped-next.ensures ∙ ap step c.loop-block.invariant.0 ∙ sym (times_more i step l) in
    let added = c.encipher.ensures ∙ ap (λ w. masked f w (get_or blocks i [])) moved
    ∙ ap (masked f (times (i + 1) step l)) block in (
      moved,
      c.xor_blocks-added.ensures ∙ ap (λ s. s ⊕ c.encipher.result) c.loop-block.invariant.1
          ∙ ap (λ y. xor_to (link f l x) i ⊕ y) added
          ∙ sym (xor_to_more (link f l x) i),
    )

pub returns : goal.returns
unfolding chain
returns g c =
    let f = g.K.Permutation.forth in
    let l = c.args.base.bytes in
    let x = c.args.text.now in
    let k = c.loop-block.block-index in
    let m = c.saturating_sub-inner.result / 32 in
    let j : ℕ = cond (is_padded (length x)) 2 1 in
    let count : length c.as_chunks.result.0.now ≡ length c.split_at.result.0.now / 32 = c.as_chunks.ensures.front_len in
    let reached : m ≡ k = omega arith in
    let before : k ≡ blocks_of (length x) - 1 = omega arith in
    let last : k + 1 ≡ blocks_of (length x) = omega arith in
    let block = c.first_block.ensures ∙ ap (λ y. block_at y 1) c.split_at.ensures.back ∙ block_at_drop x m (omega arith)
    ∙ ap (λ n. block_at x (n + 1)) reached ∙ ap (block_at x) last in
    let total = c.xor_blocks-total.ensures ∙ ap (λ s. s ⊕ c.first_block.result) c.loop-block.invariant.1
    ∙ ap (λ y. xor_to (link f l x) k ⊕ y) block
    ∙ ap (λ n. xor_to (link f l x) n ⊕ block_at x (blocks_of (length x))) before in
    let mask = c.ended.ensures ∙ ap (times j turn) c.loop-block.invariant.0 ∙ ap (λ n. times j turn (times n step l)) before in
    c.encipher-2.ensures ∙ ap (λ w. masked f w c.xor_blocks-total.result) mask
    ∙ ap (masked f (times j turn (times (blocks_of (length x) - 1) step l))) total
