use Rattle.std.proofs.Common.{◌≡◌, ◌+◌, ◌-◌, ◌*◌, ◌/◌, ◌<◌, [], ◌∷◌, ◌++◌, map, length, get_or, sym, refl, ap, ◌∙◌, arith}
use Rattle.std.proofs.lemmas.List.FromFn.{length-map-range_with_len, map-range_with_len_more}
use Rattle.std.specs.List.{range_with_len}
use Rattle.permutation.specs.Blocks.{◌⊕◌}
use Rattle.modes.proofs.Padding.{whole_block}
use Rattle.modes.specs.Cipher.{masked}
use Rattle.modes.specs.Masks.{times, step}
use Rattle.modes.specs.Sums.{xor_to}
use Rattle.modes.specs.SumLaws.{xor_to_more}
use Rattle.sheet.specs.ChunkLaws.{get_or_chunks}
use Rattle.sheet.specs.Ciphers.{sealed_block, sealed_adds}
use Rattle.sheet.proofs.Masking.{odd_mask, even_mask}
use Rattle.sheet.proofs.sealing.seal_inner.Goals as goal

pub loop-plain-init : goal.loop-plain-init
unfolding xor_to
loop-plain-init g c = (refl, refl, c.requires.0, refl)

pub add_block-requires : goal.add_block-requires
add_block-requires g c =
    let f = sealed_block g.K.Permutation.forth c.args.base.bytes c.args.text.now in
    let n : length (g.H.ReadBlocks.list c.loop-plain.h) ≡ c.loop-plain.plain-index = ap length c.loop-plain.invariant.2 ∙ length-map-range_with_len f 1 c.loop-plain.plain-index in
    let r = c.loop-plain.invariant.3 in
    let p = c.requires.1 in
    omega arith

pub loop-plain-preserved : goal.loop-plain-preserved
loop-plain-preserved g c =
    let f = g.K.Permutation.forth in
    let l = c.args.base.bytes in
    let t = c.args.text.now in
    let k = c.loop-plain.plain-index in
    let odd = odd_mask l k c.loop-plain.mask.bytes c.loop-plain.invariant.0 c.stepped-odd.result.bytes c.stepped-odd.ensures in
    let even = even_mask l k c.loop-plain.mask.bytes c.loop-plain.invariant.0 c.stepped-odd.result.bytes c.stepped-even.result.bytes c.stepped-odd.ensures c.stepped-even.ensures in
    let n = length t / 32 in
    let long = c.as_chunks.ensures.front_len in
    let less : k < n = omega arith in
    let plain = ap (λ xs. get_or xs k []) c.as_chunks.ensures.front ∙ get_or_chunks n t k [] less ∙ whole_block t k (omega arith) in
    let block : c.encipher-block.result ≡ sealed_block f l t (k + 1) =
    c.encipher-block.ensures ∙ ap (λ w. masked f w (get_or c.as_chunks.result.0.now k [])) odd ∙ ap (masked f (times (2 * (k + 1) - 1) step l)) plain in
    let adds : c.encipher.result ≡ sealed_adds f l t (k + 1) =
    c.encipher.ensures ∙ ap (λ w. masked f w c.encipher-block.result) even ∙ ap (masked f (times (2 * (k + 1)) step l)) block in (
      even,
      c.xor_blocks-added.ensures ∙ ap (λ s. s ⊕ c.encipher.result) c.loop-plain.invariant.1
          ∙ ap (λ y. xor_to (sealed_adds f l t) k ⊕ y) adds ∙ sym (xor_to_more (sealed_adds f l t) k),
      c.add_block.ensures.after ∙ ap (λ x. x ++ c.encipher-block.result ∷ []) c.loop-plain.invariant.2
          ∙ ap (λ b. map (sealed_block f l t) (range_with_len 1 k) ++ b ∷ []) block
          ∙ sym (map-range_with_len_more (sealed_block f l t) 1 k (k + 1) (omega arith)),
      c.add_block.ensures.same_room ∙ c.loop-plain.invariant.3,
    )
