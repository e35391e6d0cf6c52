use Rattle.std.proofs.Common.{◌≡◌, ◌+◌, ◌-◌, ◌*◌, ◌/◌, [], ◌∷◌, ◌++◌, map, length, drop, sym, ap, ◌∙◌, arith}
use Rattle.std.proofs.lemmas.List.FromFn.{length-map-range_with_len, map-range_with_len_more}
use Rattle.std.specs.List.{range_with_len}
use Rattle.permutation.specs.Blocks.{◌⊕◌}
use Rattle.modes.specs.Cipher.{masked}
use Rattle.modes.specs.Masks.{times, step}
use Rattle.modes.specs.Sums.{block_at, xor_to}
use Rattle.modes.specs.SumLaws.{block_at_drop}
use Rattle.sheet.specs.Ciphers.{cipher_of, sealed_block, sealed_adds}
use Rattle.sheet.specs.Sealing.{sealed}
use Rattle.sheet.proofs.Masking.{odd_mask}
use Rattle.sheet.proofs.Totals.{total_sealed}
use Rattle.sheet.proofs.sealing.seal_blocks.Goals as goal

pub add_block-requires : goal.add_block-requires
add_block-requires g c =
    let n = length c.args.text.now / 32 in
    let f = sealed_block g.K.Permutation.forth c.base-base.result.bytes c.args.text.now in
    let count : length (g.H.ReadBlocks.list c.seal_inner.new.h) ≡ n = ap length c.seal_inner.ensures.after ∙ length-map-range_with_len f 1 n in
    let r = c.seal_inner.ensures.same_room in
    let p = c.requires.1 in
    omega arith

pub returns : goal.returns
unfolding sealed
returns g c =
    let f = g.K.Permutation.forth in
    let t = c.args.text.now in
    let n = length t / 32 in
    let l = c.base-base.result.bytes in
    let whole : length t / 32 * 32 ≡ 32 * n = omega arith in
    let mask = odd_mask l n c.seal_inner.result.0.bytes c.seal_inner.ensures.mask c.stepped.result.bytes c.stepped.ensures in
    let plain = c.first_block-last.ensures ∙ ap (λ y. block_at y 1) c.as_chunks.ensures.back
    ∙ ap (λ k. block_at (drop k t) 1) whole ∙ block_at_drop t n (omega arith) in
    let block : c.encipher-block.result ≡ sealed_block f l t (n + 1) =
    c.encipher-block.ensures ∙ ap (λ w. masked f w c.first_block-last.result) mask ∙ ap (masked f (times (2 * (n + 1) - 1) step l)) plain in
    let is = c.base-base.ensures in
    let cipher = cipher_of f g.K.Permutation.back c.args.key.bytes c.args.nonce.bytes in
    record {
      value =
          c.xor_blocks.ensures ∙ ap (λ s. s ⊕ c.encipher-block.result) c.seal_inner.ensures.sum
          ∙ ap (λ b. xor_to (sealed_adds f l t) n ⊕ b) block
          ∙ ap (λ m. xor_to (sealed_adds f m t) n ⊕ sealed_block f m t (n + 1)) is
          ∙ sym (total_sealed cipher t);
      after =
          c.add_block.ensures.after ∙ ap (λ x. x ++ c.encipher-block.result ∷ []) c.seal_inner.ensures.after
          ∙ ap (λ b. map (sealed_block f l t) (range_with_len 1 n) ++ b ∷ []) block
          ∙ sym (map-range_with_len_more (sealed_block f l t) 1 n (n + 1) (omega arith))
          ∙ ap (λ m. map (sealed_block f m t) (range_with_len 1 (n + 1))) is;
      same_room = c.add_block.ensures.same_room ∙ c.seal_inner.ensures.same_room;
    }
