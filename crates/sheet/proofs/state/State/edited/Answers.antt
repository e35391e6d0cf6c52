use Rattle.std.proofs.Common.{◌≡◌, ◌*◌, ◌/◌, take, ap, ◌∙◌}
use Rattle.modes.specs.declared.cipher.Usage.TheVariants.{Text}
use Rattle.modes.specs.Masks.{times, step}
use Rattle.modes.specs.Cipher.{base}
use Rattle.sheet.specs.Sealing.{blocks_in}
use Rattle.sheet.proofs.Altering.{worked_list, worked_state}
use Rattle.sheet.proofs.state.State.edited.Goals as goal

pub returns : goal.returns
returns g c =
    let f = g.K.Permutation.forth in
    let b = g.K.Permutation.back in
    let s = c.args.self in
    let bs = g.H.ReadBlocks.list c.args.h.now in
    let limit = g.H.ReadBlocks.room c.args.h.now in
    let at = c.args.edit.at in
    let d = c.args.edit.bytes.now in
    let n = c.args.edit.length in
    let w = c.at-start.result.bytes in
    let mask : w ≡ times (2 * (at / 32)) step (base f s.key.bytes Text s.nonce.bytes) = c.at-start.ensures ∙ ap (times (2 * (at / 32)) step) c.mask.ensures in
    let mid = g.H.ReadBlocks.list c.reseal.new.h in
    let after = g.H.ReadBlocks.list c.drop_to.new.h in
    let kept : after ≡ take (blocks_in n) mid = c.drop_to.ensures.after ∙ ap (λ k. take k mid) c.block_count.ensures in
    record {
      value =
          worked_state f b s bs limit at d n c.args.old_end c.args.new_end c.requires w mask mid after c.reseal.ensures.changed kept
          c.part_adds-given.result c.part_adds-taken.result c.xor_blocks-change.result c.xor_blocks.result
          c.part_adds-given.ensures c.part_adds-taken.ensures c.xor_blocks-change.ensures c.xor_blocks.ensures;
      after = worked_list f b s bs limit at d n c.args.old_end c.args.new_end c.requires w mask mid after c.reseal.ensures.changed kept;
      same_room = c.drop_to.ensures.same_room ∙ c.reseal.ensures.same_room;
    }
