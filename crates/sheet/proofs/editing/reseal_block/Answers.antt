use Rattle.std.proofs.Common.{ap, ◌∙◌, arith}
use Rattle.modes.specs.Cipher.{masked}
use Rattle.sheet.proofs.Partials.{put_resealed, add_resealed}
use Rattle.sheet.proofs.editing.reseal_block.Goals as goal

pub returns-then-i-count : goal.returns-then-i-count
returns-then-i-count g c =
    let all = c.count.ensures.value in
    record {
      after =
          put_resealed g.K.Permutation.forth g.K.Permutation.back _ _ _ c.args.odd.bytes (g.H.ReadBlocks.list c.args.h.now) c.args.i
          c.decipher-plain.result c.encipher-block.result _ (omega arith)
          (c.decipher-plain.ensures ∙ ap (masked g.K.Permutation.back c.args.odd.bytes) c.held_block.ensures)
          (c.encipher-block.ensures ∙ ap (masked g.K.Permutation.forth c.args.odd.bytes) c.block.ensures)
          c.put_block.ensures.after;
      same_room = c.put_block.ensures.same_room;
    }

pub returns-else-i-count : goal.returns-else-i-count
returns-else-i-count g c =
    let all = c.count.ensures.value in
    record {
      after =
          add_resealed g.K.Permutation.forth g.K.Permutation.back _ _ _ c.args.odd.bytes (g.H.ReadBlocks.list c.args.h.now) c.args.i
          c.encipher-block-else-i-count.result _ (omega arith)
          (c.encipher-block-else-i-count.ensures ∙ ap (masked g.K.Permutation.forth c.args.odd.bytes) c.block-else-i-count.ensures)
          c.add_block.ensures.after;
      same_room = c.add_block.ensures.same_room;
    }
