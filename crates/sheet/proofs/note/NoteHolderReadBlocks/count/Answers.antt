use Rattle.std.proofs.Common.{arith, length-drop}
use Rattle.sheet.proofs.Noting.{beyond_sound}
use Rattle.sheet.proofs.note.NoteHolderReadBlocks.count.Goals as goal

pub returns : goal.returns
returns g c =
    let below = g.W.ReadBlocks.list c.args.self.now.below in
    record {
      value = omega (arith, length-drop 1 below);
      bytes = beyond_sound below c.count.ensures.bytes;
    }
