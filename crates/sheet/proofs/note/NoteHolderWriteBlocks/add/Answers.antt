use Rattle.std.proofs.Common.{◌≡◌, ◌++◌, ap, ◌∙◌, arith, rules}
use Rattle.sheet.specs.Holders.{add_answer}
use Rattle.sheet.specs.Notes.{noted, beyond}
use Rattle.sheet.proofs.Noting.{note_there, note_made, added}
use Rattle.sheet.proofs.note.NoteHolderWriteBlocks.add.Goals as goal
use Rattle.sheet.proofs.note.NoteHolderWriteBlocks.add.Goals.{then-count-eq0+in_ok-add, else-count-eq0}

pub returns : goal.returns
returns g c =
    let m = g.W.ReadBlocks in
    let old = c.args.self.now.below in
    let mid = c.if-count-eq0.self.below in
    let below = m.list old in
    let made : (m.room mid ≡ m.room old) × (m.list mid ≡ noted below ++ beyond below) =
    elim c.if-count-eq0.branch [
      | then-count-eq0+in_ok-add w ↦
          let is : mid ≡ w.add.new.self = ap (λ h. h.below) w.self-is in
          let e = w.in_ok-add.ensures in
          (ap m.room is ∙ e.same_room, note_made below (m.list mid) (omega arith) (ap m.list is ∙ e.after))
      | else-count-eq0 w ↦
          let is : mid ≡ old = ap (λ h. h.below) w.self-is in
          (ap m.room is, ap m.list is ∙ note_there below (omega arith))
    ] in
    let a = added (m.room old) below (m.list mid) _ c.args.block.now c.add-2.result c.in_ok-check_room.ensures made.1
    (c.add-2.ensures.value ∙ ap (λ n. add_answer n (m.list mid) c.args.block.now) made.0)
    c.add-2.ensures.after in
    search rules
