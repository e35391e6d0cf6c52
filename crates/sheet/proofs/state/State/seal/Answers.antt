use Rattle.sheet.proofs.Claims.{seal_found}
use Rattle.sheet.proofs.state.State.seal.Goals as goal

pub seal_blocks-blocks-requires : goal.seal_blocks-blocks-requires
seal_blocks-blocks-requires g c =
    let f = seal_found c.args.context.key.now c.args.context.nonce.now c.args.context.label.now c.args.text.now
    (g.H.ReadBlocks.room c.args.h.now) (g.H.ReadBlocks.list c.args.h.now) _ _ c.in_ok-key.ensures.value in
    (f.none, f.room)
