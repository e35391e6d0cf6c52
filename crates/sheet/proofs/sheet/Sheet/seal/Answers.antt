use Rattle.std.proofs.Common.{◌≡◌, length, sym, subst, rules}
use Rattle.sheet.specs.Ciphers.{cipher_of, Lawful}
use Rattle.sheet.specs.Opening.{AllBytes, Reopens}
use Rattle.sheet.proofs.Laws.{lawful}
use Rattle.sheet.proofs.Reopening.{reopens}
use Rattle.sheet.proofs.sheet.Sheet.seal.Goals as goal

pub returns : goal.returns
returns g c =
    let f = g.K.Permutation.forth in
    let b = g.K.Permutation.back in
    let key = c.args.context.key.now in
    let nonce = c.args.context.nonce.now in
    let label = c.args.context.label.now in
    let text = c.args.text.now in
    let cipher = cipher_of f b key nonce in
    let laws : length key ≡ 16 → length nonce ≡ 13 → Lawful cipher =
    λ hk hn. let k = c.in_ok-state.ensures.keyed hk hn in lawful f b g.met.K.Permutation.inverse key nonce k.0 k.1 in
    let bytes : AllBytes text = λ i. search rules in
    let e = c.in_ok-state.ensures in
    let again = reopens cipher key nonce label text (g.H.ReadBlocks.room c.args.h.now) (g.H.ReadBlocks.list c.args.h.now) laws bytes c.in_ok-state.state e.value in
    record {
      value = e.value;
      after = e.after;
      same_room = e.same_room;
      untouched = e.untouched;
      reopens = subst (λ bs. Reopens cipher key nonce label text bs c.in_ok-state.state) (sym e.after) again;
    }
