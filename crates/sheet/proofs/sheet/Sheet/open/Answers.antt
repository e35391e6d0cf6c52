use Rattle.std.proofs.Common.{◌≡◌, length, Ok, Err, sym, ◌∙◌, subst, rules}
use Rattle.sheet.specs.Ciphers.{cipher_of, Lawful}
use Rattle.sheet.specs.Opening.{OpensExactly}
use Rattle.sheet.specs.Sheets.{stated}
use Rattle.sheet.proofs.Laws.{lawful}
use Rattle.sheet.proofs.Openings.{opens_exactly}
use Rattle.sheet.proofs.sheet.Sheet.open.Goals as goal

pub returns-in_err-state : goal.returns-in_err-state
returns-in_err-state g c =
    let f = g.K.Permutation.forth in
    let b = g.K.Permutation.back in
    let key = c.args.context.key.now in
    let nonce = c.args.context.nonce.now in
    let e = c.in_err-state.ensures in
    let laws : length key ≡ 16 → length nonce ≡ 13 → Lawful (cipher_of f b key nonce) =
    λ hk hn. let k = e.keyed hk hn in lawful f b g.met.K.Permutation.inverse key nonce k.0 k.1 in
    let told : stated c.from_residual.result ≡ Err c.in_err-state.field-0.0 = search rules in
    record {
      value = told ∙ e.value;
      exactly =
          subst (OpensExactly (cipher_of f b key nonce) key nonce c.args.context.label.now c.args.tag.now (g.R.ReadBlocks.list c.args.h.now)) (sym told)
          (opens_exactly (cipher_of f b key nonce) key nonce c.args.context.label.now c.args.tag.now (g.R.ReadBlocks.list c.args.h.now) laws (Err c.in_err-state.field-0.0)
          tt e.value);
    }

pub returns : goal.returns
returns g c =
    let f = g.K.Permutation.forth in
    let b = g.K.Permutation.back in
    let key = c.args.context.key.now in
    let nonce = c.args.context.nonce.now in
    let bs = g.R.ReadBlocks.list c.args.h.now in
    let e = c.in_ok-state.ensures in
    let laws : length key ≡ 16 → length nonce ≡ 13 → Lawful (cipher_of f b key nonce) =
    λ hk hn. let k = e.keyed hk hn in lawful f b g.met.K.Permutation.inverse key nonce k.0 k.1 in
    record {
      value = e.value;
      exactly =
          opens_exactly (cipher_of f b key nonce) key nonce c.args.context.label.now c.args.tag.now bs laws (Ok c.in_ok-state.state)
          (λ i h. ((g.R.ReadBlocks.bounded c.args.h.now).whole i h, λ j l. e.bytes i j)) e.value;
    }
