use Rattle.std.proofs.Common.{rules}
use Rattle.modes.specs.Cipher.{tem_claims}
use Rattle.modes.proofs.Undoing.{given_undone}
use Rattle.modes.proofs.cipher.tem.Goals as goal

pub returns-clause-undone : goal.returns-clause-undone
returns-clause-undone g c =
    let k = g.K.Permutation in
    let law = g.met.K.Permutation.inverse in
    let t = c.args.tweak in
    given_undone k.forth k.back law.forth_block law.undone (tem_claims c.args.key.now t.nonce.now t.i t.j c.args.block.now) _
    c.in_ok-mask.mask c.in_ok-mask.bytes c.encipher.result c.in_ok-mask.ensures c.encipher.ensures (search rules) (search rules)
