-- The cipher of a key and a nonce is lawful.
use Rattle.std.proofs.Common.{ℕ, ◌-◌, ◌*◌, List, arith}
use Rattle.std.proofs.lemmas.List.{length-take}
use Rattle.permutation.specs.Blocks.{Inverse}
use Rattle.modes.specs.declared.cipher.Usage.TheVariants.{Text}
use Rattle.modes.specs.Cipher.{base}
use Rattle.modes.specs.CipherLaws.{length_tem, tem_block, tem_reverse_block, tem_undone, tem_redone}
use Rattle.modes.specs.Keys.{Bytes}
use Rattle.sheet.specs.Ciphers.{cipher_of, Lawful}

pub lawful : (forth back : List ℕ → List ℕ) → Inverse forth back → (key nonce : List ℕ) → Bytes 16 key → Bytes 13 nonce → Lawful (cipher_of forth back key nonce)
lawful forth back law key nonce hk hn = record {
  enc_block = λ k x h. tem_block forth back law key Text nonce hk hn (2 * k - 1) 0 x h;
  dec_block = λ k x h. tem_reverse_block forth back law key Text nonce hk hn (2 * k - 1) 0 x h;
  con_block = λ k x h. tem_block forth back law key Text nonce hk hn (2 * k) 0 x h;
  dec_enc = λ k x h. tem_undone forth back law key Text nonce hk hn (2 * k - 1) 0 x h;
  enc_dec = λ k x h. tem_redone forth back law key Text nonce hk hn (2 * k - 1) 0 x h;
  fin_size = λ m x. simp length-take (omega (arith, length_tem forth (base forth key Text nonce) (2 * m - 1) 1 x));
}
