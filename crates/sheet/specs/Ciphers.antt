-- What a sheet needs of the cipher under one key and nonce, and no more.
use Rattle.std.specs.Prelude.{◌≡◌, ℕ, ◌-◌, ◌*◌, List, length, take}
use Rattle.permutation.specs.Blocks.{Block}
use Rattle.modes.specs.declared.cipher.Usage.TheVariants.{Text}
use Rattle.modes.specs.Cipher.{base, tem_at}
use Rattle.modes.specs.Sums as sums
use Rattle.modes.specs.Sums.{block_at}

pub record Cipher : Type 0 where
  -- block k of a text is sealed, and opened again
  pub enc : ℕ → List ℕ → List ℕ
  pub dec : ℕ → List ℕ → List ℕ
  -- what sealed block k adds to the sum where it is not the last
  pub con : ℕ → List ℕ → List ℕ
  -- the tag of a sum over m blocks
  pub fin : ℕ → List ℕ → List ℕ
  pub label_sum : List ℕ → List ℕ

-- The masks are made from the block l. Block k is sealed at mask (2k - 1, 0) and adds itself at (2k, 0); the tag is at (2m - 1, 1).
abbrev pub enc_at : (List ℕ → List ℕ) → List ℕ → ℕ → List ℕ → List ℕ
enc_at forth l k x = tem_at forth l (2 * k - 1) 0 x

abbrev pub con_at : (List ℕ → List ℕ) → List ℕ → ℕ → List ℕ → List ℕ
con_at forth l k x = tem_at forth l (2 * k) 0 x

abbrev pub fin_at : (List ℕ → List ℕ) → List ℕ → ℕ → List ℕ → List ℕ
fin_at forth l m x = take 16 (tem_at forth l (2 * m - 1) 1 x)

-- block k of a text sealed, and what that adds to the sum where it is not the last
abbrev pub sealed_block : (List ℕ → List ℕ) → List ℕ → List ℕ → ℕ → List ℕ
sealed_block forth l t k = enc_at forth l k (block_at t k)

abbrev pub sealed_adds : (List ℕ → List ℕ) → List ℕ → List ℕ → ℕ → List ℕ
sealed_adds forth l t k = con_at forth l k (sealed_block forth l t k)

-- the cipher of a key and a nonce; backward opens what forward seals
abbrev pub cipher_of : (forth back : List ℕ → List ℕ) → (key nonce : List ℕ) → Cipher
cipher_of forth back key nonce = record {
  enc = enc_at forth (base forth key Text nonce);
  dec = enc_at back (base forth key Text nonce);
  con = con_at forth (base forth key Text nonce);
  fin = fin_at forth (base forth key Text nonce);
  label_sum = sums.label_sum forth key;
}

pub record Lawful (c : Cipher) : Type 0 where
  pub enc_block : (k : ℕ) (b : List ℕ) → Block b → Block (c.enc k b)
  pub dec_block : (k : ℕ) (b : List ℕ) → Block b → Block (c.dec k b)
  pub con_block : (k : ℕ) (b : List ℕ) → Block b → Block (c.con k b)
  pub dec_enc : (k : ℕ) (b : List ℕ) → Block b → c.dec k (c.enc k b) ≡ b
  pub enc_dec : (k : ℕ) (b : List ℕ) → Block b → c.enc k (c.dec k b) ≡ b
  pub fin_size : (m : ℕ) (b : List ℕ) → length (c.fin m b) ≡ 16
