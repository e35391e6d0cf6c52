-- Values worked by hand, together as one fact about the definitions.
use Rattle.std.specs.Prelude.{◌≡◌, ℕ, ◌<◌, ◌≤◌, List, [], ◌∷◌, length, None, Err, slice_index}
use Rattle.permutation.specs.Minalpher.{forward, backward}
use Rattle.modes.specs.declared.refusal.Layer.TheVariants.{Sheet}
use Rattle.modes.specs.declared.refusal.Reason.TheVariants.{TextLength, Padding}
use Rattle.modes.specs.Refusals.{refusal, number_of}
use Rattle.modes.specs.Worked as modes
use Rattle.modes.specs.Worked.{zeros}
use Rattle.sheet.specs.Calls.{seal_answer, open_answer, last_plain}
use Rattle.sheet.specs.Ciphers.{Cipher, cipher_of}
use Rattle.sheet.specs.Sealing.{blocks_in, sealed, tag_of, text_end}

-- zero rounds, and a key and a nonce of zeros
abbrev pub zero_cipher : Cipher
zero_cipher = cipher_of (forward 0) (backward 0) (zeros 16) (zeros 13)

pub record WorkedValues : Type 0 where
  pub of_the_modes : modes.WorkedValues
  -- label and text are empty
  pub empty_block :
      sealed zero_cipher []
      ≡ (0xBB ∷ 0xBB ∷ 0x2B ∷ 0xBB ∷ 0xBB ∷ 0xBB ∷ 0xBB ∷ 0xBB ∷ 0xBB ∷ 0xBB ∷ 0xBB ∷ 0xBB ∷ 0xBB ∷ 0x00 ∷ 0x32 ∷ 0x40
      ∷ 0xBB ∷ 0xBA ∷ 0xBB ∷ 0xFB ∷ 0xBB ∷ 0xBB ∷ 0xBB ∷ 0xBB ∷ 0xBB ∷ 0xBB ∷ 0xBB ∷ 0xBB ∷ 0x00 ∷ 0x70 ∷ 0xBB ∷ 0xD5 ∷ []) ∷ []
  pub empty_tag :
      tag_of zero_cipher [] (sealed zero_cipher [])
      ≡ 0xE0 ∷ 0x90 ∷ 0xE0 ∷ 0x00 ∷ 0x00 ∷ 0x00 ∷ 0x00 ∷ 0x00 ∷ 0xBB ∷ 0x00 ∷ 0x00 ∷ 0x00 ∷ 0x98 ∷ 0x00 ∷ 0xC9 ∷ 0xBB ∷ []
  pub one_block : (blocks_in 0 ≡ 1) × (blocks_in 31 ≡ 1)
  pub two_blocks : blocks_in 32 ≡ 2
  pub most_blocks : blocks_in 131071 ≡ 4096
  pub one_byte_more : (c : Cipher) (key nonce label text : List ℕ) (limit : ℕ) (bs : List (List ℕ))
      → length key ≡ 16 → length nonce ≡ 13 → length label ≤ 4096 → length text ≡ 131072
      → seal_answer c key nonce label text limit bs ≡ Err (refusal Sheet TextLength 0)
  pub that_is_eight : number_of TextLength ≡ 8
  -- a last block of zeros, or one whose last byte other than 00 is 40, has no padding
  pub zeros_unpadded : text_end (zeros 32) ≡ None
  pub forty_unpadded : (p : List ℕ) (n : ℕ) → n < 32 → slice_index p n ≡ 0x40 → ((j : ℕ) → n < j → j < 32 → slice_index p j ≡ 0x00) → text_end p ≡ None
  -- and under the right tag is declined
  pub unpadded_declined : (c : Cipher) (key nonce label : List ℕ) (bs : List (List ℕ))
      → length key ≡ 16 → length nonce ≡ 13 → length (tag_of c label bs) ≡ 16 → length label ≤ 4096 → 0 < length bs → length bs ≤ 4096
      → text_end (last_plain c bs) ≡ None → open_answer c key nonce label (tag_of c label bs) bs ≡ Err (refusal Sheet Padding 0)
  pub that_is_seventeen : number_of Padding ≡ 17
