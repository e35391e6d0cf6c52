-- The tweakable cipher over a permutation whose two functions are `forth` and `back`.
use Rattle.std.specs.Prelude.{ℕ, ◌&&◌, ◌||◌, List, [], ◌∷◌, ◌++◌, Result, ◌==◌, nat_lt}
use Rattle.permutation.specs.Blocks.{◌⊕◌}
use Rattle.modes.specs.declared.cipher.Usage.{Usage}
use Rattle.modes.specs.declared.cipher.Usage.TheVariants.{Label, Text, Plate}
use Rattle.modes.specs.declared.mask.Mask.{Mask}
use Rattle.modes.specs.declared.refusal.Layer.TheVariants.{Cipher}
use Rattle.modes.specs.declared.refusal.Reason.TheVariants.{MaskIndex, BufferLength}
use Rattle.modes.specs.declared.refusal.Refusal.{Refusal}
use Rattle.modes.specs.Keys.{bad_length, bad_key, bad_nonce}
use Rattle.modes.specs.Masks.{mask}
use Rattle.modes.specs.Refusals.{Claim, claim, refusal, answer}

abbrev pub usage_bytes : Usage → List ℕ
usage_bytes Label = 0x00 ∷ 0x00 ∷ 0x00 ∷ []
usage_bytes Text = 0x40 ∷ 0x00 ∷ 0x00 ∷ []
usage_bytes Plate = 0x80 ∷ 0x00 ∷ 0x00 ∷ []

-- key, use and nonce: a block
abbrev pub header : List ℕ → Usage → List ℕ → List ℕ
header key usage nonce = key ++ (usage_bytes usage ++ nonce)

-- the block that masks are made from
unfoldable pub base : (List ℕ → List ℕ) → List ℕ → Usage → List ℕ → List ℕ
base forth key usage nonce = header key usage nonce ⊕ forth (header key usage nonce)

-- a function on blocks between two copies of a mask
unfoldable pub masked : (List ℕ → List ℕ) → List ℕ → List ℕ → List ℕ
masked f w x = w ⊕ f (x ⊕ w)

-- f at mask (i, j) of the block l
abbrev pub tem_at : (List ℕ → List ℕ) → List ℕ → ℕ → ℕ → List ℕ → List ℕ
tem_at f l i j x = masked f (mask i j l) x

-- the tweakable cipher, and its reverse
abbrev pub tem : (forth : List ℕ → List ℕ) → List ℕ → Usage → List ℕ → ℕ → ℕ → List ℕ → List ℕ
tem forth key usage nonce i j x = tem_at forth (base forth key usage nonce) i j x

abbrev pub tem_reverse : (forth back : List ℕ → List ℕ) → List ℕ → Usage → List ℕ → ℕ → ℕ → List ℕ → List ℕ
tem_reverse forth back key usage nonce i j x = tem_at back (base forth key usage nonce) i j x

abbrev pub bad_index : ℕ → ℕ → Claim
bad_index i j = claim (nat_lt 8191 i || (nat_lt 2 j || (i == 0 && j == 0))) (refusal Cipher MaskIndex 0)

abbrev pub bad_block : List ℕ → Claim
bad_block x = bad_length 32 BufferLength x

abbrev pub tem_claims : List ℕ → List ℕ → ℕ → ℕ → List ℕ → List Claim
tem_claims key nonce i j x = bad_key key ∷ bad_nonce nonce ∷ bad_index i j ∷ bad_block x ∷ []

abbrev pub tem_answer : (List ℕ → List ℕ) → List ℕ → Usage → List ℕ → ℕ → ℕ → List ℕ → Result (List ℕ) Refusal
tem_answer forth key usage nonce i j x = answer (tem_claims key nonce i j x) (tem forth key usage nonce i j x)

abbrev pub reverse_answer : (forth back : List ℕ → List ℕ) → List ℕ → Usage → List ℕ → ℕ → ℕ → List ℕ → Result (List ℕ) Refusal
reverse_answer forth back key usage nonce i j x = answer (tem_claims key nonce i j x) (tem_reverse forth back key usage nonce i j x)

abbrev pub mask_of : List ℕ → Mask
mask_of w = record { bytes = w }
