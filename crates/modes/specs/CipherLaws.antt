-- Laws of the tweakable cipher, which code above rests on.
use Rattle.std.specs.Prelude.{◌≡◌, ℕ, zero, suc, ◌+◌, ◌-◌, ◌<◌, ◌≤◌, List, [], ◌∷◌, ◌++◌, length, Ok, ◌==◌, slice_index, refl}
use Rattle.std.proofs.Common.{⊎_elim, sym, subst, ◌∙◌, arith}
use Rattle.std.proofs.Math.Path.{ap}
use Rattle.std.proofs.lemmas.List.{get_or_append_left, get_or-append_right, length-append}
use Rattle.std.proofs.lemmas.Bool.{cases_lt, eqb-true, not-false}
use Rattle.permutation.specs.Blocks.{Block, Inverse, ◌⊕◌}
use Rattle.permutation.specs.BlockLaws.{xor_block, xors_comm, xors_cancel, length_xors}
use Rattle.modes.specs.declared.cipher.Usage.{Usage}
use Rattle.modes.specs.declared.cipher.Usage.TheVariants.{Label, Text, Plate}
use Rattle.modes.specs.Cipher.{usage_bytes, header, base, masked, tem_at, tem, tem_reverse, tem_claims, bad_index, bad_block}
use Rattle.modes.specs.Keys.{Bytes, bad_key, bad_nonce}
use Rattle.modes.specs.MaskLaws.{mask_block}
use Rattle.modes.specs.Refusals.{answer}
use Rattle.modes.specs.RefusalLaws.{taken_rest}

pub bytes_append : (m n : ℕ) (x y : List ℕ) → Bytes m x → Bytes n y → Bytes (m + n) (x ++ y)
bytes_append m n x y h k = (
  simp length-append (omega arith),
  λ i l.
      ⊎_elim
      (λ (p : i < m).
      let inside : i < length x = omega arith in
      subst (λ (b : ℕ). b < 256) (sym (get_or_append_left x y 0 i inside)) (h.1 i p))
      (λ (p : m ≤ i).
      subst (λ (b : ℕ). b < 256) (sym (get_or-append_right x y m i 0 h.0 p)) (k.1 (i - m) (omega arith)))
      (cases_lt i m),
)

-- one byte and two zeros
three_bytes : (b : ℕ) → b < 256 → Bytes 3 (b ∷ 0 ∷ 0 ∷ [])
three_bytes b h = (refl, at)
  where
    at : (i : ℕ) → i < 3 → slice_index (b ∷ 0 ∷ 0 ∷ []) i < 256
    at zero l = h
    at (suc zero) l = omega arith
    at (suc (suc zero)) l = omega arith
    at (suc (suc (suc i))) l = omega arith

usage_three : (usage : Usage) → Bytes 3 (usage_bytes usage)
usage_three Label = three_bytes 0x00 (omega arith)
usage_three Text = three_bytes 0x40 (omega arith)
usage_three Plate = three_bytes 0x80 (omega arith)

-- between two copies of a mask, f is undone by what undoes it
module _ (f g : List ℕ → List ℕ) (keeps : (x : List ℕ) → Block x → Block (f x)) (undoes : (x : List ℕ) → Block x → g (f x) ≡ x) where
  pub masked_block : (w x : List ℕ) → Block w → Block x → Block (masked f w x)
  unfolding masked
  masked_block w x hw hx = xor_block w (f (x ⊕ w)) hw (keeps (x ⊕ w) (xor_block x w hx hw))

  pub masked_undone : (w x : List ℕ) → Block w → Block x → masked g w (masked f w x) ≡ x
  unfolding masked
  masked_undone w x hw hx =
      let inner = xor_block x w hx hw in
      let y = f (x ⊕ w) in
      ap (λ z. w ⊕ g (z ⊕ w)) (xors_comm 32 w y)
      ∙ ap (λ z. w ⊕ g z) (xors_cancel 32 y w (keeps (x ⊕ w) inner).0)
      ∙ ap (λ z. w ⊕ z) (undoes (x ⊕ w) inner)
      ∙ xors_comm 32 w (x ⊕ w)
      ∙ xors_cancel 32 x w hx.0

-- whatever it is given, it gives 32 entries
pub length_tem : (f : List ℕ → List ℕ) (l : List ℕ) (i j : ℕ) (x : List ℕ) → length (tem_at f l i j x) ≡ 32
unfolding masked
length_tem f l i j x = length_xors 32 _ _

module _ (forth back : List ℕ → List ℕ) (law : Inverse forth back) (key : List ℕ) (usage : Usage) (nonce : List ℕ)
    (hk : Bytes 16 key) (hn : Bytes 13 nonce) where
  pub base_block : Block (base forth key usage nonce)
  unfolding base
  base_block =
      let h : Block (header key usage nonce) =
      bytes_append 16 16 key (usage_bytes usage ++ nonce) hk (bytes_append 3 13 (usage_bytes usage) nonce (usage_three usage) hn) in
      xor_block (header key usage nonce) (forth (header key usage nonce)) h (law.forth_block (header key usage nonce) h)

  -- the tweakable cipher and its reverse give blocks of blocks and undo each other
  module _ (i j : ℕ) (x : List ℕ) (hx : Block x) where
    pub tem_block : Block (tem forth key usage nonce i j x)
    tem_block = masked_block forth back law.forth_block law.undone _ x (mask_block i j _ base_block) hx

    pub tem_reverse_block : Block (tem_reverse forth back key usage nonce i j x)
    tem_reverse_block = masked_block back forth law.back_block law.redone _ x (mask_block i j _ base_block) hx

    pub tem_undone : tem_reverse forth back key usage nonce i j (tem forth key usage nonce i j x) ≡ x
    tem_undone = masked_undone forth back law.forth_block law.undone _ x (mask_block i j _ base_block) hx

    pub tem_redone : tem forth key usage nonce i j (tem_reverse forth back key usage nonce i j x) ≡ x
    tem_redone = masked_undone back forth law.back_block law.redone _ x (mask_block i j _ base_block) hx

-- a call that is taken was handed a key, a nonce and a block of the right lengths
pub tem_sizes : {A : Type 0} (key nonce : List ℕ) (i j : ℕ) (x : List ℕ) (v w : A) → Ok w ≡ answer (tem_claims key nonce i j x) v
    → (length key ≡ 16) × (length nonce ≡ 13) × (length x ≡ 32)
tem_sizes key nonce i j x v w h =
    let k = taken_rest (bad_key key) (bad_nonce nonce ∷ bad_index i j ∷ bad_block x ∷ []) v w h in
    let n = taken_rest (bad_nonce nonce) (bad_index i j ∷ bad_block x ∷ []) v w k.1 in
    let m = taken_rest (bad_index i j) (bad_block x ∷ []) v w n.1 in
    let b = taken_rest (bad_block x) [] v w m.1 in (
      eqb-true (length key) 16 (not-false (length key == 16) k.0),
      eqb-true (length nonce) 13 (not-false (length nonce == 13) n.0),
      eqb-true (length x) 32 (not-false (length x == 32) b.0),
    )
