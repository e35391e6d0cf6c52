-- Laws of masks.
use Rattle.std.specs.Prelude.{◌≡◌, ℕ, zero, suc, ◌+◌, ◌*◌, ◌%◌, ◌<◌, ◌≤◌, List, [], ◌∷◌, ◌++◌, length, drop, bit_xor, nat_lt, slice_index, slice_index_or}
use Rattle.std.proofs.Common.{sym, ap, subst, ◌∙◌, add-one, arith, ⊎_elim}
use Rattle.std.proofs.lemmas.List.{get_or-set_same, get_or-set_other, get_or-drop, get_or_append_left, get_or-append_right, length-append, length-drop, length-set}
use Rattle.std.proofs.lemmas.Bool.{cases_lt, cases_eq, cond_both}
use Rattle.std.proofs.lemmas.Nat.{xor_lt}
use Rattle.permutation.specs.Blocks.{Block}
use Rattle.permutation.specs.BlockLaws.{xor_block}
use Rattle.modes.specs.Masks.{doubled, xor_into, step, turn, times, mask}

pub times_more : {A : Type 0} (n : ℕ) (f : A → A) (x : A) → times (n + 1) f x ≡ f (times n f x)
times_more n f x = ap (λ m. times m f x) (add-one n)

-- what f keeps, f keeps any number of times
pub times_keeps : {A : Type 0} (P : A → Type 0) (f : A → A) → ((x : A) → P x → P (f x)) → (n : ℕ) (x : A) → P x → P (times n f x)
times_keeps P f k zero x h = h
times_keeps P f k (suc n) x h = k (times n f x) (times_keeps P f k n x h)

doubled_byte : (b : ℕ) → b < 256 → doubled b < 256
doubled_byte b h =
    let shifted : b * 2 % 256 < 256 = omega arith in
    cond_both (nat_lt b 128) (b * 2 % 256) (bit_xor (b * 2 % 256) 0xA3) (λ (n : ℕ). n < 256)
    (λ e. shifted) (λ e. xor_lt 8 (b * 2 % 256) 0xA3 shifted (omega arith))

-- a byte xored into a block leaves a block
into_block : (i b : ℕ) (x : List ℕ) → i < 32 → b < 256 → Block x → Block (xor_into i b x)
into_block i b x hi hb k =
    let inside : i < length x = omega arith in (
      simp length-set k.0,
      λ j h.
          ⊎_elim
          (λ (e : j ≡ i).
          subst (λ (n : ℕ). n < 256) (sym (ap (λ n. slice_index (xor_into i b x) n) e ∙ get_or-set_same x i (bit_xor (slice_index x i) b) 0 inside))
          (xor_lt 8 (slice_index x i) b (k.1 i hi) hb))
          (λ (e : j ≡ i → ⊥).
          subst (λ (n : ℕ). n < 256) (sym (get_or-set_other x i j (bit_xor (slice_index x i) b) 0 e)) (k.1 j h))
          (cases_eq j i),
    )

-- bytes 1 to 31 of a block, and a byte
shift_block : (x : List ℕ) (d : ℕ) → Block x → d < 256 → Block (drop 1 x ++ d ∷ [])
shift_block x d k hd =
    let rest : length (drop 1 x) ≡ 31 = simp length-drop (omega arith) in (
      simp (length-append, length-drop) (omega arith),
      λ j h.
          ⊎_elim
          (λ (l : j < 31).
          let inside : j < length (drop 1 x) = omega arith in
          subst (λ (n : ℕ). n < 256) (sym (get_or_append_left (drop 1 x) (d ∷ []) 0 j inside ∙ get_or-drop 1 x j 0)) (k.1 (1 + j) (omega arith)))
          (λ (l : 31 ≤ j).
          let last : j ≡ 31 = omega arith in
          subst (λ (n : ℕ). n < 256)
          (sym (ap (λ n. slice_index (drop 1 x ++ d ∷ []) n) last ∙ get_or-append_right (drop 1 x) (d ∷ []) 31 31 0 rest (omega arith))) hd)
          (cases_lt j 31),
    )

pub step_block : (x : List ℕ) → Block x → Block (step x)
unfolding step
step_block x k =
    let first : slice_index_or x 0 0 < 256 = k.1 0 (omega arith) in
    into_block 29 (slice_index x 0) _ (omega arith) first
    (into_block 28 (slice_index x 0) _ (omega arith) first (shift_block x (doubled (slice_index x 0)) k (doubled_byte (slice_index x 0) first)))

pub turn_block : (x : List ℕ) → Block x → Block (turn x)
unfolding turn
turn_block x k = xor_block (step x) x (step_block x k) k

pub mask_block : (i j : ℕ) (x : List ℕ) → Block x → Block (mask i j x)
mask_block i j x k = times_keeps Block turn turn_block j (times i step x) (times_keeps Block step step_block i x k)
