-- Masks two steps a block, and the blocks of a text that lie behind its first bytes.
use Rattle.std.proofs.Common.{◌≡◌, ℕ, ◌+◌, ◌-◌, ◌*◌, List, sym, ap, ◌∙◌, arith}
use Rattle.modes.specs.Masks.{times, step}
use Rattle.modes.specs.MaskLaws.{times_more}

-- from mask 2k one step on is the mask that seals block k + 1, and two steps on the mask that it adds itself at
module _ (l : List ℕ) (k : ℕ) (m : List ℕ) (h : m ≡ times (2 * k) step l) where
  pub odd_mask : (o : List ℕ) → o ≡ step m → o ≡ times (2 * (k + 1) - 1) step l
  odd_mask o e =
      let place : 2 * k + 1 ≡ 2 * (k + 1) - 1 = omega arith in
      e ∙ ap step h ∙ sym (times_more (2 * k) step l) ∙ ap (λ n. times n step l) place

  pub even_mask : (o w : List ℕ) → o ≡ step m → w ≡ step o → w ≡ times (2 * (k + 1)) step l
  even_mask o w e f =
      let place : 2 * (k + 1) - 1 + 1 ≡ 2 * (k + 1) = omega arith in
      f ∙ ap step (odd_mask o e) ∙ sym (times_more (2 * (k + 1) - 1) step l) ∙ ap (λ n. times n step l) place
