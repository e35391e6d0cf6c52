-- What a call of the tweakable cipher gave is undone by the other way.
use Rattle.std.proofs.Common.{◌≡◌, List, ℕ, Ok, sym, subst, ap, ◌∙◌}
use Rattle.permutation.specs.Blocks.{Block}
use Rattle.modes.specs.declared.mask.Mask.{Mask}
use Rattle.modes.specs.Cipher.{masked}
use Rattle.modes.specs.CipherLaws.{masked_undone}
use Rattle.modes.specs.RefusalLaws.{answer_ok}
use Rattle.modes.specs.Refusals.{Claim, answer}

pub given_undone : (f g : List ℕ → List ℕ) → ((x : List ℕ) → Block x → Block (f x)) → ((x : List ℕ) → Block x → g (f x) ≡ x)
    → (claims : List Claim) (p : Mask × List ℕ) (w : Mask) (x y : List ℕ) → Ok (w, x) ≡ answer claims p
    → y ≡ masked f w.bytes x → Block w.bytes → Block x → masked g p.0.bytes y ≡ p.1
given_undone f g keeps undoes claims p w x y taken made hw hx =
    subst (λ (q : Mask × List ℕ). masked g q.0.bytes y ≡ q.1) (answer_ok claims p (w, x) y (sym taken)).0
    (ap (masked g w.bytes) made ∙ masked_undone f g keeps undoes w.bytes x hw hx)
