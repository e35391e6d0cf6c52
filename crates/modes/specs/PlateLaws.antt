-- A plate check says yes exactly for the plate's MAC.
use Rattle.std.specs.Prelude.{◌≡◌, ℕ, true, List, [], ◌∷◌, length, Ok, Result, ◌==◌, refl}
use Rattle.std.proofs.Common.{sym, ap, subst, ◌∙◌, arith}
use Rattle.std.proofs.lemmas.List.{length-take}
use Rattle.std.proofs.lemmas.Bool.{eq-eqb, not_from_true, not-false, and_parts, and_from, eqb-true}
use Rattle.permutation.specs.BlockLaws.{length_xors}
use Rattle.modes.specs.declared.cipher.Usage.TheVariants.{Plate}
use Rattle.modes.specs.declared.refusal.Refusal.{Refusal}
use Rattle.modes.specs.Cipher.{base, masked}
use Rattle.modes.specs.Keys.{bad_key, bad_tag}
use Rattle.modes.specs.RefusalLaws.{answer_ok, taken_rest, taken_more}
use Rattle.modes.specs.Sums.{chain, plate_mac, zero_nonce, same, too_long, wrong_tag, sum_claims, mac_answer, check_answer, ExactlyItsMac}

-- lists are the same exactly where the test says so
pub same_true : (x y : List ℕ) → same x y ≡ true → x ≡ y
same_true [] [] h = refl
same_true [] (b ∷ y) h = let z : ◌≡◌ {A = ℕ} 0 1 = cc in absurd (omega arith)
same_true (a ∷ x) [] h = let z : ◌≡◌ {A = ℕ} 0 1 = cc in absurd (omega arith)
same_true (a ∷ x) (b ∷ y) h =
    let p = and_parts (a == b) (same x y) h in
    let e = eqb-true a b p.0 in
    let t = same_true x y p.1 in
    cc

same_refl : (x : List ℕ) → same x x ≡ true
same_refl [] = refl
same_refl (a ∷ x) = and_from (a == a) (same x x) (eq-eqb a a refl) (same_refl x)

pub true_same : (x y : List ℕ) → x ≡ y → same x y ≡ true
true_same x y e = ap (λ z. same x z) (sym e) ∙ same_refl x

module _ (forth : List ℕ → List ℕ) (key plate : List ℕ) where
  pub length_chain : (l : List ℕ) → length (chain forth l plate) ≡ 32
  unfolding chain masked
  length_chain l = length_xors 32 _ _

  pub length_mac : length (plate_mac forth key plate) ≡ 16
  unfolding plate_mac
  length_mac = simp length-take (omega (arith, length_chain (base forth key Plate zero_nonce)))

  module _ (tag : List ℕ) where
    -- a check that is taken has found no sentence true
    yes_mac : check_answer forth key plate tag ≡ Ok tt → mac_answer forth key plate ≡ Ok tag
    yes_mac h =
        let mac = plate_mac forth key plate in
        let k = taken_rest (bad_key key) (bad_tag tag ∷ too_long plate ∷ wrong_tag tag mac ∷ []) tt tt (sym h) in
        let t = taken_rest (bad_tag tag) (too_long plate ∷ wrong_tag tag mac ∷ []) tt tt k.1 in
        let l = taken_rest (too_long plate) (wrong_tag tag mac ∷ []) tt tt t.1 in
        let w = taken_rest (wrong_tag tag mac) [] tt tt l.1 in
        taken_more (bad_key key) (too_long plate ∷ []) mac k.0 ∙ taken_more (too_long plate) [] mac l.0
        ∙ ap Ok (sym (same_true tag mac (not-false (same tag mac) w.0)))

    mac_yes : mac_answer forth key plate ≡ Ok tag → check_answer forth key plate tag ≡ Ok tt
    mac_yes h =
        let mac = plate_mac forth key plate in
        let is : tag ≡ mac = (answer_ok (sum_claims key plate) mac tag tag h).0 in
        let k = taken_rest (bad_key key) (too_long plate ∷ []) mac tag (sym h) in
        let l = taken_rest (too_long plate) [] mac tag k.1 in
        let size : length tag ≡ 16 = ap length is ∙ length_mac in
        taken_more (bad_key key) (bad_tag tag ∷ too_long plate ∷ wrong_tag tag mac ∷ []) tt k.0
        ∙ taken_more (bad_tag tag) (too_long plate ∷ wrong_tag tag mac ∷ []) tt (not_from_true (length tag == 16) (eq-eqb (length tag) 16 size))
        ∙ taken_more (too_long plate) (wrong_tag tag mac ∷ []) tt l.0
        ∙ taken_more (wrong_tag tag mac) [] tt (not_from_true (same tag mac) (true_same tag mac is))

    pub exactly_its_mac : ExactlyItsMac forth key plate tag (check_answer forth key plate tag)
    exactly_its_mac = (yes_mac, mac_yes)

    pub exactly_at : (r : Result (Unit {0}) Refusal) → r ≡ check_answer forth key plate tag → ExactlyItsMac forth key plate tag r
    exactly_at r e = subst (λ a. ExactlyItsMac forth key plate tag a) (sym e) exactly_its_mac
