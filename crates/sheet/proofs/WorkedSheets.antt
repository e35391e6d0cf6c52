-- The worked values, computed, and the two refusals that belong to them.
use Rattle.std.proofs.Common.{◌≡◌, ℕ, ◌<◌, ◌≤◌, not, eqb, ltb, List, [], ◌∷◌, length, get_or, is_some, None, Err, refl, ap, ◌∙◌, arith}
use Rattle.std.proofs.lemmas.Bool.{cond-true, cond-false, eq-eqb, ne_eqb, lt-ltb, le-ltb, not_from_true, not_from_false, or_from}
use Rattle.permutation.specs.Blocks.{xors}
use Rattle.permutation.specs.Minalpher.{forward, rounds, round}
use Rattle.modes.specs.Cipher.{base, masked}
use Rattle.modes.specs.Keys.{bad_key, bad_nonce, bad_tag}
use Rattle.modes.specs.Masks.{step, turn}
use Rattle.modes.specs.PlateLaws.{true_same}
use Rattle.modes.specs.RefusalLaws.{taken_more}
use Rattle.modes.specs.Sums.{block_at, xor_to, same, too_long}
use Rattle.modes.specs.Sums as sums
use Rattle.modes.specs.Worked as modes
use Rattle.sheet.specs.Calls.{text_too_long, not_empty, no_room, no_blocks, wrong_tag, bad_padding, state_with, last_plain, found_length, seal_answer, open_answer}
use Rattle.sheet.specs.Ciphers.{Cipher}
use Rattle.sheet.specs.Sealing.{sealed, adds, total, tag_of, end_within, text_end}
use Rattle.sheet.specs.Worked.{WorkedValues}
use Rattle.sheet.proofs.Ending.{end_at_last}

forty : (p : List ℕ) (n : ℕ) → n < 32 → get_or p n 0 ≡ 0x40 → ((j : ℕ) → n < j → j < 32 → get_or p j 0 ≡ 0x00) → text_end p ≡ None
forty p n l m z = end_at_last p n l (λ e. omega arith) z ∙ cond-false _ _ _ (ne_eqb (get_or p n 0) 0x80 (λ e. omega arith))

too_long_by_one : (c : Cipher) (key nonce label text : List ℕ) (limit : ℕ) (bs : List (List ℕ))
    → length key ≡ 16 → length nonce ≡ 13 → length label ≤ 4096 → length text ≡ 131072
    → seal_answer c key nonce label text limit bs ≡ Err (text_too_long (length text)).told
too_long_by_one c key nonce label text limit bs hk hn hl ht =
    let v = state_with c key nonce label (sealed c text) (length text) in
    taken_more (bad_key key) (bad_nonce nonce ∷ too_long label ∷ text_too_long (length text) ∷ not_empty bs ∷ no_room limit (length text) ∷ []) v
    (not_from_true (eqb (length key) 16) (eq-eqb (length key) 16 hk))
    ∙ taken_more (bad_nonce nonce) (too_long label ∷ text_too_long (length text) ∷ not_empty bs ∷ no_room limit (length text) ∷ []) v
    (not_from_true (eqb (length nonce) 13) (eq-eqb (length nonce) 13 hn))
    ∙ taken_more (too_long label) (text_too_long (length text) ∷ not_empty bs ∷ no_room limit (length text) ∷ []) v (le-ltb 4096 (length label) hl)
    ∙ cond-true (ltb 131071 (length text)) _ _ (lt-ltb 131071 (length text) (omega arith))

unpadded : (c : Cipher) (key nonce label : List ℕ) (bs : List (List ℕ))
    → length key ≡ 16 → length nonce ≡ 13 → length (tag_of c label bs) ≡ 16 → length label ≤ 4096 → 0 < length bs → length bs ≤ 4096
    → text_end (last_plain c bs) ≡ None → open_answer c key nonce label (tag_of c label bs) bs ≡ Err (bad_padding (last_plain c bs)).told
unpadded c key nonce label bs hk hn ht hl some few none =
    let v = state_with c key nonce label bs (found_length c bs) in
    let tag = tag_of c label bs in
    taken_more (bad_key key) (bad_nonce nonce ∷ bad_tag tag ∷ too_long label ∷ no_blocks bs ∷ wrong_tag tag tag ∷ bad_padding (last_plain c bs) ∷ []) v
    (not_from_true (eqb (length key) 16) (eq-eqb (length key) 16 hk))
    ∙ taken_more (bad_nonce nonce) (bad_tag tag ∷ too_long label ∷ no_blocks bs ∷ wrong_tag tag tag ∷ bad_padding (last_plain c bs) ∷ []) v
    (not_from_true (eqb (length nonce) 13) (eq-eqb (length nonce) 13 hn))
    ∙ taken_more (bad_tag tag) (too_long label ∷ no_blocks bs ∷ wrong_tag tag tag ∷ bad_padding (last_plain c bs) ∷ []) v
    (not_from_true (eqb (length tag) 16) (eq-eqb (length tag) 16 ht))
    ∙ taken_more (too_long label) (no_blocks bs ∷ wrong_tag tag tag ∷ bad_padding (last_plain c bs) ∷ []) v (le-ltb 4096 (length label) hl)
    ∙ taken_more (no_blocks bs) (wrong_tag tag tag ∷ bad_padding (last_plain c bs) ∷ []) v
    (or_from (eqb (length bs) 0) (ltb 4096 (length bs)) (ne_eqb (length bs) 0 (λ h. omega arith)) (le-ltb 4096 (length bs) few))
    ∙ taken_more (wrong_tag tag tag) (bad_padding (last_plain c bs) ∷ []) v (not_from_true (same tag tag) (true_same tag tag refl))
    ∙ cond-true (not (is_some (text_end (last_plain c bs)))) _ _ (not_from_false (is_some (text_end (last_plain c bs))) (ap is_some none))

pub worked : modes.WorkedValues → WorkedValues
unfolding sealed total adds text_end end_within block_at xor_to sums.label_sum base masked step turn xors forward rounds round
worked m = record {
  of_the_modes = m;
  empty_block = refl;
  empty_tag = refl;
  one_block = (refl, refl);
  two_blocks = refl;
  most_blocks = refl;
  one_byte_more = too_long_by_one;
  that_is_eight = refl;
  zeros_unpadded = refl;
  forty_unpadded = forty;
  unpadded_declined = unpadded;
  that_is_seventeen = refl;
}
