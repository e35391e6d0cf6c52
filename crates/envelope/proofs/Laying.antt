-- What is taken apart is an envelope, and every envelope is taken apart.
use Rattle.std.proofs.Common.{◌≡◌, ℕ, ◌+◌, ◌*◌, ◌≤◌, eqb, ltb, List, [], ◌∷◌, ◌++◌, length, take, drop, Some, Ok, Result, sym, refl, ap, ◌∙◌, subst, ap₂, arith, length-drop, length-take}
use Rattle.std.proofs.lemmas.List.{take-append-drop, drop-drop, take_all, take_at, drop_at}
use Rattle.std.proofs.lemmas.Bool.{eqb-true, le-ltb, not-false, or_from}
use Rattle.modes.specs.PlateLaws.{same_true}
use Rattle.modes.specs.declared.refusal.Refusal.{Refusal}
use Rattle.modes.specs.Refusals.{Claim, answer}
use Rattle.modes.specs.RefusalLaws.{answer_ok, taken_rest}
use Rattle.modes.specs.Sums.{same}
use Rattle.envelope.specs.Layouts.{mark, Fields, Laid}
use Rattle.envelope.specs.Numbers.{Encodes}
use Rattle.envelope.specs.Parsing.{value_of, taken_of, number_at, outside, bad_number, no_mark, label_size, count_place, block_count, nonce_place, told_length, bad_length, parse_claims, parse_answer, part, fields_in, ParsesExactly}
use Rattle.envelope.proofs.Numbering.{reads_exactly}
use Rattle.envelope.proofs.Walking.{inside_is, SoundEnvelope, parsed}

-- n bytes, and what is known to stand behind them
split : (xs : List ℕ) (at n : ℕ) {r : List ℕ} → drop (at + n) xs ≡ r → drop at xs ≡ take n (drop at xs) ++ r
split xs at n e = sym (take-append-drop n (drop at xs)) ∙ ap (λ r. take n (drop at xs) ++ r) (drop-drop n at xs ∙ e)

-- where p stands at a place, it is the part there, and what follows stands behind it
at_part : (xs p q : List ℕ) (at n : ℕ) → drop at xs ≡ p ++ q → length p ≡ n → (take n (drop at xs) ≡ p) × (drop (at + n) xs ≡ q)
at_part xs p q at n e size = (ap (take n) e ∙ take_at p q n size, sym (drop-drop n at xs) ∙ ap (drop n) e ∙ drop_at p q n size)

same_fields : (f g : Fields) → f.nonce ≡ g.nonce → f.label ≡ g.label → f.blocks ≡ g.blocks → f.tag ≡ g.tag → f ≡ g
same_fields f g n l b t =
    ap₂ (λ x y. record { nonce = x; label = y; blocks = f.blocks; tag = f.tag }) n l
    ∙ ap₂ (λ x y. record { nonce = g.nonce; label = g.label; blocks = x; tag = y }) b t

pub sound : {A : Type 0} (bytes : List ℕ) (more : List Claim) (x v : A) → Ok v ≡ answer (parse_claims bytes ++ more) x → SoundEnvelope bytes
sound bytes more x v h =
    let a = bad_number 0 4096 bytes 2 in
    let b = bad_number 1 4096 bytes (count_place bytes) in
    let m = taken_rest (no_mark bytes) (a ∷ b ∷ bad_length bytes ∷ more) x v h in
    let l = taken_rest a (b ∷ bad_length bytes ∷ more) x v m.1 in
    let n = taken_rest b (bad_length bytes ∷ more) x v l.1 in
    let t = taken_rest (bad_length bytes) more x v n.1 in
    record {
      marked = not-false (same (take 2 bytes) mark) m.0;
      label_inside = l.0;
      count_inside = n.0;
      length_told = eqb-true (length bytes) (told_length bytes) (not-false (eqb (length bytes) (told_length bytes)) t.0);
    }

pub sound_laid : (bytes : List ℕ) → SoundEnvelope bytes → Laid bytes (fields_in bytes)
sound_laid bytes s =
    let l = inside_is 0 4096 (number_at bytes 2) s.label_inside in
    let n = inside_is 1 4096 (number_at bytes (count_place bytes)) s.count_inside in
    let rl = (reads_exactly (drop 2 bytes)).taken_encodes (label_size bytes) (taken_of (number_at bytes 2)) l.is in
    let rn = (reads_exactly (drop (count_place bytes) bytes)).taken_encodes (block_count bytes) (taken_of (number_at bytes (count_place bytes))) n.is in
    let told = s.length_told in
    let p = nonce_place bytes in
    let size = label_size bytes in
    let wide = 32 * block_count bytes in
    let label_long : length (take size (drop (p + 13) bytes)) ≡ size = simp (length-take, length-drop) (omega arith) in
    let all : length (drop (p + 13 + size + wide) bytes) ≤ 16 = simp length-drop (omega arith) in
    record {
      count = block_count bytes;
      label_form = take (taken_of (number_at bytes 2)) (drop 2 bytes);
      count_form = take (taken_of (number_at bytes (count_place bytes))) (drop (count_place bytes) bytes);
      label_told = subst (λ k. Encodes k (take (taken_of (number_at bytes 2)) (drop 2 bytes))) (sym label_long) rl.1;
      count_told = rn.1;
      nonce_size = simp (length-take, length-drop) (omega arith);
      label_short = omega (arith, label_long, l.most);
      some_blocks = omega (arith, n.least);
      few_blocks = n.most;
      whole_blocks = simp (length-take, length-drop) (omega arith);
      tag_size = simp (length-take, length-drop) (omega arith);
      bytes_are =
          sym (take-append-drop 2 bytes)
          ∙ ap₂ (λ x y. x ++ y) (same_true (take 2 bytes) mark s.marked)
          (split bytes 2 (taken_of (number_at bytes 2))
          (split bytes (count_place bytes) (taken_of (number_at bytes (count_place bytes)))
          (split bytes p 13 (split bytes (p + 13) size (split bytes (p + 13 + size) wide (sym (take_all 16 (drop (p + 13 + size + wide) bytes) all)))))));
    }

module _ (xs : List ℕ) (f : Fields) (g : Laid xs f) where
  tail : List ℕ
  tail = f.nonce ++ (f.label ++ (f.blocks ++ f.tag))

  at_label : drop 2 xs ≡ g.label_form ++ (g.count_form ++ tail)
  unfolding tail
  at_label = ap (drop 2) g.bytes_are

  label_is : number_at xs 2 ≡ Some (length f.label, length g.label_form)
  label_is = (reads_exactly (drop 2 xs)).encodes_taken (length f.label) g.label_form (g.count_form ++ tail) g.label_told at_label

  at_count : drop (count_place xs) xs ≡ g.count_form ++ tail
  at_count =
      ap (λ o. drop (2 + taken_of o) xs) label_is
      ∙ (at_part xs g.label_form (g.count_form ++ tail) 2 (length g.label_form) at_label refl).1

  count_is : number_at xs (count_place xs) ≡ Some (g.count, length g.count_form)
  count_is = (reads_exactly (drop (count_place xs) xs)).encodes_taken g.count g.count_form tail g.count_told at_count

  at_nonce : drop (nonce_place xs) xs ≡ f.nonce ++ (f.label ++ (f.blocks ++ f.tag))
  unfolding tail
  at_nonce =
      ap (λ o. drop (count_place xs + taken_of o) xs) count_is
      ∙ (at_part xs g.count_form tail (count_place xs) (length g.count_form) at_count refl).1

  label_size_is : length f.label ≡ label_size xs
  label_size_is = sym (ap value_of label_is)

  count_size_is : g.count ≡ block_count xs
  count_size_is = sym (ap value_of count_is)

  nonce_there : (part xs (nonce_place xs) 13 ≡ f.nonce) × (drop (nonce_place xs + 13) xs ≡ f.label ++ (f.blocks ++ f.tag))
  nonce_there = at_part xs f.nonce (f.label ++ (f.blocks ++ f.tag)) (nonce_place xs) 13 at_nonce g.nonce_size

  label_there : (part xs (nonce_place xs + 13) (label_size xs) ≡ f.label) × (drop (nonce_place xs + 13 + label_size xs) xs ≡ f.blocks ++ f.tag)
  label_there = at_part xs f.label (f.blocks ++ f.tag) (nonce_place xs + 13) (label_size xs) nonce_there.1 label_size_is

  blocks_there : (part xs (nonce_place xs + 13 + label_size xs) (32 * block_count xs) ≡ f.blocks)
      × (drop (nonce_place xs + 13 + label_size xs + 32 * block_count xs) xs ≡ f.tag)
  blocks_there =
      at_part xs f.blocks f.tag (nonce_place xs + 13 + label_size xs) (32 * block_count xs) label_there.1 (g.whole_blocks ∙ ap (λ m. 32 * m) count_size_is)

  pub laid_fields : fields_in xs ≡ f
  laid_fields =
      same_fields (fields_in xs) f nonce_there.0 label_there.0 blocks_there.0
      (ap (take 16) blocks_there.1 ∙ take_all 16 f.tag (omega (arith, g.tag_size)))

  pub laid_sound : SoundEnvelope xs
  laid_sound =
      let p = nonce_place xs + 13 + label_size xs + 32 * block_count xs in
      let some = g.some_blocks in
      let few = g.few_blocks in
      let short = g.label_short in
      record {
        marked = ap (λ x. same (take 2 x) mark) g.bytes_are;
        label_inside =
            ap (outside 0 4096) label_is
            ∙ or_from (ltb (length f.label) 0) (ltb 4096 (length f.label)) (le-ltb (length f.label) 0 (omega arith)) (le-ltb 4096 (length f.label) short);
        count_inside =
            ap (outside 1 4096) count_is
            ∙ or_from (ltb g.count 1) (ltb 4096 g.count) (le-ltb g.count 1 (omega arith)) (le-ltb 4096 g.count few);
        length_told = omega (arith, length-drop p xs, ap length blocks_there.1, g.tag_size);
      }

  pub laid_parsed : parse_answer xs ≡ Ok f
  laid_parsed =
      parsed xs laid_sound ∙ ap Ok laid_fields

pub parses_exactly : (bytes : List ℕ) → ParsesExactly bytes (parse_answer bytes)
parses_exactly bytes = record {
  taken_laid = λ f h.
      let is : f ≡ fields_in bytes = (answer_ok (parse_claims bytes) (fields_in bytes) f f h).0 in
      subst (Laid bytes) (sym is) (sound_laid bytes (sound bytes [] (fields_in bytes) f (sym h)));
  laid_taken = λ f g. laid_parsed bytes f g;
}

pub exact_parsing : (bytes : List ℕ) (r : Result Fields Refusal) → r ≡ parse_answer bytes → ParsesExactly bytes r
exact_parsing bytes r e = subst (ParsesExactly bytes) (sym e) (parses_exactly bytes)
