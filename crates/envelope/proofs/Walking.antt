-- A reader's walk through an envelope.
use Rattle.std.proofs.Common.{◌≡◌, ℕ, ◌+◌, ◌*◌, ◌≤◌, true, false, cond, ltb, List, [], ◌∷◌, length, take, ◌++◌, Some, None, Ok, Err, Option, Result, sym, refl, arith, Bor}
use Rattle.std.proofs.lemmas.Bool.{eq-eqb, ltb-false, or_parts}
use Rattle.modes.specs.declared.refusal.Refusal.{Refusal}
use Rattle.modes.specs.Refusals.{Claim, answer}
use Rattle.modes.specs.RefusalLaws.{answer_ok, taken_rest}
use Rattle.modes.specs.Sums.{same}
use Rattle.envelope.specs.declared.reader.Reader.{Reader}
use Rattle.envelope.specs.Layouts.{mark}
use Rattle.envelope.specs.Numbers.{number_in}
use Rattle.envelope.specs.Parsing.{value_of, taken_of, number_at, outside, bad_number, count_place, nonce_place, told_length, bad_length, parse_answer, part, fields_in}
use Rattle.envelope.specs.Readers.{rest_of}

-- a number within its range: there is one
pub record In_range (low high : ℕ) (o : Option (ℕ × ℕ)) : Type 0 where
  pub least : low ≤ value_of o
  pub most : value_of o ≤ high
  pub is : o ≡ Some (value_of o, taken_of o)

pub inside_is : (low high : ℕ) (o : Option (ℕ × ℕ)) → outside low high o ≡ false → In_range low high o
inside_is low high None h = absurd (cc)
inside_is low high (Some p) h =
    let b = or_parts (ltb p.0 low) (ltb high p.0) h in
    record { least = ltb-false p.0 low b.0; most = ltb-false high p.0 b.1; is = refl }

pub number_taken : (low high : ℕ) (bytes : List ℕ) (at n : ℕ) → Ok n ≡ answer (bad_number low high bytes at ∷ []) (value_of (number_at bytes at))
    → (n ≡ value_of (number_at bytes at)) × (outside low high (number_at bytes at) ≡ false)
number_taken low high bytes at n h =
    let c = bad_number low high bytes at in
    let v = value_of (number_at bytes at) in
    ((answer_ok (c ∷ []) v n n (sym h)).0, (taken_rest c [] v n h).0)

-- why an envelope was taken apart
pub record SoundEnvelope (bytes : List ℕ) : Type 0 where
  pub marked : same (take 2 bytes) mark ≡ true
  pub label_inside : outside 0 4096 (number_at bytes 2) ≡ false
  pub count_inside : outside 1 4096 (number_at bytes (count_place bytes)) ≡ false
  pub length_told : length bytes ≡ told_length bytes

pub parsed : (bytes : List ℕ) → SoundEnvelope bytes → parse_answer bytes ≡ Ok (fields_in bytes)
parsed bytes s = rw (s.marked, s.label_inside, s.count_inside, eq-eqb (length bytes) (told_length bytes) s.length_told)

-- a call that is declined is declined alike with more sentences behind
pub err_more : {A B : Type 0} (cs more : List Claim) (x : A) (y : B) (e : Refusal) → answer cs x ≡ Err e → answer (cs ++ more) y ≡ Err e
err_more [] more x y e h = absurd (cc)
err_more {A} {B} (c ∷ cs) more x y e h =
    (elim c.holds as (λ b. cond b (Err c.told) (answer cs x) ≡ Err e → cond b (Err c.told) (answer (cs ++ more) y) ≡ Err e)
    [ true ↦ (λ k. cc) | false ↦ (λ k. err_more cs more x y e k) ]) h

-- the count is declined, where mark and label length are right
pub count_declined : (bytes : List ℕ) (label : ℕ) (e : Refusal) → same (take 2 bytes) mark ≡ true
    → Ok label ≡ answer (bad_number 0 4096 bytes 2 ∷ []) (value_of (number_at bytes 2))
    → Err e ≡ answer (bad_number 1 4096 bytes (count_place bytes) ∷ []) (value_of (number_at bytes (count_place bytes)))
    → Err e ≡ parse_answer bytes
count_declined bytes label e marked labelled declined =
    let l = number_taken 0 4096 bytes 2 label labelled in
    rw (marked, l.1) (sym (err_more (bad_number 1 4096 bytes (count_place bytes) ∷ []) (bad_length bytes ∷ []) _ (fields_in bytes) e (sym declined)))

-- how a number within a range is answered where a reader stands
abbrev pub Judged : ℕ → ℕ → Reader → Result ℕ Refusal → Type 0
Judged low high r answered = answered ≡ answer (bad_number low high r.bytes.now r.place ∷ []) (value_of (number_in (rest_of r)))

abbrev pub reader : Bor (List ℕ) → ℕ → Reader
reader b n = record { bytes = b; place = n }

-- the parts, where mark, numbers and length are right
pub parts_taken : (bytes : List ℕ) (label count p : ℕ) (nonce name blocks tag : List ℕ) → same (take 2 bytes) mark ≡ true
    → Ok label ≡ answer (bad_number 0 4096 bytes 2 ∷ []) (value_of (number_at bytes 2))
    → Ok count ≡ answer (bad_number 1 4096 bytes (count_place bytes) ∷ []) (value_of (number_at bytes (count_place bytes)))
    → p ≡ nonce_place bytes → length bytes ≡ p + 13 + label + 32 * count + 16
    → nonce ≡ part bytes p 13 → name ≡ part bytes (p + 13) label → blocks ≡ part bytes (p + 13 + label) (32 * count)
    → tag ≡ part bytes (p + 13 + label + 32 * count) 16
    → Ok (record { nonce = nonce; label = name; blocks = blocks; tag = tag }) ≡ parse_answer bytes
parts_taken bytes label count p nonce name blocks tag marked labelled counted here told is_nonce is_name are_blocks is_tag =
    let l = number_taken 0 4096 bytes 2 label labelled in
    let n = number_taken 1 4096 bytes (count_place bytes) count counted in
    let size = l.0 in
    let amount = n.0 in
    let told_is : length bytes ≡ told_length bytes = omega arith in
    rw (is_nonce, is_name, are_blocks, is_tag, here, size, amount) (sym (parsed bytes (record { marked = marked; label_inside = l.1; count_inside = n.1; length_told = told_is })))
