use Rattle.std.proofs.Common.{◌≡◌, ℕ, ◌+◌, ◌*◌, ◌≤◌, length, take, Ok, Err, sym, refl, ap, ◌∙◌, subst, arith, rules}
use Rattle.std.proofs.lemmas.Result.{err_from_is_err_and}
use Rattle.envelope.specs.Numbers.{number_in}
use Rattle.envelope.specs.Parsing.{taken_of, count_place, nonce_place}
use Rattle.envelope.specs.declared.reader.Reader.{Reader}
use Rattle.envelope.specs.Readers.{rest_of, moved}
use Rattle.envelope.proofs.Laying.{exact_parsing}
use Rattle.envelope.proofs.Walking.{Judged, reader, count_declined, parts_taken}
use Rattle.envelope.proofs.parts.parse.Goals as goal

pub returns-in_err-label-clause-exactly : goal.returns-in_err-label-clause-exactly
returns-in_err-label-clause-exactly c = exact_parsing _ _ (search rules)

pub returns-in_err-count : goal.returns-in_err-count
returns-in_err-count c =
    let b = c.args.bytes in
    let label = c.in_ok-label.label in
    let p = err_from_is_err_and c.from_residual-in_err-count.result c.from_residual-in_err-count.ensures.1 in
    let at_mark : c.mark.new.self ≡ reader b 2 = search rules in
    let at_label : c.number_within.new.self ≡ reader b (count_place b.now) =
    c.in_ok-label.ensures.after ∙ ap (λ r. moved r (taken_of (number_in (rest_of r)))) at_mark in
    let value =
    count_declined b.now label c.in_err-count.field-0.0 (search rules)
    (subst (λ r. Judged 0 4096 r (Ok label)) at_mark c.in_ok-label.ensures.value)
    (subst (λ r. Judged 1 4096 r (Err c.in_err-count.field-0.0)) at_label c.in_err-count.ensures.value) in
    rw (p.1, p.2) (record { value = value; exactly = exact_parsing b.now _ value })

pub returns-then-bytes-told-clause-exactly : goal.returns-then-bytes-told-clause-exactly
returns-then-bytes-told-clause-exactly c = exact_parsing _ _ (search rules)

pub returns : goal.returns
returns c =
    let b = c.args.bytes in
    let label = c.in_ok-label.label in
    let count = c.in_ok-count.count in
    let at_mark : c.mark.new.self ≡ reader b 2 = search rules in
    let at_label : c.number_within.new.self ≡ reader b (count_place b.now) =
    c.in_ok-label.ensures.after ∙ ap (λ r. moved r (taken_of (number_in (rest_of r)))) at_mark in
    let at_count : c.number_within-2.new.self ≡ reader b (nonce_place b.now) =
    c.in_ok-count.ensures.after ∙ ap (λ r. moved r (taken_of (number_in (rest_of r)))) at_label in
    let p = nonce_place b.now in
    let told : length b.now ≡ p + 13 + label + 32 * count + 16 = omega (arith, c.if-bytes-told.false, c.place.ensures, ap (λ r. r.place) at_count) in
    let fits = λ (r : Reader) (at n : ℕ) (here : r ≡ reader b at) (room : at + n ≤ length b.now).
    subst (λ (x : Reader). x.place + n ≤ length x.bytes.now) (sym here) room in
    let at_nonce : c.part.new.self ≡ reader b (p + 13) = c.part.ensures.whole (fits _ _ _ at_count (omega arith)) ∙ ap (λ r. moved r 13) at_count in
    let at_name : c.part-2.new.self ≡ reader b (p + 13 + label) = c.part-2.ensures.whole (fits _ _ _ at_nonce (omega arith)) ∙ ap (λ r. moved r label) at_nonce in
    let at_blocks : c.part-3.new.self ≡ reader b (p + 13 + label + 32 * count) =
    c.part-3.ensures.whole (fits _ _ _ at_name (omega arith)) ∙ ap (λ r. moved r (32 * count)) at_name in
    let value =
    parts_taken b.now label count p c.part.result.now c.part-2.result.now c.part-3.result.now c.part-4.result.now (search rules)
    (subst (λ r. Judged 0 4096 r (Ok label)) at_mark c.in_ok-label.ensures.value)
    (subst (λ r. Judged 1 4096 r (Ok count)) at_label c.in_ok-count.ensures.value)
    refl told
    (c.part.ensures.value ∙ ap (λ r. take 13 (rest_of r)) at_count)
    (c.part-2.ensures.value ∙ ap (λ r. take label (rest_of r)) at_nonce)
    (c.part-3.ensures.value ∙ ap (λ r. take (32 * count) (rest_of r)) at_name)
    (c.part-4.ensures.value ∙ ap (λ r. take 16 (rest_of r)) at_blocks) in
    record { value = value; exactly = exact_parsing b.now _ value }
