use Rattle.std.proofs.Common.{◌≡◌, ℕ, ◌+◌, List, [], ◌++◌, length, take, drop, replicate, refl, ap, ◌∙◌, append_assoc, append-nil, arith, rules}
use Rattle.std.proofs.lemmas.List.{length-append}
use Rattle.modes.proofs.Placing.{placed_after}
use Rattle.modes.proofs.cipher.header.Goals as goal

abbrev over : ℕ → List ℕ → List ℕ → List ℕ
over n p x = take n x ++ (p ++ drop (n + length p) x)

pub returns : goal.returns
returns c =
    let k = c.args.key.bytes in
    let u = c.bytes.result in
    let n = c.args.nonce.bytes in
    let z : List ℕ = replicate 32 0 in
    let lk : length k ≡ 16 = search rules in
    let lu : length u ≡ 3 = search rules in
    let ln : length n ≡ 13 = search rules in
    let lku : length (k ++ u) ≡ 19 = simp length-append (omega arith) in
    let one : c.placed-keyed.result ≡ k ++ drop (length k) z = c.placed-keyed.ensures ∙ placed_after [] z k 0 refl in
    let two : c.placed-used.result ≡ (k ++ u) ++ drop (length u) (drop (length k) z) =
    c.placed-used.ensures ∙ ap (over 16 u) one ∙ placed_after k (drop (length k) z) u 16 lk in
    let three = c.placed.ensures ∙ ap (over 19 n) two ∙ placed_after (k ++ u) (drop (length u) (drop (length k) z)) n 19 lku in
    let none : drop (length n) (drop (length u) (drop (length k) z)) ≡ [] =
    ap (λ a. drop a (drop (length u) (drop (length k) z))) ln
    ∙ ap (λ a. drop 13 (drop a (drop (length k) z))) lu
    ∙ ap (λ a. drop 13 (drop 3 (drop a z))) lk in
    three ∙ ap (λ a. ((k ++ u) ++ n) ++ a) none ∙ append-nil ((k ++ u) ++ n) ∙ append_assoc k u n
    ∙ ap (λ a. k ++ (a ++ n)) c.bytes.ensures
