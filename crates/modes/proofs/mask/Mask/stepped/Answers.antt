use Rattle.std.proofs.Common.{◌≡◌, ℕ, ◌+◌, ◌%◌, ◌<◌, [], ◌∷◌, ◌++◌, get_or, drop, ap, ◌∙◌, arith, rules}
use Rattle.modes.specs.Masks.{xor_into, step}
use Rattle.modes.proofs.FromFn.{made_entry}
use Rattle.modes.proofs.Stepping.{shifted}
use Rattle.modes.proofs.mask.Mask.stepped.Goals as goal

pub returns : goal.returns
unfolding step
returns c =
    let x = c.args.self.bytes in
    let b = get_or x 0 0 in
    let y = c.from_fn-bytes.result in
    let moved : (k : ℕ) → k < 31 → get_or y k 0 ≡ get_or x (k + 1) 0 =
    λ k h.
    made_entry _ (λ i. get_or x ((i + 1) % 32) 0) _ 32 (λ i b q l k. (search rules, search rules)) y c.from_fn-bytes.ensures.items k 0 (omega arith)
    ∙ ap (λ n. get_or x n 0) (omega arith) in
    let whole = shifted x y c.doubled.result (search rules) (search rules) moved in
    ap (λ z. xor_into 29 b (xor_into 28 b z)) (whole ∙ ap (λ d. drop 1 x ++ d ∷ []) c.doubled.ensures)
