use Rattle.std.proofs.Common.{◌+◌, ◌*◌, get_or, is_ok, ap, arith, rules, below_more}
use Rattle.std.proofs.lemmas.Result.{err_from_is_err_and}
use Rattle.text.proofs.Spelling.{makes, pair_bytes}
use Rattle.text.proofs.hex.parse_hex.Goals as goal

pub returns-in_err-high : goal.returns-in_err-high
returns-in_err-high c =
    let chunks = c.as_chunks.ensures in
    let pair = pair_bytes c.as_chunks.result.0.now c.args.text.now c.loop-k.k chunks.front (omega (arith, chunks.front_len)) in
    let p = err_from_is_err_and c.from_residual.result c.from_residual.ensures.1 in
    let e = c.in_err-high.ensures in
    rw (p.1, p.2, e.cases) (omega (arith, chunks.front_len), rw pair.0 at e.refused)

pub returns-in_err-low : goal.returns-in_err-low
returns-in_err-low c =
    let chunks = c.as_chunks.ensures in
    let pair = pair_bytes c.as_chunks.result.0.now c.args.text.now c.loop-k.k chunks.front (omega (arith, chunks.front_len)) in
    let p = err_from_is_err_and c.from_residual-in_err-low.result c.from_residual-in_err-low.ensures.1 in
    let e = c.in_err-low.ensures in
    rw (p.1, p.2, e.cases) (omega (arith, chunks.front_len), rw pair.1 at e.refused)

pub loop-k-preserved : goal.loop-k-preserved
loop-k-preserved c =
    let text = c.args.text.now in
    let k = c.loop-k.k in
    let chunks = c.as_chunks.ensures in
    let pair = pair_bytes c.as_chunks.result.0.now text k chunks.front (omega (arith, chunks.front_len)) in
    let high = c.in_ok-high.ensures in
    let low = c.in_ok-low.ensures in
    let places = c.push.ensures.by_index in
    let long = c.loop-k.invariant.0 in
    let byte = rw long at (places.1 0 (ap is_ok c.in_ok-push.was)) in (
      search rules,
      below_more _ _ (λ i h. rw (places.0 i 0 (rw long h)) (c.loop-k.invariant.1 i h))
          (makes (get_or text (2 * k) 0) (get_or text (2 * k + 1) 0) _ _ _ byte low.refused (rw pair.0 at high.cases) (rw pair.1 at low.cases)),
    )
