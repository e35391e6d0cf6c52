use Rattle.std.proofs.Common.{◌≡◌, ◌+◌, ◌-◌, ◌*◌, ◌/◌, ◌%◌, ◌<◌, ◌≤◌, length, get_or, ap, ◌∙◌, ap₂, ⊎_elim, arith, rules}
use Rattle.std.proofs.lemmas.Bool.{cases_lt}
use Rattle.modes.specs.Cipher.{masked}
use Rattle.sheet.specs.Ciphers.{enc_at}
use Rattle.sheet.specs.Holders.{block}
use Rattle.sheet.proofs.Masking.{odd_mask, even_mask}
use Rattle.sheet.proofs.reading.copy_out.Goals as goal

pub visit-requires : goal.visit-requires
visit-requires g c =
    let b = g.R.ReadBlocks.bounded c.args.h.now in
    let within = b.within in
    let small = b.small in
    let count = c.count-count.ensures.value in
    let end = c.min-k-end.ensures in
    let blocks = c.div_ceil.ensures in
    let size : length c.loop-k.out ≡ length c.args.out.now = search rules in
    (omega arith, (omega arith, omega arith))

pub loop-k-preserved : goal.loop-k-preserved
loop-k-preserved g c =
    let f = g.K.Permutation.back in
    let l = c.args.base.bytes in
    let bs = g.R.ReadBlocks.list c.args.h.now in
    let k = c.loop-k.k in
    let at = c.args.at in
    let size : length c.loop-k.out ≡ length c.args.out.now = search rules in
    let odd = odd_mask l k c.loop-k.mask.bytes c.loop-k.invariant.0 c.stepped-odd.result.bytes c.stepped-odd.ensures in
    let even = even_mask l k c.loop-k.mask.bytes c.loop-k.invariant.0 c.stepped-odd.result.bytes c.stepped-mask.result.bytes c.stepped-odd.ensures c.stepped-mask.ensures in (
      even,
      λ i h p.
          ⊎_elim
          (λ (q : at + i < 32 * k). c.visit.ensures.before i q ∙ c.loop-k.invariant.1 i h q)
          (λ (q : 32 * k ≤ at + i).
          let block_is : k ≡ (at + i) / 32 = omega arith in
          let byte_is : at + i - 32 * k ≡ (at + i) % 32 = omega arith in
          c.visit.ensures.inside i (omega arith) q (omega arith)
          ∙ ap (λ w. get_or (masked f w (block bs (k + 1))) (at + i - 32 * k) 0) odd
          ∙ ap₂ (λ n j. get_or (enc_at f l (n + 1) (block bs (n + 1))) j 0) block_is byte_is)
          (cases_lt (at + i) (32 * k)),
    )

pub returns : goal.returns
returns g c = λ i h.
    let count = c.count-count.ensures.value in
    let end = c.min-k-end.ensures in
    let blocks = c.div_ceil.ensures in
    let p = c.requires in
    c.loop-k.invariant.1 i h (omega arith)
