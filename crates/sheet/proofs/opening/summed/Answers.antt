use Rattle.std.proofs.Common.{◌≡◌, ◌+◌, ◌-◌, ◌*◌, length, take, sym, ap, ◌∙◌, arith}
use Rattle.permutation.specs.Blocks.{◌⊕◌}
use Rattle.modes.specs.Cipher.{masked}
use Rattle.modes.specs.Masks.{times, step, turn}
use Rattle.modes.specs.Sums.{xor_to, label_sum}
use Rattle.sheet.specs.Ciphers.{cipher_of, enc_at, fin_at}
use Rattle.sheet.specs.Holders.{block}
use Rattle.sheet.specs.Holding.{block_adds}
use Rattle.sheet.specs.Sealing.{sum_of}
use Rattle.sheet.proofs.Masking.{odd_mask}
use Rattle.sheet.proofs.Totals.{total_last}
use Rattle.sheet.proofs.opening.summed.Goals as goal

pub returns : goal.returns
returns g c =
    let f = g.K.Permutation.forth in
    let b = g.K.Permutation.back in
    let cipher = cipher_of f b c.args.key.bytes c.args.nonce.bytes in
    let bs = g.R.ReadBlocks.list c.args.h.now in
    let m = c.args.m in
    let l = c.base-base.result.bytes in
    let is = c.base-base.ensures in
    let some = c.requires.0 in
    let all = c.requires.1 in
    let back : m - 1 + 1 ≡ m = omega arith in
    let count : length bs ≡ m - 1 + 1 = omega arith in
    let odd = odd_mask l (m - 1) c.inner_total.result.0.bytes c.inner_total.ensures.mask c.stepped-odd.result.bytes c.stepped-odd.ensures
    ∙ ap (λ k. times (2 * k - 1) step l) back in
    let blocks = c.xor_blocks.ensures ∙ ap (λ x. x ⊕ c.held_block-last.result) c.inner_total.ensures.sum
    ∙ ap (λ y. xor_to (block_adds f l bs) (m - 1) ⊕ y) c.held_block-last.ensures
    ∙ ap (λ k. xor_to (block_adds f l bs) (m - 1) ⊕ block bs k) (sym back)
    ∙ ap (λ w. xor_to (block_adds f w bs) (m - 1) ⊕ block bs (m - 1 + 1)) is
    ∙ sym (total_last cipher bs (m - 1) count) in
    let sum : c.xor_blocks-sum.result ≡ sum_of cipher c.args.label.now bs =
    c.xor_blocks-sum.ensures ∙ ap (λ x. x ⊕ c.xor_blocks.result) c.sum_of-label.ensures
    ∙ ap (λ y. label_sum f c.args.key.bytes c.args.label.now ⊕ y) blocks in
    record {
      label = c.sum_of-label.ensures;
      sum = sum;
      tag =
          c.tag_of.ensures
          ∙ ap (take 16)
          (c.encipher.ensures ∙ ap (λ w. masked f w c.xor_blocks-sum.result) (c.turned.ensures ∙ ap turn odd)
          ∙ ap (masked f (turn (times (2 * m - 1) step l))) sum)
          ∙ ap (λ w. fin_at f w m (sum_of cipher c.args.label.now bs)) is
          ∙ ap (λ k. cipher.fin k (sum_of cipher c.args.label.now bs)) all;
      plain =
          c.decipher.ensures ∙ ap (λ w. masked b w c.held_block-last.result) odd
          ∙ ap (masked b (times (2 * m - 1) step l)) c.held_block-last.ensures
          ∙ ap (λ w. enc_at b w m (block bs m)) is
          ∙ ap (λ k. cipher.dec k (block bs k)) all;
    }
