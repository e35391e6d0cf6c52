use Rattle.std.proofs.Common.{rules}
use Rattle.std.proofs.lemmas.Nat.{xor_lt}
use Rattle.permutation.specs.BlockLaws.{is_xors}
use Rattle.permutation.proofs.nibbles.NibbleRowBitXor.bitxor.Goals as goal

pub invariant_of-result : goal.invariant_of-result
invariant_of-result c =
    record {
      ok = λ j h.
          let call = c.from_fn.ensures.items.at j 0 h in
          let below = xor_lt 4 _ _ (c.args.self.ok j h) (c.args.other.ok j h) in
          search rules;
    }

pub returns : goal.returns
returns c =
    is_xors 8 _ _ _ c.from_fn.ensures.items.long (λ j h. let call = c.from_fn.ensures.items.at j 0 h in search rules)
