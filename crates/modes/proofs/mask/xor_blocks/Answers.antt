use Rattle.std.proofs.Common.{get_or, rules}
use lib.Bits.{bit_xor}
use Rattle.permutation.specs.Blocks.{xors}
use Rattle.modes.proofs.FromFn.{made_by_index}
use Rattle.modes.proofs.mask.xor_blocks.Goals as goal

pub returns : goal.returns
unfolding xors
returns c =
    made_by_index _ (λ i. bit_xor (get_or c.args.x i 0) (get_or c.args.y i 0)) _ 32 (λ i b q l k. (search rules, search rules)) _ 0 c.from_fn.ensures.items
