use Rattle.std.proofs.Common.{rules, arith}
use Rattle.std.proofs.lemmas.Grind.{common_steps}
use Rattle.vestmortar.proofs.args.check_command.Goals as goal

pub returns : goal.returns
returns c = (
  search rules,
  (c.in_ok-digits.digits, grind (arith, common_steps), rw c.as_bytes.ensures.value at c.in_ok-read_hex.ensures),
  search rules,
  search rules,
)
