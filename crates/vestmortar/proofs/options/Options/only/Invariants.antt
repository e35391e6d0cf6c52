use Rattle.std.proofs.Common.{◌≡◌, drop}
use Rattle.vestmortar.specs.Options.{all_flags, only_answer}
use Rattle.vestmortar.proofs.options.Options.only.Given as goal

abbrev pub invariant-loop-flag : goal.invariant-loop-flag
invariant-loop-flag l = only_answer l.taken l.self (drop l.flag-index all_flags) ≡ only_answer l.taken l.self all_flags
