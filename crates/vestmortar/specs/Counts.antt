-- How the commands of a script are counted.
use Rattle.std.specs.Prelude.{ℕ, ◌+◌, ◌-◌, ◌^◌, min, Ok, Err, Result}
use Rattle.vestmortar.specs.declared.failure.Failure.{Failure}
use Rattle.vestmortar.specs.declared.failure.Failure.TheVariants.{Declined, Usage, Unreadable, NotHex, OddDigits, Output, Memory}
use Rattle.vestmortar.specs.declared.script.Tally.{Tally}
use Rattle.vestmortar.specs.declared.work.Outcome.{Outcome}

-- one more, unless that passes the largest number
abbrev pub more : ℕ → ℕ
more n = min (n + 1) (2 ^ 64 - 1)

abbrev pub one_taken : Tally → Tally
one_taken t = record { taken = more t.taken; declined = t.declined; wrong = t.wrong }

abbrev pub one_declined : Tally → Tally
one_declined t = record { taken = t.taken; declined = more t.declined; wrong = t.wrong }

abbrev pub one_wrong : Tally → Tally
one_wrong t = record { taken = t.taken; declined = t.declined; wrong = more t.wrong }

abbrev pub counted : Result Outcome Failure → Tally → Tally
counted (Ok outcome) t = one_taken t
counted (Err (Declined refusal)) t = one_declined t
counted (Err (Usage misuse)) t = one_wrong t
counted (Err (Unreadable name error)) t = one_wrong t
counted (Err (NotHex place)) t = one_wrong t
counted (Err (OddDigits place)) t = one_wrong t
counted (Err (Output error)) t = one_wrong t
counted (Err Memory) t = one_wrong t
