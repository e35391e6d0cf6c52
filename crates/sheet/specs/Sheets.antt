-- A sheet's answers, as answers about its state.
use Rattle.std.specs.Prelude.{Ok, Err, Result}
use Rattle.modes.specs.declared.refusal.Refusal.{Refusal}
use Rattle.sheet.specs.declared.sheet.Sheet.{Sheet}
use Rattle.sheet.specs.declared.state.State.{State}

abbrev pub stated : {K : Type 0} → Result (Sheet K) Refusal → Result State Refusal
stated (Ok s) = Ok s.state
stated (Err e) = Err e
