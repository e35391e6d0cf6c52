-- What was received, as the values that it is.
use Rattle.std.specs.Prelude.{Ok, Err, Result}
use Rattle.modes.specs.declared.refusal.Refusal.{Refusal}
use Rattle.envelope.specs.declared.receive.Received.{Received}
use Rattle.envelope.specs.Receiving.{Arrival, arrival}
use Rattle.envelope.specs.Views.{fields}

abbrev pub arrived : {K : Type 0} → Result (Received K) Refusal → Result Arrival Refusal
arrived (Ok r) = Ok (arrival r.sheet.state (fields r.parts))
arrived (Err e) = Err e
