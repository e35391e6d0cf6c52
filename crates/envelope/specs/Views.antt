-- Parts of an envelope, as the bytes that they are.
use Rattle.std.specs.Prelude.{Ok, Err, Result}
use Rattle.modes.specs.declared.refusal.Refusal.{Refusal}
use Rattle.envelope.specs.declared.parts.Parts.{Parts}
use Rattle.envelope.specs.Layouts.{Fields}

abbrev pub fields : Parts → Fields
fields p = record { nonce = p.nonce.now; label = p.label.now; blocks = p.blocks.now; tag = p.tag.now }

abbrev pub parted : Result Parts Refusal → Result Fields Refusal
parted (Ok p) = Ok (fields p)
parted (Err e) = Err e
