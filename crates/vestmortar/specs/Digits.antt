-- What becomes of hex digits that spell no bytes.
use Rattle.std.specs.Prelude.{◌≡◌, ℕ, List}
use Rattle.text.specs.declared.hex.HexError.{HexError}
use Rattle.text.specs.declared.hex.HexError.TheVariants.{OddLength, NotDigit, Memory as HexMemory}
use Rattle.text.specs.Hex.{Unspelt}
use Rattle.vestmortar.specs.declared.digits.Place.{Place}
use Rattle.vestmortar.specs.declared.failure.Failure.{Failure}
use Rattle.vestmortar.specs.declared.failure.Failure.TheVariants.{NotHex, OddDigits, Memory}

abbrev pub failure_at : Place → HexError → Failure
failure_at place OddLength = OddDigits place
failure_at place (NotDigit n) = NotHex place
failure_at place HexMemory = Memory

-- the failure says of digits at the place why the text spells no bytes
abbrev pub Misspells : List ℕ → Place → Failure → Type 0
Misspells text place failure = (error : HexError) × Unspelt text error × (failure ≡ failure_at place error)
