-- What a command's words make of it.
use Rattle.std.specs.Prelude.{◌≡◌, ℕ, List, [], ◌∷◌, Some, None, Ok, Err, vec_items, string_bytes, codes, Option, Result, String}
use Rattle.std.specs.declared.alloc.Global.{Global}
use Rattle.text.specs.Hex.{Spells}
use Rattle.vestmortar.specs.declared.args.Command.{Command}
use Rattle.vestmortar.specs.declared.args.Command.TheVariants.{Plate, Check, Run, Sheet, Help}
use Rattle.vestmortar.specs.declared.failure.Misuse.{Misuse}
use Rattle.vestmortar.specs.declared.failure.Misuse.TheVariants.{NoPlateFile}
use Rattle.vestmortar.specs.declared.flag.Flag.TheVariants.{Key, Tag}
use Rattle.vestmortar.specs.declared.options.Options.{Options}
use Rattle.vestmortar.specs.Options.{value_of, NoSheetOptions}

-- the commands that options make
abbrev pub Plates : Options → Command → Type 0
Plates o (Plate key plate) = (value_of Key o ≡ Some key) × (value_of Tag o ≡ None) × NoSheetOptions o × (o.file ≡ plate)
Plates o (Check key tag plate) = ⊥
Plates o (Run script) = ⊥
Plates o (Sheet s) = ⊥
Plates o Help = ⊥

abbrev pub Checks : Options → Command → Type 0
Checks o (Plate key plate) = ⊥
Checks o (Check key tag plate) =
    (value_of Key o ≡ Some key) × ((digits : String Global) × (value_of Tag o ≡ Some digits) × Spells (string_bytes digits) (vec_items tag)) × NoSheetOptions o × (o.file ≡ plate)
Checks o (Run script) = ⊥
Checks o (Sheet s) = ⊥
Checks o Help = ⊥

abbrev pub Runs : Options → Command → Type 0
Runs o (Plate key plate) = ⊥
Runs o (Check key tag plate) = ⊥
Runs o (Run script) = (value_of Key o ≡ None) × (value_of Tag o ≡ None) × NoSheetOptions o × (o.file ≡ script)
Runs o (Sheet s) = ⊥
Runs o Help = ⊥

-- the word that a command begins with
abbrev pub name_of : Command → List ℕ
name_of (Plate key plate) = codes "plate"
name_of (Check key tag plate) = codes "check"
name_of (Run script) = codes "run"
name_of (Sheet s) = codes "sheet"
name_of Help = codes "--help"

abbrev pub Begins : List (String Global) → Command → Type 0
Begins [] c = ⊥
Begins (w ∷ ws) c = string_bytes w ≡ name_of c

-- in a script a plate must be a file
abbrev pub unless_named : Option (String Global) → Result (Unit {0}) Misuse
unless_named None = Err NoPlateFile
unless_named (Some name) = Ok tt

abbrev pub sourced : Command → Result (Unit {0}) Misuse
sourced (Plate key plate) = unless_named plate
sourced (Check key tag plate) = unless_named plate
sourced (Run script) = Ok tt
sourced (Sheet s) = Ok tt
sourced Help = Ok tt
