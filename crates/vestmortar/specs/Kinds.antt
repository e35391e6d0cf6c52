-- How the kinds of permutation are named.
use Rattle.std.specs.Prelude.{◌≡◌, ◌≢◌, ℕ, List, [], ◌∷◌, codes, string_bytes, MatchResult, Result, String}
use Rattle.std.specs.declared.alloc.Global.{Global}
use Rattle.vestmortar.specs.declared.kind.Kind.{Kind}
use Rattle.vestmortar.specs.declared.kind.Kind.TheVariants.{Rows, Matrices}

abbrev pub kind_name : Kind → List ℕ
kind_name Rows = codes "rows"
kind_name Matrices = codes "matrices"

-- the kind that a name gives, or that none does
abbrev pub IsKind : {E : Type 0} → List ℕ → Result Kind E → Type 0
IsKind name r = MatchResult r (λ kind. name ≡ kind_name kind) (λ _. (kind : Kind) → name ≢ kind_name kind)

-- the kind that the first words choose, and the words after them
abbrev pub IsNamedFirst : List (String Global) → Kind → List (String Global) → Type 0
IsNamedFirst [] kind rest = ⊥
IsNamedFirst (name ∷ words) kind rest = (string_bytes name ≡ kind_name kind) × (rest ≡ words)

abbrev pub Chooses : List (String Global) → Kind → List (String Global) → Type 0
Chooses [] kind rest = (kind ≡ Rows) × (rest ≡ [])
Chooses (word ∷ words) kind rest =
    (string_bytes word ≡ codes "--kind" → IsNamedFirst words kind rest) × (string_bytes word ≢ codes "--kind" → (kind ≡ Rows) × (rest ≡ word ∷ words))
