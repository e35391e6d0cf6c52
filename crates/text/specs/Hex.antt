-- Hexadecimal digits, and the bytes that they spell.
use Rattle.std.specs.Prelude.{◌≡◌, ℕ, ◌+◌, ◌-◌, ◌*◌, ◌/◌, ◌%◌, ◌<◌, cond, List, [], ◌∷◌, length, Some, None, Option, nat_lt, slice_index}
use Rattle.text.specs.declared.hex.HexError.{HexError}
use Rattle.text.specs.declared.hex.HexError.TheVariants.{OddLength, NotDigit, Memory}

-- the value of a digit: 0 to 9, A to F or a to f
abbrev pub digit_of : ℕ → Option ℕ
digit_of b =
    cond (nat_lt b 48) None
    (cond (nat_lt b 58) (Some (b - 48))
    (cond (nat_lt b 65) None
    (cond (nat_lt b 71) (Some (b - 55))
    (cond (nat_lt b 97) None
    (cond (nat_lt b 103) (Some (b - 87)) None)))))

-- the lower-case digit of a value below 16
abbrev pub char_of : ℕ → ℕ
char_of d = cond (nat_lt d 10) (48 + d) (87 + d)

-- the two digits of each byte
abbrev pub hex_of : List ℕ → List ℕ
hex_of [] = []
hex_of (b ∷ bs) = char_of (b / 16) ∷ char_of (b % 16) ∷ hex_of bs

-- the digits a and b make the byte
abbrev pub Makes : ℕ → ℕ → ℕ → Type 0
Makes a b byte = (digit_of a ≡ Some (byte / 16)) × (digit_of b ≡ Some (byte % 16))

-- the text has two digits for each byte, and these make it
abbrev pub Spells : List ℕ → List ℕ → Type 0
Spells text bytes =
    (length text ≡ 2 * length bytes)
    × ((k : ℕ) → k < length bytes → Makes (slice_index text (2 * k)) (slice_index text (2 * k + 1)) (slice_index bytes k))

-- why the text gives no bytes
abbrev pub Unspelt : List ℕ → HexError → Type 0
Unspelt text OddLength = length text % 2 ≡ 1
Unspelt text (NotDigit place) = (place < length text) × (digit_of (slice_index text place) ≡ None)
Unspelt text Memory = Unit {0}
