-- Numbers in groups of seven bits: the low group first, the top bit set in every byte but the last, at most three bytes.
use Rattle.std.specs.Prelude.{◌≡◌, ℕ, zero, suc, ◌+◌, ◌*◌, ◌/◌, ◌%◌, ◌<◌, ◌≤◌, cond, List, [], ◌∷◌, ◌++◌, length, take, Some, None, Option, nat_lt}

-- the number that groups spell
abbrev pub spelled : List ℕ → ℕ
spelled [] = 0
spelled (b ∷ bs) = b % 128 + 128 * spelled bs

-- the top bit is set in every byte but the last
abbrev pub Ended : List ℕ → Type 0
Ended [] = ⊥
Ended (b ∷ []) = b < 128
Ended (b ∷ c ∷ bs) = (128 ≤ b) × Ended (c ∷ bs)

-- these bytes are a form of the number; closing zero groups are allowed, so a number may have several
pub record Encodes (n : ℕ) (a : List ℕ) : Type 0 where
  pub short : length a ≤ 3
  pub ended : Ended a
  pub spells : spelled a ≡ n

-- the form that is written, of a number below 2^21: it has no closing zero group, and zero is one byte
unfoldable pub groups : ℕ → List ℕ
groups n =
    cond (nat_lt n 128) (n ∷ [])
    (cond (nat_lt n 16384) ((n % 128 + 128) ∷ (n / 128) ∷ []) ((n % 128 + 128) ∷ (n / 128 % 128 + 128) ∷ (n / 16384) ∷ []))

-- a group in front of a number that was read: its value, and the bytes taken
abbrev pub grouped : ℕ → Option (ℕ × ℕ) → Option (ℕ × ℕ)
grouped b None = None
grouped b (Some p) = Some (b % 128 + 128 * p.0, suc p.1)

-- reading a number that ends within k bytes and within those that are there
unfoldable pub number_within : ℕ → List ℕ → Option (ℕ × ℕ)
number_within zero bytes = None
number_within (suc k) [] = None
number_within (suc k) (b ∷ bytes) = cond (nat_lt b 128) (Some (b, 1)) (grouped b (number_within k bytes))

-- the number that bytes begin with, and how many bytes it takes
unfoldable pub number_in : List ℕ → Option (ℕ × ℕ)
number_in bytes = number_within 3 bytes

-- What is read is a form of the number read, and every form that bytes begin with is read in full.
pub record ReadsExactly (bytes : List ℕ) (r : Option (ℕ × ℕ)) : Type 0 where
  pub taken_encodes : (n t : ℕ) → r ≡ Some (n, t) → (t ≤ length bytes) × Encodes n (take t bytes)
  pub encodes_taken : (n : ℕ) (a rest : List ℕ) → Encodes n a → bytes ≡ a ++ rest → r ≡ Some (n, length a)

-- What is written is the shortest form of the number, and is read as that number.
pub record WritesExactly (n : ℕ) (a : List ℕ) : Type 0 where
  pub encodes : n < 2097152 → Encodes n a
  pub shortest : (b : List ℕ) → Encodes n b → length a ≤ length b
  pub read_back : n < 2097152 → (rest : List ℕ) → number_in (a ++ rest) ≡ Some (n, length a)
