-- Block holders: a list of blocks and a limit, and what each call answers and leaves.
use Rattle.std.specs.Prelude.{◌≡◌, ℕ, ◌-◌, ◌<◌, ◌≤◌, not, ◌||◌, List, [], ◌∷◌, ◌++◌, length, take, Result, ◌==◌, nat_le, nat_lt, slice_index, slice_index_or, slice_set}
use Rattle.modes.specs.declared.refusal.Layer.TheVariants.{Holder}
use Rattle.modes.specs.declared.refusal.Reason.TheVariants.{BufferLength, NoSuchBlock, Limit}
use Rattle.modes.specs.declared.refusal.Refusal.{Refusal}
use Rattle.modes.specs.Refusals.{Claim, claim, refusal, answer}

-- block k, counted from 1
abbrev pub block : List (List ℕ) → ℕ → List ℕ
block bs k = slice_index_or bs (k - 1) []

-- what every holder owes: the list is within the limit, the limit within 4,096, and each block has 32 entries
pub record Bounded (bs : List (List ℕ)) (limit : ℕ) : Type 0 where
  pub within : length bs ≤ limit
  pub small : limit ≤ 4096
  pub whole : (i : ℕ) → i < length bs → length (slice_index_or bs i []) ≡ 32

-- each entry is a byte
abbrev pub Sound : List (List ℕ) → Type 0
Sound bs = (i j : ℕ) → slice_index (slice_index_or bs i []) j < 256

abbrev pub bad_buffer : List ℕ → Claim
bad_buffer x = claim (not (length x == 32)) (refusal Holder BufferLength 0)

-- k is the number of none of n blocks
abbrev pub none_of : ℕ → ℕ → Claim
none_of n k = claim (k == 0 || nat_lt n k) (refusal Holder NoSuchBlock k)

abbrev pub no_such_block : List (List ℕ) → ℕ → Claim
no_such_block bs k = none_of (length bs) k

abbrev pub none_left : List (List ℕ) → Claim
none_left bs = claim (length bs == 0) (refusal Holder NoSuchBlock 0)

abbrev pub at_limit : ℕ → List (List ℕ) → Claim
at_limit limit bs = claim (nat_le limit (length bs)) (refusal Holder Limit 0)

-- block k by value
abbrev pub block_answer : List (List ℕ) → ℕ → Result (List ℕ) Refusal
block_answer bs k = answer (no_such_block bs k ∷ []) (block bs k)

-- copying out block k into a buffer, or putting a buffer in its place
abbrev pub place_answer : List (List ℕ) → ℕ → List ℕ → Result (Unit {0}) Refusal
place_answer bs k buffer = answer (bad_buffer buffer ∷ no_such_block bs k ∷ []) tt

abbrev pub add_answer : ℕ → List (List ℕ) → List ℕ → Result (Unit {0}) Refusal
add_answer limit bs x = answer (bad_buffer x ∷ at_limit limit bs ∷ []) tt

abbrev pub drop_answer : List (List ℕ) → Result (Unit {0}) Refusal
drop_answer bs = answer (none_left bs ∷ []) tt

-- the list with block k replaced, with one block more, and without the last
abbrev pub with_block : List (List ℕ) → ℕ → List ℕ → List (List ℕ)
with_block bs k x = slice_set bs (k - 1) x

abbrev pub with_more : List (List ℕ) → List ℕ → List (List ℕ)
with_more bs x = bs ++ x ∷ []

abbrev pub without_last : List (List ℕ) → List (List ℕ)
without_last bs = take (length bs - 1) bs
