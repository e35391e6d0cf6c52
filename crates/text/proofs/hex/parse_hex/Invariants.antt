use Rattle.std.proofs.Common.{◌≡◌, ℕ, ◌+◌, ◌*◌, ◌<◌, get_or, vec_items, vec_len}
use Rattle.text.specs.Hex.{Makes}
use Rattle.text.proofs.hex.parse_hex.Given as goal

abbrev pub invariant-loop-k : goal.invariant-loop-k
invariant-loop-k l =
    (vec_len l.bytes ≡ l.k)
    × ((i : ℕ) → i < l.k → Makes (get_or l.text (2 * i) 0) (get_or l.text (2 * i + 1) 0) (get_or (vec_items l.bytes) i 0))
