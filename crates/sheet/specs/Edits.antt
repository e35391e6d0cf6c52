-- What write, append, cut and relabel answer, and what they leave.
use Rattle.std.specs.Prelude.{ℕ, ◌+◌, ◌-◌, ◌/◌, cond, ◌&&◌, List, [], ◌∷◌, ◌++◌, map, length, take, drop, ◌==◌, nat_le, nat_lt}
use Rattle.std.specs.List.{range_with_len}
use Rattle.permutation.specs.Blocks.{◌⊕◌}
use Rattle.modes.specs.declared.refusal.Layer.TheVariants.{Sheet}
use Rattle.modes.specs.declared.refusal.Reason.TheVariants.{Range}
use Rattle.modes.specs.Refusals.{Claim, claim, refusal}
use Rattle.modes.specs.Sums.{block_at, too_long}
use Rattle.sheet.specs.Holders.{block}
use Rattle.sheet.specs.declared.state.State.{State}
use Rattle.sheet.specs.Calls.{text_too_long, miscounted, no_room, past_end}
use Rattle.sheet.specs.Ciphers.{Cipher}
use Rattle.sheet.specs.Sealing.{blocks_in, total, opened}

-- a state with another text length, label sum and sum
abbrev pub restated : State → ℕ → (label sum : List ℕ) → State
restated s n new_label new_sum = record { key = s.key; nonce = s.nonce; length = n; label = new_label; sum = new_sum }

-- A change of text: the blocks after the first `from`, up to number `to`, are sealed anew from the new text.
pub record Edit : Type 0 where
  pub from : ℕ
  pub to : ℕ
  pub text : List ℕ

-- no block where the amount is 0
abbrev pub edit : ℕ → ℕ → ℕ → List ℕ → Edit
edit amount first last new = record { from = first; to = cond (amount == 0) first last; text = new }

unfoldable pub altered_block : Cipher → Edit → List (List ℕ) → ℕ → List ℕ
altered_block c e bs k = cond (nat_lt e.from k && nat_le k e.to) (c.enc k (block_at e.text k)) (block bs k)

-- the blocks afterwards: as many as the new text has, and each that is not sealed anew as it was
unfoldable pub altered : Cipher → Edit → List (List ℕ) → List (List ℕ)
altered c e bs = map (altered_block c e bs) (range_with_len 1 (blocks_in (length e.text)))

-- the state afterwards: the sum gives up what the blocks added and takes what they add now; a block that stays cancels
abbrev pub edited : Cipher → Edit → State → List (List ℕ) → State
edited c e s bs = restated s (length e.text) s.label (s.sum ⊕ (total c bs ⊕ total c (altered c e bs)))

-- a text with bytes from a position on replaced, with bytes added at its end, and without its last n bytes
abbrev pub overwritten : List ℕ → ℕ → List ℕ → List ℕ
overwritten t at d = take at t ++ (d ++ drop (at + length d) t)

abbrev pub lengthened : List ℕ → List ℕ → List ℕ
lengthened t d = t ++ d

abbrev pub shortened : List ℕ → ℕ → List ℕ
shortened t n = take (length t - n) t

-- A write alters the blocks that its bytes lie in; an append the old last block and those up to the new last; a cut the new last block.
abbrev pub write_edit : List ℕ → ℕ → List ℕ → Edit
write_edit t at d = edit (length d) (at / 32) ((at + length d + 31) / 32) (overwritten t at d)

abbrev pub append_edit : List ℕ → List ℕ → Edit
append_edit t d = edit (length d) (length t / 32) (blocks_in (length t + length d)) (lengthened t d)

abbrev pub cut_edit : List ℕ → ℕ → Edit
cut_edit t n = edit n ((length t - n) / 32) (blocks_in (length t - n)) (shortened t n)

-- the text that the blocks of a sheet hold
abbrev pub text_in : Cipher → State → List (List ℕ) → List ℕ
text_in c s bs = opened c bs s.length

-- more bytes are to be cut off than there are
abbrev pub past_start : State → ℕ → Claim
past_start s n = claim (nat_lt s.length n) (refusal Sheet Range 0)

abbrev pub write_claims : State → List (List ℕ) → (at n : ℕ) → List Claim
write_claims s bs at n = miscounted s bs ∷ past_end s at n ∷ []

abbrev pub append_claims : State → (limit : ℕ) → List (List ℕ) → (n : ℕ) → List Claim
append_claims s limit bs n = text_too_long (s.length + n) ∷ miscounted s bs ∷ no_room limit (s.length + n) ∷ []

abbrev pub cut_claims : State → List (List ℕ) → (n : ℕ) → List Claim
cut_claims s bs n = miscounted s bs ∷ past_start s n ∷ []

abbrev pub relabel_claims : List ℕ → List Claim
relabel_claims new_label = too_long new_label ∷ []

-- the blocks and the state after a call that is taken
abbrev pub written_blocks : Cipher → State → List (List ℕ) → ℕ → List ℕ → List (List ℕ)
written_blocks c s bs at d = altered c (write_edit (text_in c s bs) at d) bs

abbrev pub written : Cipher → State → List (List ℕ) → ℕ → List ℕ → State
written c s bs at d = edited c (write_edit (text_in c s bs) at d) s bs

abbrev pub appended_blocks : Cipher → State → List (List ℕ) → List ℕ → List (List ℕ)
appended_blocks c s bs d = altered c (append_edit (text_in c s bs) d) bs

abbrev pub appended : Cipher → State → List (List ℕ) → List ℕ → State
appended c s bs d = edited c (append_edit (text_in c s bs) d) s bs

abbrev pub cut_blocks : Cipher → State → List (List ℕ) → ℕ → List (List ℕ)
cut_blocks c s bs n = altered c (cut_edit (text_in c s bs) n) bs

abbrev pub cut_back : Cipher → State → List (List ℕ) → ℕ → State
cut_back c s bs n = edited c (cut_edit (text_in c s bs) n) s bs

-- another label: the sum gives up the old label sum and takes the new
abbrev pub relabelled : Cipher → State → List ℕ → State
relabelled c s new_label = restated s s.length (c.label_sum new_label) (s.sum ⊕ (s.label ⊕ c.label_sum new_label))
