-- What each call of a sheet answers, and what it leaves.
use Rattle.std.specs.Prelude.{ℕ, ◌+◌, ◌-◌, ◌*◌, not, ◌||◌, List, [], ◌∷◌, length, take, drop, is_some, Result, ◌==◌, nat_lt}
use Rattle.std.specs.Option.{unwrap_or}
use Rattle.modes.specs.declared.refusal.Layer.TheVariants.{Sheet}
use Rattle.modes.specs.declared.refusal.Reason.TheVariants.{TextLength, BlockCount, Range, Limit, TagMismatch, Padding}
use Rattle.modes.specs.declared.refusal.Refusal.{Refusal}
use Rattle.modes.specs.Keys.{key_of, nonce_of, bad_key, bad_nonce, bad_tag}
use Rattle.modes.specs.Refusals.{Claim, claim, refusal, answer}
use Rattle.modes.specs.Sums.{same, too_long}
use Rattle.sheet.specs.declared.context.Context.{Context}
use Rattle.sheet.specs.declared.state.State.{State}
use Rattle.sheet.specs.Ciphers.{Cipher, cipher_of}
use Rattle.sheet.specs.Holders.{block}
use Rattle.sheet.specs.Sealing.{blocks_in, sealed, sum_of, tag_of, opened, text_end}

abbrev pub text_too_long : ℕ → Claim
text_too_long n = claim (nat_lt 131071 n) (refusal Sheet TextLength 0)

abbrev pub not_empty : List (List ℕ) → Claim
not_empty bs = claim (not (length bs == 0)) (refusal Sheet BlockCount 0)

abbrev pub no_blocks : List (List ℕ) → Claim
no_blocks bs = claim (length bs == 0 || nat_lt 4096 (length bs)) (refusal Sheet BlockCount 0)

-- the holder has another count than the sheet
abbrev pub miscounted : State → List (List ℕ) → Claim
miscounted s bs = claim (not (length bs == blocks_in s.length)) (refusal Sheet BlockCount 0)

abbrev pub no_room : ℕ → ℕ → Claim
no_room limit n = claim (nat_lt limit (blocks_in n)) (refusal Sheet Limit 0)

abbrev pub past_end : State → ℕ → ℕ → Claim
past_end s at n = claim (nat_lt s.length (at + n)) (refusal Sheet Range 0)

abbrev pub wrong_tag : List ℕ → List ℕ → Claim
wrong_tag tag right = claim (not (same tag right)) (refusal Sheet TagMismatch 0)

abbrev pub bad_padding : List ℕ → Claim
bad_padding p = claim (not (is_some (text_end p))) (refusal Sheet Padding 0)

-- the state of the sheet that these blocks make, with a text of n bytes
abbrev pub state_with : Cipher → (key nonce label : List ℕ) → List (List ℕ) → ℕ → State
state_with c key nonce text_label bs n = record { key = key_of key; nonce = nonce_of nonce; length = n; label = c.label_sum text_label; sum = sum_of c text_label bs }

-- the cipher that a sheet's state has
abbrev pub under : (forth back : List ℕ → List ℕ) → State → Cipher
under forth back s = cipher_of forth back s.key.bytes s.nonce.bytes

-- the cipher of the key and the nonce of a context
abbrev pub cipher_in : (forth back : List ℕ → List ℕ) → Context → Cipher
cipher_in forth back c = cipher_of forth back c.key.now c.nonce.now

-- seal: the holder comes to hold the sealed blocks of the text
abbrev pub seal_claims : (key nonce label text : List ℕ) (limit : ℕ) (bs : List (List ℕ)) → List Claim
seal_claims key nonce label text limit bs =
    bad_key key ∷ bad_nonce nonce ∷ too_long label ∷ text_too_long (length text) ∷ not_empty bs ∷ no_room limit (length text) ∷ []

abbrev pub seal_answer : Cipher → (key nonce label text : List ℕ) (limit : ℕ) (bs : List (List ℕ)) → Result State Refusal
seal_answer c key nonce label text limit bs =
    answer (seal_claims key nonce label text limit bs) (state_with c key nonce label (sealed c text) (length text))

-- the last block, opened
abbrev pub last_plain : Cipher → List (List ℕ) → List ℕ
last_plain c bs = c.dec (length bs) (block bs (length bs))

-- open: whole blocks before the last, and what the last has of text
abbrev pub found_length : Cipher → List (List ℕ) → ℕ
found_length c bs = 32 * (length bs - 1) + unwrap_or (text_end (last_plain c bs)) 0

abbrev pub open_claims : Cipher → (key nonce label tag : List ℕ) (bs : List (List ℕ)) → List Claim
open_claims c key nonce label tag bs =
    bad_key key ∷ bad_nonce nonce ∷ bad_tag tag ∷ too_long label ∷ no_blocks bs ∷ wrong_tag tag (tag_of c label bs) ∷ bad_padding (last_plain c bs) ∷ []

abbrev pub open_answer : Cipher → (key nonce label tag : List ℕ) (bs : List (List ℕ)) → Result State Refusal
open_answer c key nonce label tag bs =
    answer (open_claims c key nonce label tag bs) (state_with c key nonce label bs (found_length c bs))

-- read: as many bytes as the buffer holds, from a position
abbrev pub read_answer : State → List (List ℕ) → ℕ → ℕ → Result (Unit {0}) Refusal
read_answer s bs at n = answer (miscounted s bs ∷ past_end s at n ∷ []) tt

abbrev pub read_bytes : Cipher → State → List (List ℕ) → ℕ → ℕ → List ℕ
read_bytes c s bs at n = take n (drop at (opened c bs s.length))

-- tag
abbrev pub tag_answer : Cipher → State → List ℕ
tag_answer c s = c.fin (blocks_in s.length) s.sum
