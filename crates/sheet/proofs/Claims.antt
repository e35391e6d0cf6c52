-- What a call that is taken has found: each of its sentences is false.
use Rattle.std.proofs.Common.{◌≡◌, ℕ, ◌+◌, ◌<◌, ◌≤◌, false, eqb, List, [], ◌∷◌, length, Ok}
use Rattle.std.proofs.lemmas.List.{nil_from_length}
use Rattle.std.proofs.lemmas.Bool.{eqb-true, leb-false, ltb-false, not-false}
use Rattle.modes.specs.Keys.{bad_key, bad_nonce}
use Rattle.modes.specs.Refusals.{answer}
use Rattle.modes.specs.RefusalLaws.{taken_rest}
use Rattle.modes.specs.Sums.{too_long}
use Rattle.sheet.specs.declared.state.State.{State}
use Rattle.sheet.specs.Calls.{text_too_long, not_empty, miscounted, no_room, past_end, seal_claims}
use Rattle.sheet.specs.Edits.{past_start, write_claims, append_claims, cut_claims}
use Rattle.sheet.specs.Holders.{bad_buffer, at_limit, add_answer}
use Rattle.sheet.specs.Sealing.{blocks_in}

-- a seal that is taken found sizes that are right, the holder empty, and room
pub record SealFound (key nonce label text : List ℕ) (limit : ℕ) (bs : List (List ℕ)) : Type 0 where
  pub key_size : length key ≡ 16
  pub nonce_size : length nonce ≡ 13
  pub label_short : length label ≤ 4096
  pub text_short : length text ≤ 131071
  pub none : bs ≡ []
  pub room : blocks_in (length text) ≤ limit

pub seal_found : {A : Type 0} (key nonce label text : List ℕ) (limit : ℕ) (bs : List (List ℕ)) (v w : A)
    → Ok w ≡ answer (seal_claims key nonce label text limit bs) v → SealFound key nonce label text limit bs
seal_found key nonce label text limit bs v w h =
    let k = taken_rest (bad_key key) (bad_nonce nonce ∷ too_long label ∷ text_too_long (length text) ∷ not_empty bs ∷ no_room limit (length text) ∷ []) v w h in
    let n = taken_rest (bad_nonce nonce) (too_long label ∷ text_too_long (length text) ∷ not_empty bs ∷ no_room limit (length text) ∷ []) v w k.1 in
    let l = taken_rest (too_long label) (text_too_long (length text) ∷ not_empty bs ∷ no_room limit (length text) ∷ []) v w n.1 in
    let t = taken_rest (text_too_long (length text)) (not_empty bs ∷ no_room limit (length text) ∷ []) v w l.1 in
    let e = taken_rest (not_empty bs) (no_room limit (length text) ∷ []) v w t.1 in
    let r = taken_rest (no_room limit (length text)) [] v w e.1 in
    record {
      key_size = eqb-true (length key) 16 (not-false (eqb (length key) 16) k.0);
      nonce_size = eqb-true (length nonce) 13 (not-false (eqb (length nonce) 13) n.0);
      label_short = ltb-false 4096 (length label) l.0;
      text_short = ltb-false 131071 (length text) t.0;
      none = nil_from_length bs (eqb-true (length bs) 0 (not-false (eqb (length bs) 0) e.0));
      room = ltb-false limit (blocks_in (length text)) r.0;
    }

-- an add that is taken found a block, and room
pub record AddFound (limit : ℕ) (bs : List (List ℕ)) (x : List ℕ) : Type 0 where
  pub size : length x ≡ 32
  pub room : length bs < limit

pub add_found : (limit : ℕ) (bs : List (List ℕ)) (x : List ℕ) → Ok tt ≡ add_answer limit bs x → AddFound limit bs x
add_found limit bs x h =
    let b = taken_rest (bad_buffer x) (at_limit limit bs ∷ []) tt tt h in
    let l = taken_rest (at_limit limit bs) [] tt tt b.1 in
    record { size = eqb-true (length x) 32 (not-false (eqb (length x) 32) b.0); room = leb-false limit (length bs) l.0 }

counted : (s : State) (bs : List (List ℕ)) → (miscounted s bs).holds ≡ false → length bs ≡ blocks_in s.length
counted s bs h = eqb-true (length bs) (blocks_in s.length) (not-false (eqb (length bs) (blocks_in s.length)) h)

-- a read or a write that is taken found the sheet's count, and its bytes within the text
pub record RangeFound (s : State) (bs : List (List ℕ)) (at n : ℕ) : Type 0 where
  pub count : length bs ≡ blocks_in s.length
  pub within : at + n ≤ s.length

pub range_found : {A : Type 0} (s : State) (bs : List (List ℕ)) (at n : ℕ) (v w : A) → Ok w ≡ answer (write_claims s bs at n) v → RangeFound s bs at n
range_found s bs at n v w h =
    let m = taken_rest (miscounted s bs) (past_end s at n ∷ []) v w h in
    let r = taken_rest (past_end s at n) [] v w m.1 in
    record { count = counted s bs m.0; within = ltb-false s.length (at + n) r.0 }

-- an append that is taken found a text that is not too long, the sheet's count, and room
pub record AppendFound (s : State) (limit : ℕ) (bs : List (List ℕ)) (n : ℕ) : Type 0 where
  pub short : s.length + n ≤ 131071
  pub count : length bs ≡ blocks_in s.length
  pub room : blocks_in (s.length + n) ≤ limit

pub append_found : {A : Type 0} (s : State) (limit : ℕ) (bs : List (List ℕ)) (n : ℕ) (v w : A) → Ok w ≡ answer (append_claims s limit bs n) v → AppendFound s limit bs n
append_found s limit bs n v w h =
    let t = taken_rest (text_too_long (s.length + n)) (miscounted s bs ∷ no_room limit (s.length + n) ∷ []) v w h in
    let m = taken_rest (miscounted s bs) (no_room limit (s.length + n) ∷ []) v w t.1 in
    let r = taken_rest (no_room limit (s.length + n)) [] v w m.1 in
    record {
      short = ltb-false 131071 (s.length + n) t.0;
      count = counted s bs m.0;
      room = ltb-false limit (blocks_in (s.length + n)) r.0;
    }

-- a cut that is taken found the sheet's count, and as many bytes
pub record CutFound (s : State) (bs : List (List ℕ)) (n : ℕ) : Type 0 where
  pub count : length bs ≡ blocks_in s.length
  pub within : n ≤ s.length

pub cut_found : {A : Type 0} (s : State) (bs : List (List ℕ)) (n : ℕ) (v w : A) → Ok w ≡ answer (cut_claims s bs n) v → CutFound s bs n
cut_found s bs n v w h =
    let m = taken_rest (miscounted s bs) (past_start s n ∷ []) v w h in
    let r = taken_rest (past_start s n) [] v w m.1 in
    record { count = counted s bs m.0; within = ltb-false s.length n r.0 }
