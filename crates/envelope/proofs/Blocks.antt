-- Blocks one after the other, and apart again.
use Rattle.std.proofs.Common.{◌≡◌, ℕ, suc, ◌+◌, ◌*◌, ◌<◌, ◌≤◌, List, [], ◌∷◌, ◌++◌, length, get_or, take, sym, refl, ap, ◌∙◌, ap₂, arith, length-take}
use Rattle.std.proofs.lemmas.List.{append_assoc, append-nil, get_or-take, take_more, take_at, drop_at, length-append}
use Rattle.sheet.specs.Chunks.{chunks, wholes, room_of}
use Rattle.envelope.specs.Layouts.{joined}

-- each block has 32 bytes
abbrev pub Whole : List (List ℕ) → Type 0
Whole bs = (i : ℕ) → i < length bs → length (get_or bs i []) ≡ 32

rest_whole : (b : List ℕ) (bs : List (List ℕ)) → Whole (b ∷ bs) → Whole bs
rest_whole b bs w i h = w (suc i) (omega arith)

joined_append : (xs ys : List (List ℕ)) → joined (xs ++ ys) ≡ joined xs ++ joined ys
joined_append [] ys = refl
joined_append (x ∷ xs) ys = ap (λ r. x ++ r) (joined_append xs ys) ∙ sym (append_assoc x (joined xs) (joined ys))

pub joined_more : (bs : List (List ℕ)) (k : ℕ) → k < length bs → joined (take k bs) ++ get_or bs k [] ≡ joined (take (k + 1) bs)
joined_more bs k h =
    sym
    (ap joined (take_more bs k [] h)
    ∙ joined_append (take k bs) (get_or bs k [] ∷ [])
    ∙ ap (λ r. joined (take k bs) ++ r) (append-nil (get_or bs k [])))

pub length_joined : (bs : List (List ℕ)) → Whole bs → length (joined bs) ≡ 32 * length bs
length_joined [] w = refl
length_joined (b ∷ bs) w =
    let first : length b ≡ 32 = w 0 (omega arith) in
    let more = length_joined bs (rest_whole b bs w) in
    length-append b (joined bs) ∙ omega arith

pub length_front : (bs : List (List ℕ)) (k : ℕ) → Whole bs → k ≤ length bs → length (joined (take k bs)) ≡ 32 * k
length_front bs k w h =
    let size : length (take k bs) ≡ k = simp length-take (omega arith) in
    length_joined (take k bs) (λ i l.
    let small : i < k = omega arith in
    ap length (get_or-take k bs i [] small) ∙ w i (omega arith))
    ∙ ap (λ n. 32 * n) size

chunks_joined : (bs : List (List ℕ)) → Whole bs → chunks (length bs) (joined bs) ≡ bs
chunks_joined [] w = refl
chunks_joined (b ∷ bs) w =
    let size : length b ≡ 32 = w 0 (omega arith) in
    ap₂ (λ x y. x ∷ y) (take_at b (joined bs) 32 size)
    (ap (chunks (length bs)) (drop_at b (joined bs) 32 size) ∙ chunks_joined bs (rest_whole b bs w))

pub wholes_joined : (bs : List (List ℕ)) → Whole bs → length bs ≤ 4096 → wholes (joined bs) ≡ bs
wholes_joined bs w few =
    let n : room_of (joined bs) ≡ length bs = omega (arith, length_joined bs w) in
    ap (λ k. chunks k (joined bs)) n ∙ chunks_joined bs w
