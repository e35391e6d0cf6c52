-- A part of a buffer written over, place by place.
use borrow.Rule.Slice.PartMut.{put_mid, post_of}
use Rattle.std.proofs.Common.{◌≡◌, ℕ, ◌+◌, ◌-◌, ◌<◌, ◌≤◌, List, ◌++◌, length, get_or, take, ◌∙◌, arith}
use Rattle.std.proofs.lemmas.List.{get_or_append_left, get_or-append_right, get_or-take, length-take-le}

module _ (a k : ℕ) (xs ys : List ℕ) (h : a ≤ length xs) where
  pub put_before : (i : ℕ) → i < a → get_or (put_mid a k xs ys) i 0 ≡ get_or xs i 0
  put_before i l =
      let n = length-take-le a xs h in
      get_or_append_left (take a xs) (ys ++ post_of a k xs) 0 i (omega arith) ∙ get_or-take a xs i 0 l

  pub put_inside : (i : ℕ) → a ≤ i → i < a + length ys → get_or (put_mid a k xs ys) i 0 ≡ get_or ys (i - a) 0
  put_inside i l m =
      get_or-append_right (take a xs) (ys ++ post_of a k xs) a i 0 (length-take-le a xs h) l
      ∙ get_or_append_left ys (post_of a k xs) 0 (i - a) (omega arith)
