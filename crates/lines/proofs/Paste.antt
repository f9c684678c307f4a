-- Bytes stored one behind the other: the one law that every writer rests on, and where a part of a buffer was lent.
use borrow.Rule.Slice.PartMut.{mid_of, put_mid}
use Prim.Native.Nat.{◌+◌, ◌-◌, ◌≤◌, suc, ℕ}
use mathlib.Core.Path.{◌∙◌, ◌≡◌}
use mathlib.Core.List.{List, [], ◌++◌, ◌∷◌, append_assoc, append-nil}
use lib.ListN.{drop, length, length-drop, length-take, set, take}
use native.Mathlib.Omega.{arith}
use lib.Seq.{drop-drop, drop-length, sets, sets-eq, take_all}
use native.Mathlib.Nat.{add-suc, add-zero, le_refl, suc-add, zero-add}

module _ {A : Type 0} where
  -- what is stored in two runs, the second behind the first, is stored in one. It asks nothing.
  pub sets_join : (d : List A) (at : ℕ) (xs ys : List A) → sets d at (xs ++ ys) ≡ sets (sets d at xs) (at + length xs) ys
  sets_join d at [] ys = rw add-zero
  sets_join d at (x ∷ xs) ys = rw (add-suc at (length xs), ← suc-add at (length xs)) (sets_join (set d at x) (suc at) xs ys)

  -- what is stored inside a buffer, said by its three parts
  pub sets_paste : (d : List A) (at : ℕ) (vs : List A) → at + length vs ≤ length d → sets d at vs ≡ take at d ++ (vs ++ drop (at + length vs) d)
  sets_paste d at vs h = sets-eq vs d at h ∙ append_assoc (take at d) vs (drop (at + length vs) d)

  -- a list stored over one of the same length leaves that list
  pub sets_whole : (d vs : List A) → length vs ≡ length d → sets d 0 vs ≡ vs
  sets_whole d vs e = sets-eq vs d 0 (omega arith) ∙ rw (zero-add (length vs), e, drop-length d, append-nil vs)

  -- a part of k elements from a on was lent and now holds vs: the whole buffer has them in their place
  pub part_is : (d : List A) (a k : ℕ) (vs : List A) → length vs ≡ k → a + k ≤ length d → put_mid a k d vs ≡ sets d a vs
  part_is d a k vs e h = rw (sets_paste d a vs (omega arith), e, drop-drop k a d)

  -- the same where it was filled from its front
  pub sets_part : (d : List A) (a k : ℕ) (vs : List A) → length vs ≡ k → a + k ≤ length d → put_mid a k d (sets (mid_of a k d) 0 vs) ≡ sets d a vs
  sets_part d a k vs e h =
      let l : length vs ≡ length (mid_of a k d) = simp (length-take, length-drop) (omega arith) in
      rw (sets_whole (mid_of a k d) vs l, part_is d a k vs e h)

  -- the part of a slice from a place to its end is what stands there
  pub rest : (xs : List A) (at : ℕ) → take (length xs - at) (drop at xs) ≡ drop at xs
  rest xs at = take_all (length xs - at) (drop at xs) (simp length-drop (le_refl (length xs - at)))
