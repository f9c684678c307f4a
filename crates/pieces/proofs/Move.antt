-- Bytes of a buffer go to its front.
use Prim.Native.Nat.{◌-◌, ◌<◌, ◌≤◌, suc, zero, ℕ}
use mathlib.Core.Path.{◌∙◌, ◌≡◌, refl, sym}
use mathlib.Core.List.{List, [], ◌∷◌}
use lib.Dec.{leb}
use lib.ListN.{drop, length, length-drop, length-take, take}
use native.Mathlib.Omega.{arith}
use borrow.Author.Tests.{le-leb, leb-false, leb-true, lt-leb}
use lib.Seq.{paste, take_all, take_at, take-nil, take-take}
use native.Mathlib.Nat.{zero-add}
use Rattle.undo.proofs.Laws.{test}
use Rattle.pieces.specs.Shift.{Refilled, moved, shifted}

pub pasted : (d : List ℕ) (at n : ℕ) → paste d 0 (drop at d) n ≡ shifted d at n
unfolding shifted
pasted d at n = rw (zero-add n)

pub shifted_none : (d : List ℕ) (at : ℕ) → shifted d at 0 ≡ d
unfolding shifted
shifted_none d at = refl

pub moved_short : (d : List ℕ) (at n : ℕ) → length d < n → moved d at n ≡ 0
unfolding moved
moved_short d at n h = rw (lt-leb n (length d) h)

pub moved_all : (d : List ℕ) (at n : ℕ) → n ≤ length d → moved d at n ≡ n - at
unfolding moved
moved_all d at n h = rw (le-leb n (length d) h)

-- ---- what stands at the front of a buffer then

drop_take : (a n : ℕ) (l : List ℕ) → drop a (take n l) ≡ take (n - a) (drop a l)
drop_take zero n l = let e : n - 0 ≡ n = omega arith in rw e
drop_take (suc a) zero l = let e : 0 - suc a ≡ 0 = omega arith in rw e
drop_take (suc a) (suc n) [] = sym (take-nil (suc n - suc a))
drop_take (suc a) (suc n) (x ∷ l) = let e : suc n - suc a ≡ n - a = omega arith in rw e (drop_take a n l)

-- what was moved: the bytes from `at` on of the first n
pub shifted_front : (d : List ℕ) (at n : ℕ) → n ≤ length d → take (moved d at n) (shifted d at (moved d at n)) ≡ drop at (take n d)
unfolding shifted
shifted_front d at n h =
    let l : length (take (n - at) (drop at d)) ≡ n - at = simp (length-take, length-drop) (omega arith) in
    rw (moved_all d at n h, take_at (take (n - at) (drop at d)) (drop (n - at) d) (n - at) l, drop_take at n d)

-- what counts of a refilled buffer begins with what was held
pub refilled_front : (d d' : List ℕ) (have r : ℕ) → Refilled d d' have r → length d' ≡ length d → take have (take r d') ≡ take have d
refilled_front d d' have r f e =
    test (leb have (length d))
    (λ h. take-take have r d' (f.grows (leb-true have (length d) h)) ∙ f.stays)
    (λ h. let k : length d ≤ have = omega (arith, leb-false have (length d) h) in
    rw (take_all r d' (omega (arith, f.full k))) f.stays)
