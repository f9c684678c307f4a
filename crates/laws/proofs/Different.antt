-- The different lines of a list: each once, in their order; and the last four of them, as a region keeps them.
use Prim.Native.Nat.{min, suc, zero, ℕ}
use mathlib.Core.Path.{◌∙◌, ◌≡◌, ap, refl, sym}
use mathlib.Core.Bool.{cond, false, false≢true, not, true}
use mathlib.Core.List.{List, [], ◌∷◌}
use lib.Dec.{eqb}
use lib.ListN.{length, take}
use native.Mathlib.Nat.{min-zero, suc-min-suc, zero-min}
use borrow.Author.Tests.{eqb-true}
use Rattle.laws.proofs.Opened.{Once, is_kept, more, nothing, once_kept}
use Rattle.laws.specs.Neighbours.{since}
use Rattle.rules.proofs.Places.{eqb_swap}
use Rattle.rules.specs.Lists.{count, different, place}
use Rattle.rules.specs.Slots.{renewed, without_line}
use Rattle.undo.proofs.Laws.{flip, is_same, or_false, test}
use Rattle.undo.specs.Table.{is_in, keep}

abbrev others : ℕ → List ℕ → List ℕ
others x xs = keep (λ y. not (eqb y x)) xs

-- ---- each once, and no other

pub is_different : (x : ℕ) (ls : List ℕ) → is_in x (different ls) ≡ is_in x ls
unfolding different
is_different x [] = refl
is_different x (y ∷ ys) =
    test (eqb x y)
    (λ e. rw e)
    (λ e. rw (e, is_kept (λ z. not (eqb z y)) x (different ys), is_different x ys, e) (test (is_in x ys) (λ f. rw f) (λ f. rw f)))

different_once : (ls : List ℕ) → Once (different ls)
unfolding different
different_once [] = nothing
different_once (y ∷ ys) =
    more
    (is_kept (λ z. not (eqb z y)) y (different ys) ∙ rw (is_same y) (test (is_in y (different ys)) (λ f. rw f) (λ f. rw f)))
    (once_kept (λ z. not (eqb z y)) (different_once ys))

none_in : (x : ℕ) (xs : List ℕ) → is_in x xs ≡ false → count (eqb x) xs ≡ 0
unfolding count
none_in x [] e = refl
none_in x (y ∷ ys) e = let z = or_false (eqb x y) (is_in x ys) e in rw z.0 (none_in x ys z.1)

once_counted : (x : ℕ) {xs : List ℕ} → Once xs → count (eqb x) xs ≡ cond (is_in x xs) 1 0
unfolding count
once_counted x nothing = refl
once_counted x (more {x = y} {xs = ys} n o) =
    test (eqb x y)
    (λ e. let z : is_in x ys ≡ false = rw (eqb-true x y e) n in rw (e, none_in x ys z))
    (λ e. rw e (once_counted x o))

pub once : (x : ℕ) (ls : List ℕ) → count (eqb x) (different ls) ≡ cond (is_in x ls) 1 0
once x ls = once_counted x (different_once ls) ∙ ap (λ b. cond b 1 0) (is_different x ls)

-- ---- in their order

-- the others written since a line, where one of them is left out
since_others : (x y : ℕ) → eqb x y ≡ false → (ls : List ℕ) → since x (others y ls) ≡ others y (since x ls)
since_others x y n [] = refl
since_others x y n (z ∷ zs) =
    let ih = since_others x y n zs in
    test (eqb z x)
    (λ e. let f : eqb z y ≡ false = rw (eqb-true z x e) n in rw (e, f, e))
    (λ e. test (eqb z y) (λ f. rw (e, f, ih)) (λ f. rw (e, f, e, ih)))

since_different : (x : ℕ) (ls : List ℕ) → since x (different ls) ≡ different (since x ls)
unfolding different
since_different x [] = refl
since_different x (y ∷ ys) =
    test (eqb y x)
    (λ e. rw e)
    (λ e. rw e (ap (λ zs. y ∷ zs) (since_others x y (flip y x e) (different ys) ∙ ap (others y) (since_different x ys))))

place_since : (x : ℕ) (ls : List ℕ) → place (eqb x) ls ≡ length (since x ls)
unfolding place
place_since x [] = refl
place_since x (y ∷ ys) = rw (eqb_swap x y) (test (eqb y x) (λ e. rw e) (λ e. rw e (ap suc (place_since x ys))))

pub order : (x : ℕ) (ls : List ℕ) → place (eqb x) (different ls) ≡ length (different (since x ls))
order x ls = place_since x (different ls) ∙ ap length (since_different x ls)

-- ---- the first n of a list, with zeros behind where it is shorter

unfoldable pub padded : ℕ → List ℕ → List ℕ
padded zero xs = []
padded (suc n) [] = 0 ∷ padded n []
padded (suc n) (x ∷ xs) = x ∷ padded n xs

pub length_padded : (n : ℕ) (xs : List ℕ) → length (padded n xs) ≡ n
unfolding padded
length_padded zero xs = refl
length_padded (suc n) [] = ap suc (length_padded n [])
length_padded (suc n) (x ∷ xs) = ap suc (length_padded n xs)

take_padded : (n : ℕ) (xs : List ℕ) → take n (padded n xs) ≡ padded n xs
unfolding padded
take_padded zero xs = refl
take_padded (suc n) [] = ap (λ ys. 0 ∷ ys) (take_padded n [])
take_padded (suc n) (x ∷ xs) = ap (λ ys. x ∷ ys) (take_padded n xs)

others_same : (x : ℕ) (xs : List ℕ) → is_in x xs ≡ false → others x xs ≡ xs
others_same x [] e = refl
others_same x (y ∷ ys) e =
    let z = or_false (eqb x y) (is_in x ys) e in
    rw (flip x y z.0) (ap (λ ws. y ∷ ws) (others_same x ys z.1))

-- without one of them
without_padded : (l n : ℕ) {xs : List ℕ} → Once xs → take n (without_line l (padded (suc n) xs)) ≡ padded n (others l xs)
unfolding without_line padded
without_padded l zero o = refl
without_padded l (suc n) nothing =
    test (eqb 0 l)
    (λ e. ap (λ b. take (suc n) (cond b (padded (suc n) []) (0 ∷ without_line l (padded (suc n) [])))) e ∙ take_padded (suc n) [])
    (λ e. ap (λ b. take (suc n) (cond b (padded (suc n) []) (0 ∷ without_line l (padded (suc n) [])))) e ∙ ap (λ ys. 0 ∷ ys) (without_padded l n nothing))
without_padded l (suc n) (more {x} {xs} a o) =
    test (eqb x l)
    (λ e. let z : is_in l xs ≡ false = rw (← eqb-true x l e) a in rw (e, others_same l xs z) (take_padded (suc n) xs))
    (λ e. rw e (ap (λ ys. x ∷ ys) (without_padded l n o)))

-- the last four different lines, after one more
pub renewed_padded : (l : ℕ) (ls : List ℕ) → renewed l (padded 4 (different ls)) ≡ padded 4 (different (l ∷ ls))
unfolding renewed different padded
renewed_padded l ls = ap (λ ys. l ∷ ys) (without_padded l 3 (different_once ls))

-- a line's place among the first n
place_padded : (x n : ℕ) (xs : List ℕ) → is_in x xs ≡ true → place (eqb x) (padded n xs) ≡ min (place (eqb x) xs) n
unfolding place padded
place_padded x zero xs e = sym (min-zero (place (eqb x) xs))
place_padded x (suc n) [] e = absurd (false≢true e)
place_padded x (suc n) (y ∷ ys) e =
    test (eqb x y)
    (λ f. rw f (sym (zero-min (suc n))))
    (λ f. rw f (ap suc (place_padded x n ys (rw f at e)) ∙ sym (suc-min-suc (place (eqb x) ys) n)))

-- the count of a line that was written
pub count_is : (x : ℕ) (ls : List ℕ) → is_in x ls ≡ true → place (eqb x) (padded 4 (different ls)) ≡ min (length (different (since x ls))) 4
count_is x ls e = place_padded x 4 (different ls) (is_different x ls ∙ e) ∙ ap (λ n. min n 4) (order x ls)

-- ---- a line that is not among the last four stays so until it is written

not_without : (x l : ℕ) (xs : List ℕ) → is_in x xs ≡ false → is_in x (without_line l xs) ≡ false
unfolding without_line
not_without x l [] e = refl
not_without x l (y ∷ ys) e =
    let z = or_false (eqb x y) (is_in x ys) e in
    test (eqb y l) (λ f. rw f z.1) (λ f. rw (f, z.0) (not_without x l ys z.1))

not_taken : (x n : ℕ) (xs : List ℕ) → is_in x xs ≡ false → is_in x (take n xs) ≡ false
not_taken x zero xs e = refl
not_taken x (suc n) [] e = refl
not_taken x (suc n) (y ∷ ys) e = let z = or_false (eqb x y) (is_in x ys) e in rw z.0 (not_taken x n ys z.1)

pub not_renewed : (x l : ℕ) (xs : List ℕ) → eqb x l ≡ false → is_in x xs ≡ false → is_in x (renewed l xs) ≡ false
unfolding renewed
not_renewed x l xs n e = not_taken x 4 (l ∷ without_line l xs) (rw n (not_without x l xs e))
