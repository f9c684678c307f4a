-- The records of a file, one behind the other: how long each is, and that a whole one is read in the same way whatever stands behind it.
use Rattle.std.specs.Prelude.{Ok}
use Prim.Native.Nat.{◌+◌, ◌-◌, ◌<◌, ◌≤◌, suc, zero, ℕ}
use mathlib.Core.Path.{◌∙◌, ◌≡◌, ap, refl}
use mathlib.Core.Bool.{false, false≢true, true}
use mathlib.Core.List.{List, [], ◌++◌, ◌∷◌, map}
use lib.Dec.{ltb}
use lib.ListN.{drop, get_or, length, length-append, length-drop}
use native.Mathlib.Omega.{arith}
use borrow.Author.Tests.{le-ltb, lt-ltb, ltb-false, ltb-true}
use lib.Seq.{drop-append-le, drop-drop}
use native.Mathlib.Nat.{suc-add, zero-add}
use Rattle.events.specs.Whole.{record_length, whole_from, whole_length}
use Rattle.rules.proofs.Laws.{part_front, shares_front}
use Rattle.rules.specs.Kinds.{is_kind, kind_at}
use Rattle.rules.specs.Record.{body_length, event_of, is_whole, read_record, records_from, records_of}
use Rattle.undo.proofs.Laws.{test}
use Rattle.undo.specs.Table.{keep}

module _ (k : ℕ) (body : List ℕ) where
  rec_unknown : is_kind k ≡ false → record_length (k ∷ body) ≡ 0
  unfolding record_length read_record
  rec_unknown h = rw h

  rec_short : is_kind k ≡ true → length body < body_length k → record_length (k ∷ body) ≡ 0
  unfolding record_length read_record
  rec_short h l = rw (h, lt-ltb _ _ l)

  whole_read : is_kind k ≡ true → body_length k ≤ length body → is_whole (read_record (k ∷ body)) ≡ true
  unfolding read_record
  whole_read h l = rw (h, le-ltb _ _ l)

  rec_whole : is_kind k ≡ true → body_length k ≤ length body → record_length (k ∷ body) ≡ suc (body_length k)
  unfolding record_length read_record
  rec_whole h l = rw (h, le-ltb _ _ l)

-- the length of the record at the front, by the tests on it
pub length_empty : (r : List ℕ) → length r ≡ 0 → record_length r ≡ 0
unfolding record_length read_record
length_empty [] e = refl
length_empty (k ∷ body) e = absurd (omega arith)

pub length_whole : (r : List ℕ) → 0 < length r → is_kind (get_or r 0 0) ≡ true → body_length (get_or r 0 0) ≤ length r - 1 → record_length r ≡ suc (body_length (get_or r 0 0))
length_whole [] z h l = absurd (omega arith)
length_whole (k ∷ body) z h l = rec_whole k body h (let e : suc (length body) - 1 ≡ length body = omega arith in rw e at l)

-- what a record with a length is
pub record Stands (r : List ℕ) : Type 0 where
  pub some : 0 < length r
  pub known : is_kind (get_or r 0 0) ≡ true
  pub room_for : body_length (get_or r 0 0) ≤ length r - 1
  pub is_whole_lem : is_whole (read_record r) ≡ true
  pub is_long : record_length r ≡ suc (body_length (get_or r 0 0))

pub stands : (r : List ℕ) → 0 < record_length r → Stands r
stands [] h = absurd (omega (arith, length_empty [] refl))
stands (k ∷ body) h =
    test (is_kind k)
    (λ u. test (ltb (length body) (body_length k)) (λ s. absurd (omega (arith, rec_short k body u (ltb-true (length body) (body_length k) s))))
    (λ s. let b : body_length k ≤ length body = ltb-false (length body) (body_length k) s in
    let e : suc (length body) - 1 ≡ length body = omega arith in
    record { some = omega arith; known = u; room_for = rw e b; is_whole_lem = whole_read k body u b; is_long = rec_whole k body u b }))
    (λ u. absurd (omega (arith, rec_unknown k body u)))

pub not_whole : (r : List ℕ) → record_length r ≡ 0 → is_whole (read_record r) ≡ false
unfolding record_length
not_whole r e = test (is_whole (read_record r)) (λ w. absurd (omega (arith, rw w at e))) (λ w. w)

pub records_skip : (k : ℕ) (bs : List ℕ) → records_from k bs ≡ records_from 0 (drop k bs)
unfolding records_from
records_skip zero bs = refl
records_skip (suc k) [] = refl
records_skip (suc k) (b ∷ bs) = records_skip k bs

whole_skip : (k : ℕ) (bs : List ℕ) → k ≤ length bs → whole_from k bs ≡ k + whole_from 0 (drop k bs)
unfolding whole_from
whole_skip zero bs h = rw zero-add
whole_skip (suc k) [] h = absurd (omega arith)
whole_skip (suc k) (b ∷ bs) h = rw (whole_skip k bs (omega arith), suc-add)

-- a whole record, and what stands behind it
on_length : (k : ℕ) (body : List ℕ) → is_whole (read_record (k ∷ body)) ≡ true → body_length k ≤ length body → whole_length (k ∷ body) ≡ suc (body_length k) + whole_length (drop (body_length k) body)
unfolding whole_length whole_from
on_length k body w h = rw (w, whole_skip (body_length k) body h, suc-add)

pub length_on : (r : List ℕ) → 0 < record_length r → whole_length r ≡ record_length r + whole_length (drop (record_length r) r)
length_on [] h = absurd (omega (arith, length_empty [] refl))
length_on (k ∷ body) h = let s = stands (k ∷ body) h in rw s.is_long (on_length k body s.is_whole_lem (omega (arith, s.room_for)))

pub fits_on : (r : List ℕ) → 0 < record_length r → record_length r ≤ length r
fits_on r h = let s = stands r h in omega (arith, s.is_long, s.room_for, s.some)

-- no whole record
pub length_off : (r : List ℕ) → record_length r ≡ 0 → whole_length r ≡ 0
unfolding whole_length whole_from
length_off [] e = refl
length_off (k ∷ body) e = rw (not_whole (k ∷ body) e)

-- one whole record more, at a place of a file
pub length_more : (file : List ℕ) (at n : ℕ) → n ≡ record_length (drop at file) → 0 < n → at + whole_length (drop at file) ≡ at + n + whole_length (drop (at + n) file)
length_more file at n e h =
    let z : 0 < record_length (drop at file) = omega arith in
    rw (length_on (drop at file) z, ← e, drop-drop n at file) (omega arith)

pub fits_more : (file : List ℕ) (at n : ℕ) → n ≡ record_length (drop at file) → 0 < n → at + n ≤ length file
fits_more file at n e h =
    let z : 0 < record_length (drop at file) = omega arith in
    omega (arith, fits_on (drop at file) z, length-drop at file)

pub whole_pos : (r : List ℕ) → is_whole (read_record r) ≡ true → 0 < record_length r
unfolding record_length
whole_pos r w = rw w (omega arith)

-- the first record, and those behind it
module _ (b : ℕ) (bs : List ℕ) where
  pub records_on : is_whole (read_record (b ∷ bs)) ≡ true → records_from 0 (b ∷ bs) ≡ (b ∷ bs) ∷ records_from (body_length b) bs
  unfolding records_from
  records_on w = rw w

  pub records_off : is_whole (read_record (b ∷ bs)) ≡ false → records_from 0 (b ∷ bs) ≡ (b ∷ bs) ∷ []
  unfolding records_from
  records_off w = rw w

pub records_none : (k : ℕ) → records_from k [] ≡ []
unfolding records_from
records_none k = refl

pub records_pass : (k b : ℕ) (bs : List ℕ) → records_from (suc k) (b ∷ bs) ≡ records_from k bs
unfolding records_from
records_pass k b bs = refl

pub pos : (n : ℕ) → (n ≡ 0 → ⊥) → 0 < n
pos zero f = absurd (f refl)
pos (suc n) f = omega arith

-- ---- a whole record is read in the same way whatever stands behind it

get_d_front : (xs ys : List ℕ) (i : ℕ) → i < length xs → get_or (xs ++ ys) i 0 ≡ get_or xs i 0
get_d_front [] ys i h = absurd (omega arith)
get_d_front (x ∷ xs) ys zero h = refl
get_d_front (x ∷ xs) ys (suc i) h = get_d_front xs ys i (omega arith)

event_front : (k : ℕ) (body f : List ℕ) → is_kind k ≡ true → body_length k ≤ length body → event_of k (body ++ f) ≡ event_of k body
unfolding event_of kind_at
event_front zero body f u h =
    let l : 10 ≤ length (drop 3 body) = rw length-drop (omega arith) in
    rw (get_d_front body f 0 (omega arith), part_front 1 2 body f (omega arith), drop-append-le 3 body f (omega arith), shares_front (drop 3 body) f l)
event_front (suc zero) body f u h = rw (get_d_front body f 0 (omega arith))
event_front (suc (suc zero)) body f u h = rw (get_d_front body f 0 (omega arith))
event_front (suc (suc (suc zero))) body f u h = rw (get_d_front body f 0 (omega arith), get_d_front body f 1 (omega arith), get_d_front body f 2 (omega arith))
event_front (suc (suc (suc (suc zero)))) body f u h =
    rw (get_d_front body f 0 (omega arith), get_d_front body f 1 (omega arith), get_d_front body f 2 (omega arith), part_front 3 8 body f (omega arith))
event_front (suc (suc (suc (suc (suc zero))))) body f u h = rw (get_d_front body f 0 (omega arith))
event_front (suc (suc (suc (suc (suc (suc zero)))))) body f u h = rw (get_d_front body f 0 (omega arith))
event_front (suc (suc (suc (suc (suc (suc (suc zero))))))) body f u h = rw (get_d_front body f 0 (omega arith))
event_front (suc (suc (suc (suc (suc (suc (suc (suc zero)))))))) body f u h = refl
event_front (suc (suc (suc (suc (suc (suc (suc (suc (suc zero))))))))) body f u h = refl
event_front (suc (suc (suc (suc (suc (suc (suc (suc (suc (suc zero)))))))))) body f u h =
    rw (
      get_d_front body f 0 (omega arith),
      get_d_front body f 1 (omega arith),
      get_d_front body f 2 (omega arith),
      get_d_front body f 3 (omega arith),
      part_front 4 8 body f (omega arith),
    )
event_front (suc (suc (suc (suc (suc (suc (suc (suc (suc (suc (suc k))))))))))) body f u h = absurd (false≢true u)

read_by : (k : ℕ) (body : List ℕ) → is_kind k ≡ true → body_length k ≤ length body → read_record (k ∷ body) ≡ Ok (event_of k body)
unfolding read_record
read_by k body h l = rw (h, le-ltb _ _ l)

pub read_front : (r f : List ℕ) → is_whole (read_record r) ≡ true → read_record (r ++ f) ≡ read_record r
read_front [] f w = absurd (omega (arith, whole_pos [] w, length_empty [] refl))
read_front (k ∷ body) f w =
    let s = stands (k ∷ body) (whole_pos (k ∷ body) w) in
    let l : body_length k ≤ length body = omega (arith, s.room_for) in
    let m : body_length k ≤ length (body ++ f) = rw length-append (omega arith) in
    rw (read_by k (body ++ f) s.known m, read_by k body s.known l, event_front k body f s.known l)

-- the first byte
pub kind_front : (r f : List ℕ) → is_whole (read_record r) ≡ true → get_or (r ++ f) 0 0 ≡ get_or r 0 0
kind_front r f w = get_d_front r f 0 (stands r (whole_pos r w)).some

-- ---- the records of a piece, and of what is left of it with all that comes behind

-- the whole records among some
abbrev pub wholes : List (List ℕ) → List (List ℕ)
wholes rs = keep (λ r. is_whole (read_record r)) rs

-- each record with f behind it
abbrev pub onto : List ℕ → List (List ℕ) → List (List ℕ)
onto f rs = map (λ r. r ++ f) rs

split : (k : ℕ) (bs f : List ℕ) → k ≤ length bs → records_from k (bs ++ f) ≡ onto f (wholes (records_from k bs)) ++ records_from 0 (drop (whole_from k bs) bs ++ f)
unfolding records_from whole_from
split zero [] f h = refl
split (suc k) [] f h = absurd (omega arith)
split (suc k) (b ∷ bs) f h = split k bs f (omega arith)
split zero (b ∷ bs) f h =
    test (is_whole (read_record (b ∷ bs)))
    (λ w. let s = stands (b ∷ bs) (whole_pos (b ∷ bs) w) in
    let v : is_whole (read_record (b ∷ (bs ++ f))) ≡ true = ap is_whole (read_front (b ∷ bs) f w) ∙ w in
    let ih = split (body_length b) bs f (omega (arith, s.room_for)) in
    rw (w, v, ih))
    (λ w. rw w)

pub records_split : (a f : List ℕ) → records_of (a ++ f) ≡ onto f (wholes (records_of a)) ++ records_of (drop (whole_length a) a ++ f)
unfolding whole_length
records_split a f = split 0 a f (omega arith)

no_length : (r : List ℕ) → is_whole (read_record r) ≡ false → record_length r ≡ 0
unfolding record_length
no_length r w = rw w

-- no whole record is left
stop : (k : ℕ) (bs : List ℕ) → k ≤ length bs → record_length (drop (whole_from k bs) bs) ≡ 0
unfolding whole_from
stop k [] h = length_empty [] refl
stop (suc k) (b ∷ bs) h = stop k bs (omega arith)
stop zero (b ∷ bs) h =
    test (is_whole (read_record (b ∷ bs)))
    (λ w. let s = stands (b ∷ bs) (whole_pos (b ∷ bs) w) in rw w (stop (body_length b) bs (omega (arith, s.room_for))))
    (λ w. rw w (no_length (b ∷ bs) w))

pub whole_stop : (a : List ℕ) → record_length (drop (whole_length a) a) ≡ 0
unfolding whole_length
whole_stop a = stop 0 a (omega arith)
