-- The regions that were opened: each once, and those by number.
use Prim.Native.Nat.{◌+◌, ◌<◌, ◌≤◌, ℕ}
use mathlib.Core.Path.{◌∙◌, ◌≡◌, ap, refl, sym}
use mathlib.Core.Logic.{◌≢◌}
use mathlib.Core.Bool.{Bool, ◌&&◌, ◌||◌, cond, false, not, true}
use mathlib.Core.List.{List, [], ◌∷◌}
use lib.Dec.{eqb, leb}
use native.Mathlib.Nat.{le_trans}
use native.Mathlib.Omega.{arith}
use borrow.Author.Tests.{eqb-false, eqb-true, le-leb, leb-false, leb-true, lt-leb, ne_eqb}
use Rattle.laws.specs.Words.{opens_in}
use Rattle.rules.proofs.Sim.Base.{key_number, key_thread}
use Rattle.rules.proofs.Views.{is_opened}
use Rattle.rules.specs.History.{Account, Closes, Cuts, Nothing, Opens, Sets, Stores, Uses, depth_in, opened_in}
use Rattle.rules.specs.Tables.{key_of, number_of, thread_of}
use Rattle.undo.proofs.Laws.{is_same, test}
use Rattle.undo.specs.Table.{is_in, keep}

-- no number stands twice
pub data Once : List ℕ → Type 0 where
  nothing : Once []
  more : {x : ℕ} {xs : List ℕ} → is_in x xs ≡ false → Once xs → Once (x ∷ xs)

-- a number among those of a list that pass a test
pub is_kept : (q : ℕ → Bool) (k : ℕ) (xs : List ℕ) → is_in k (keep q xs) ≡ (is_in k xs && q k)
is_kept q k [] = refl
is_kept q k (x ∷ xs) =
    let ih = is_kept q k xs in
    test (eqb k x)
    (λ e. test (q x)
    (λ f. let g : q k ≡ true = rw (eqb-true k x e) f in rw (f, e, g))
    (λ f. let g : q k ≡ false = rw (eqb-true k x e) f in rw (f, e, ih, g) (test (is_in k xs) (λ y. rw y) (λ y. rw y))))
    (λ e. test (q x) (λ f. rw (f, e, ih)) (λ f. rw (f, e, ih)))

-- of some of them none stands twice
pub once_kept : (q : ℕ → Bool) {xs : List ℕ} → Once xs → Once (keep q xs)
once_kept q nothing = nothing
once_kept q (more {x} {xs} n o) =
    test (q x)
    (λ f. rw f (more (is_kept q x xs ∙ rw n) (once_kept q o)))
    (λ f. rw f (once_kept q o))

abbrev pub OpensOnce : List Account → Type 0
OpensOnce es = ((k : ℕ) → is_in k (opens_in es) ≡ is_opened es k) × Once (opens_in es)

not_above : (n : ℕ) → (not (eqb n 0) && leb n 0) ≡ false
not_above n =
    test (eqb n 0)
    (λ e. rw e)
    (λ e. rw e (test (leb n 0) (λ f. let z = leb-true n 0 f in let y = eqb-false n 0 e in absurd (y (omega arith))) (λ f. f)))

opened_begin : (t j : ℕ) (es : List Account) → opened_in j (Opens t ∷ es) ≡ cond (eqb (depth_in t es) 0 && eqb t j) (opened_in j es + 1) (opened_in j es)
unfolding opened_in
opened_begin t j es =
    test (eqb t j)
    (λ e. rw (e, eqb-true t j e) (test (eqb (depth_in j es) 0) (λ d. rw d) (λ d. rw d)))
    (λ e. rw e (test (eqb (depth_in t es) 0) (λ d. rw d) (λ d. rw d)))

-- one region more of its thread, numbered n + 1
next_here : (k n : ℕ) → n + 1 ≤ 65535
    → (eqb k (key_of (thread_of k) (n + 1)) || (not (eqb (number_of k) 0) && leb (number_of k) n)) ≡ (not (eqb (number_of k) 0) && leb (number_of k) (n + 1))
next_here k n h =
    test (eqb k (key_of (thread_of k) (n + 1)))
    (λ e. let q : k ≡ key_of (thread_of k) (n + 1) = eqb-true k (key_of (thread_of k) (n + 1)) e in
    let c : number_of k ≡ n + 1 = omega arith in
    rw (e, ne_eqb (number_of k) 0 (λ z. omega arith), le-leb (number_of k) (n + 1) (omega arith)))
    (λ e. let q = eqb-false k (key_of (thread_of k) (n + 1)) e in
    let c : number_of k ≢ n + 1 = λ z. q (omega arith) in
    rw e (test (leb (number_of k) n)
    (λ d. let y = leb-true (number_of k) n d in rw (d, le-leb (number_of k) (n + 1) (omega arith)))
    (λ d. let y = leb-false (number_of k) n d in
    let w : n + 1 < number_of k
    = test (eqb (number_of k) (n + 1))
    (λ a. absurd (c (eqb-true (number_of k) (n + 1) a)))
    (λ a. let b = eqb-false (number_of k) (n + 1) a in omega arith) in
    rw (d, lt-leb (number_of k) (n + 1) w))))

-- a region of another thread is another region
next_there : (k t n : ℕ) → n ≤ 65535 → eqb t (thread_of k) ≡ false → eqb k (key_of t n) ≡ false
next_there k t n h e = ne_eqb k (key_of t n) (λ q. eqb-false t (thread_of k) e (sym (key_thread t n (omega arith)) ∙ ap thread_of (sym q)))

opens_begin : (t : ℕ) (es : List Account) → ((j : ℕ) → opened_in j (Opens t ∷ es) ≤ 65535) → OpensOnce es → OpensOnce (Opens t ∷ es)
unfolding opens_in
opens_begin t es h o =
    test (eqb (depth_in t es) 0)
    (λ d. let few : opened_in t es + 1 ≤ 65535 = rw (opened_begin t t es, d, is_same t) at (h t) in
    rw d (
      λ k. rw (opened_begin t (thread_of k) es, d)
          (test (eqb t (thread_of k))
          (λ e. let q : t ≡ thread_of k = eqb-true t (thread_of k) e in
          let few' : opened_in (thread_of k) es + 1 ≤ 65535 = rw q at few in
          rw (e, q, o.0 k) (next_here k (opened_in (thread_of k) es) few'))
          (λ e. rw (e, next_there k t (opened_in t es + 1) few e) (o.0 k))),
      more
          (o.0 (key_of t (opened_in t es + 1))
          ∙ rw (key_thread t (opened_in t es + 1) (omega arith), key_number t (opened_in t es + 1) (omega arith), lt-leb (opened_in t es + 1) (opened_in t es) (omega arith))
          (test (eqb (opened_in t es + 1) 0) (λ z. rw z) (λ z. rw z)))
          o.1,
    ))
    (λ d. rw d (λ k. rw (opened_begin t (thread_of k) es, d) (o.0 k), o.1))

pub begin_more : (t j : ℕ) (es : List Account) → opened_in j es ≤ opened_in j (Opens t ∷ es)
begin_more t j es = rw (opened_begin t j es) (test (eqb (depth_in t es) 0 && eqb t j) (λ d. rw d (omega arith)) (λ d. rw d (omega arith)))

-- after every list of events with numbers of 16 bits
pub opens : (es : List Account) → ((t : ℕ) → opened_in t es ≤ 65535) → OpensOnce es
unfolding opens_in opened_in
opens [] h = (λ k. sym (not_above (number_of k)), nothing)
opens (Sets l s ∷ es) h = opens es h
opens (Opens t ∷ es) h = opens_begin t es h (opens es (λ j. le_trans (begin_more t j es) (h j)))
opens (Closes t ∷ es) h = opens es h
opens (Uses t l ∷ es) h = opens es h
opens (Stores t l f ∷ es) h = opens es h
opens (Cuts ∷ es) h = opens es h
opens (Nothing ∷ es) h = opens es h
