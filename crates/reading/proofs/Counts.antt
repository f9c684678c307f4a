-- Keys do not fall, so a thread's log entries stand together: those of the last entry's thread are counted, and later threads have none yet.
use Prim.Native.Nat.{◌*◌, ◌+◌, ◌-◌, ◌<◌, ◌≤◌, suc, zero, ℕ}
use mathlib.Core.Path.{◌≡◌, ap, refl, sym}
use mathlib.Core.Bool.{cond, false}
use mathlib.Core.List.{List, [], ◌++◌, ◌∷◌}
use lib.Dec.{eqb}
use lib.ListN.{get_or, length, length-append}
use native.Mathlib.Omega.{arith}
use borrow.Author.Tests.{eq-eqb, eqb-false, eqb-true, ne_eqb}
use lib.Seq.{append_snoc, get_or_at}
use Rattle.headed.proofs.Header.{held_long}
use Rattle.headed.specs.Reader.{entry_in, held_from}
use Rattle.rules.specs.Image.{Logged, no_listed, no_logged}
use Rattle.rules.specs.Lists.{count}
use Rattle.rules.specs.Reader.{is_logged_by, key_at, last_listed, last_logged}
use Rattle.rules.specs.Tables.{thread_of}
use Rattle.rules.specs.declared.Listed.{Listed}
use Rattle.rules.proofs.Codec.Valid.{count_append}
use Rattle.undo.proofs.Laws.{test}

module _ {A : Type 0} where
  pub length_more : (xs : List A) (x : A) → length (xs ++ (x ∷ [])) ≡ length xs + 1
  length_more xs x = length-append xs (x ∷ [])

  pub last_more : (xs : List A) (x z : A) → get_or (xs ++ (x ∷ [])) (length (xs ++ (x ∷ [])) - 1) z ≡ x
  last_more xs x z = let e : length xs ≡ length (xs ++ (x ∷ [])) - 1 = rw (length_more xs x) (omega arith) in get_or_at xs x [] z (length (xs ++ (x ∷ [])) - 1) e

pub last_listed_lem : (rs : List Listed) (r : Listed) → last_listed (rs ++ (r ∷ [])) ≡ r.key
last_listed_lem rs r = ap (λ x. x.key) (last_more rs r no_listed)

pub last_logged_lem : (es : List Logged) (e : Logged) → last_logged (es ++ (e ∷ [])) ≡ e.key
last_logged_lem es e = ap (λ x. x.key) (last_more es e no_logged)

-- the entries of a thread
abbrev pub logged_by : ℕ → List Logged → ℕ
logged_by t es = count (is_logged_by t) es

-- ---- the entries of one record are all of the region of its key

module _ (n : ℕ) (bs : List ℕ) where
  count_held : (t i m : ℕ) → logged_by t (held_from n bs i m) ≡ cond (eqb (thread_of (key_at bs 0)) t) m 0
  unfolding count held_from
  count_held t i zero = test (eqb (thread_of (key_at bs 0)) t) (λ e. rw e) (λ e. rw e)
  count_held t i (suc m) =
      let ih = count_held t (suc i) m in
      test (eqb (thread_of (key_at bs 0)) t) (λ e. rw e (ap suc (rw e at ih))) (λ e. rw e (rw e at ih))

  last_held : (es : List Logged) (i m : ℕ) → last_logged (es ++ held_from n bs i (suc m)) ≡ key_at bs 0
  unfolding held_from
  last_held es i zero = last_logged_lem es (entry_in n bs i)
  last_held es i (suc m) = rw (append_snoc es (entry_in n bs i) (held_from n bs (suc i) (suc m))) at (last_held (es ++ (entry_in n bs i ∷ [])) (suc i) m)

  pub record_last : (es : List Logged) (m : ℕ) → 1 ≤ m → last_logged (es ++ held_from n bs 0 m) ≡ key_at bs 0
  record_last es zero h = absurd (omega arith)
  record_last es (suc m) h = last_held es 0 m

  pub record_count : (t : ℕ) (es : List Logged) (m : ℕ) → logged_by t (es ++ held_from n bs 0 m) ≡ logged_by t es + cond (eqb (thread_of (key_at bs 0)) t) m 0
  record_count t es m = rw (← count_held t 0 m) (count_append (is_logged_by t) es (held_from n bs 0 m))

-- what the reader keeps of the log: the last thread is below 8, later ones have no entry, it has at most 32, and so has each before it
pub record Few (es : List Logged) : Type 0 where
  pub last : thread_of (last_logged es) < 8
  pub late : (t : ℕ) → thread_of (last_logged es) < t → logged_by t es ≡ 0
  pub full : logged_by (thread_of (last_logged es)) es ≤ 32
  pub sum : length es ≤ 32 * thread_of (last_logged es) + logged_by (thread_of (last_logged es)) es

pub few_none : Few []
unfolding count
few_none = record { last = omega arith; late = λ t h. refl; full = omega arith; sum = omega arith }

-- the entries of the thread of a key that does not fall
pub count_of : (es : List Logged) (k : ℕ) → Few es → last_logged es ≤ k
    → logged_by (thread_of k) es ≡ cond (eqb (thread_of (last_logged es)) (thread_of k)) (logged_by (thread_of (last_logged es)) es) 0
count_of es k f h =
    test (eqb (thread_of (last_logged es)) (thread_of k))
    (λ e. rw e (ap (λ t. logged_by t es) (sym (eqb-true (thread_of (last_logged es)) (thread_of k) e))))
    (λ e. rw e (f.late (thread_of k) (later e)))
  where
    later : eqb (thread_of (last_logged es)) (thread_of k) ≡ false → thread_of (last_logged es) < thread_of k
    later e = let n : thread_of (last_logged es) ≡ thread_of k → ⊥ = eqb-false (thread_of (last_logged es)) (thread_of k) e in omega arith

-- all before it have at most 32 each
pub log_room : (es : List Logged) (k : ℕ) → Few es → last_logged es ≤ k → length es ≤ 32 * thread_of k + logged_by (thread_of k) es
log_room es k f h =
    test (eqb (thread_of (last_logged es)) (thread_of k))
    (λ e. let q : thread_of (last_logged es) ≡ thread_of k = eqb-true (thread_of (last_logged es)) (thread_of k) e in rw q at f.sum)
    (λ e. let d : thread_of (last_logged es) ≡ thread_of k → ⊥ = eqb-false (thread_of (last_logged es)) (thread_of k) e in omega (arith, f.sum, f.full))

-- so m entries that are let through find their places
pub few_more : (es : List Logged) (n m : ℕ) (bs : List ℕ) → Few es → last_logged es ≤ key_at bs 0 → thread_of (key_at bs 0) < 8 → 1 ≤ m
    → logged_by (thread_of (key_at bs 0)) es + m ≤ 32 → Few (es ++ held_from n bs 0 m)
few_more es n m bs f h t s r =
    let k = key_at bs 0 in
    let a = log_room es k f h in
    let b : logged_by (thread_of k) (es ++ held_from n bs 0 m) ≡ logged_by (thread_of k) es + m = rw (record_count n bs (thread_of k) es m, eq-eqb (thread_of k) (thread_of k) refl) in
    let g : (u : ℕ) → thread_of k < u → logged_by u (es ++ held_from n bs 0 m) ≡ 0 =
    λ u w. let d : thread_of k ≡ u → ⊥ = λ q. omega arith in rw (record_count n bs u es m, ne_eqb (thread_of k) u d, f.late u (omega arith)) in
    record {
      last = rw (record_last n bs es m s) t;
      late = rw (record_last n bs es m s) g;
      full = rw (record_last n bs es m s, b) r;
      sum = rw (record_last n bs es m s, b, length-append es (held_from n bs 0 m), held_long n bs 0 m) (omega arith);
    }
