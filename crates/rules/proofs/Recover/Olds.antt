-- The old lines of log entries: of a region and a line, and what is saved of a thread.
use Rattle.undo.specs.Machine as u
use Rattle.undo.specs.Claim as claim
use Rattle.undo.specs.Recovery.{Undo, aimed, older, olds}
use Prim.Native.Nat.{◌*◌, ◌+◌, ◌<◌, ◌≤◌, ℕ}
use mathlib.Core.Path.{◌∙◌, ◌≡◌, refl, sym}
use mathlib.Core.Logic.{◌≢◌}
use mathlib.Core.Bool.{Bool, ◌&&◌, cond, false, false≢true, not, true}
use mathlib.Core.List.{List, [], ◌++◌, ◌∷◌, map}
use lib.Dec.{eqb}
use lib.ListN.{length}
use native.Mathlib.Omega.{arith}
use borrow.Author.Tests.{eqb-false, eqb-true, ne_eqb, not-true}
use native.Mathlib.Nat.{le_refl}
use Rattle.rules.proofs.Codec.Bytes.{is_line}
use Rattle.rules.proofs.Recover.Rising.{Rises, higher, no_more, rises_above}
use Rattle.rules.proofs.Sim.State.{GoodEntry}
use Rattle.rules.proofs.Views.{entry_at}
use Rattle.rules.specs.Image.{Logged, order_of, saved_entry}
use Rattle.rules.specs.Lists.{all, place, rising}
use Rattle.rules.specs.Tables.{listed, thread_at}
use Rattle.rules.specs.declared.Board.{Board}
use Rattle.rules.specs.declared.Entry.{Entry}
use Rattle.undo.proofs.Laws.{and_true, cons_nil, flip, is_same, or_false, or_right, test}
use Rattle.undo.specs.Table.{any, is_in, keep}

-- ---- the old lines of a region's entries of a line

abbrev pub undos : List Logged → List (Undo (List ℕ))
undos [] = []
undos (e ∷ es) = record { line = e.line; old = e.old } ∷ undos es

abbrev pub is_chosen : ℕ → ℕ → Logged → Bool
is_chosen r l e = eqb e.key r && eqb l e.line

abbrev pub chosen : ℕ → ℕ → List Logged → List (List ℕ)
chosen r l [] = []
chosen r l (e ∷ es) = cond (is_chosen r l e) (e.old ∷ chosen r l es) (chosen r l es)

module _ (r l : ℕ) where
  pub chosen_aimed : (es : List Logged) → aimed l (undos (keep (λ e. eqb e.key r) es)) ≡ chosen r l es
  chosen_aimed [] = refl
  chosen_aimed (e ∷ es) =
      let ih : aimed l (undos (keep (λ e. eqb e.key r) es)) ≡ chosen r l es = chosen_aimed es in
      test (eqb e.key r)
      (λ a. test (eqb l e.line) (λ d. simp (a, d, ih)) (λ d. simp (a, d, ih)))
      (λ a. simp (a, ih))

  pub chosen_append : (es fs : List Logged) → chosen r l (es ++ fs) ≡ chosen r l es ++ chosen r l fs
  chosen_append [] fs = refl
  chosen_append (e ∷ es) fs =
      let ih : chosen r l (es ++ fs) ≡ chosen r l es ++ chosen r l fs = chosen_append es fs in
      test (is_chosen r l e) (λ a. simp (a, ih)) (λ a. simp (a, ih))

  pub chosen_none : (f : ℕ → Logged) (os : List ℕ) → ((o : ℕ) → is_in o os ≡ true → is_chosen r l (f o) ≡ false) → chosen r l (map f os) ≡ []
  chosen_none f [] h = refl
  chosen_none f (o ∷ os) h = rw (h o (rw (is_same o))) (chosen_none f os (λ x e. h x (or_right (eqb x o) e)))

  -- one number of a rising list is meant
  pub chosen_one : (f : ℕ → Logged) (n : ℕ) {k : ℕ} {os : List ℕ} → Rises k os → is_in n os ≡ true
      → ((o : ℕ) → is_in o os ≡ true → is_chosen r l (f o) ≡ eqb o n) → chosen r l (map f os) ≡ (f n).old ∷ []
  chosen_one f n no_more e h = absurd (false≢true e)
  chosen_one f n (higher {x = x} {xs = os} p q) e h =
      let here : is_chosen r l (f x) ≡ eqb x n = h x (rw (is_same x)) in
      test (eqb x n)
      (λ a. let y : x ≡ n = eqb-true x n a in
      let others : chosen r l (map f os) ≡ []
      = chosen_none f os (λ o g. h o (or_right (eqb o x) g) ∙ ne_eqb o n (λ w. let z = rises_above q o g in omega arith)) in
      let t : is_chosen r l (f x) ≡ true = here ∙ a in
      rw (t, others, y))
      (λ a. let t : is_chosen r l (f x) ≡ false = here ∙ a in
      rw t (chosen_one f n q (rw (flip x n a) at e) (λ o g. h o (or_right (eqb o x) g))))

-- ---- a line's entries but the newest, if that is in flight

module _ (r : ℕ) where
  pub older_kept : (lock : Bool) (c : List (u.Entry (List ℕ))) → (lock && u.owns r c) ≡ false → olds (eqb r) (older lock c) ≡ olds (eqb r) c
  older_kept true [] e = refl
  older_kept true (x ∷ c) e = rw e
  older_kept false [] e = refl
  older_kept false (x ∷ c) e = refl

  pub older_gone : (lock : Bool) (c : List (u.Entry (List ℕ))) (v : List ℕ) → (lock && u.owns r c) ≡ true → olds (eqb r) c ≡ v ∷ [] → olds (eqb r) (older lock c) ≡ []
  older_gone true [] v e q = refl
  older_gone true (x ∷ c) v e q = let z : x.old ∷ olds (eqb r) c ≡ v ∷ [] = rw e at q in cc
  older_gone false c v e q = absurd (false≢true e)

  pub olds_none : (c : List (u.Entry (List ℕ))) → claim.logged r c ≡ false → olds (eqb r) c ≡ []
  olds_none [] e = refl
  olds_none (x ∷ c) e = let z = or_false (eqb r x.rid) (claim.logged r c) e in rw z.0 (olds_none c z.1)

  pub olds_logged : (c : List (u.Entry (List ℕ))) (v : List ℕ) → olds (eqb r) c ≡ v ∷ [] → claim.logged r c ≡ true
  olds_logged c v e = test (claim.logged r c) (λ a. a) (λ a. let z : v ∷ [] ≡ [] = sym e ∙ olds_none c a in absurd (cons_nil z))

  pub older_none : (lock : Bool) (c : List (u.Entry (List ℕ))) → olds (eqb r) c ≡ [] → olds (eqb r) (older lock c) ≡ []
  older_none lock [] e = refl
  older_none false (x ∷ c) e = e
  older_none true (x ∷ c) e = test (eqb r x.rid) (λ a. absurd (cons_nil (rw a at e))) (λ a. rw a at e)

  pub older_length : (lock : Bool) (c : List (u.Entry (List ℕ))) → length (olds (eqb r) (older lock c)) ≤ length (olds (eqb r) c)
  older_length lock [] = le_refl 0
  older_length false (x ∷ c) = le_refl _
  older_length true (x ∷ c) = test (eqb r x.rid) (λ a. rw a (omega arith)) (λ a. rw a (le_refl _))

-- ---- what holds of each element

pub data Each {A : Type 0} (P : A → Type 0) : List A → Type 0 where
  no_element : Each P []
  element : {x : A} {xs : List A} → P x → Each P xs → Each P (x ∷ xs)

pub each_append : {A : Type 0} {P : A → Type 0} {xs ys : List A} → Each P xs → Each P ys → Each P (xs ++ ys)
each_append no_element f = f
each_append (element p e) f = element p (each_append e f)

pub each_in : {A : Type 0} {P : A → Type 0} (f : ℕ → A) (os : List ℕ) → ((o : ℕ) → is_in o os ≡ true → P (f o)) → Each P (map f os)
each_in f [] h = no_element
each_in f (o ∷ os) h = element (h o (rw (is_same o))) (each_in f os (λ x e. h x (or_right (eqb x o) e)))

pub each_all : {A : Type 0} {P : A → Type 0} {xs : List A} (p : A → Bool) → ((x : A) → P x → p x ≡ true) → Each P xs → all p xs ≡ true
each_all p h no_element = refl
each_all p h (element {x = x} a e) = rw (h x a) (each_all p h e)

pub each_none : {A : Type 0} {P : A → Type 0} {xs : List A} (p : A → Bool) → ((x : A) → P x → p x ≡ false) → Each P xs → any p xs ≡ false
each_none p h no_element = refl
each_none p h (element {x = x} a e) = rw (h x a) (each_none p h e)

-- ---- what is saved of a thread's log

abbrev pub orders_of : Board → ℕ → List ℕ
orders_of b t = rising (map order_of (thread_at t b.tables).log)

-- the index of the entry with an order
abbrev pub spot : Board → ℕ → ℕ → ℕ
spot b t o = place (λ e. eqb (order_of e) o) (thread_at t b.tables).log

abbrev pub entry_of : Board → ℕ → ℕ → Logged
entry_of b t o = saved_entry t (thread_at t b.tables).log b.log_lines o

-- an order is its entry's key and rank
pub order_parts : (e : Entry) → order_of e ≢ 0 → (e.persistent ≡ true) × (e.key ≢ 0) × (order_of e ≡ 256 * e.key + e.rank)
order_parts e n =
    test (e.persistent && not (eqb e.key 0))
    (λ a. let z = and_true e.persistent (not (eqb e.key 0)) a in
    (z.0, eqb-false e.key 0 (not-true (eqb e.key 0) z.1), rw a))
    (λ a. absurd (n (rw a)))

-- what is known of a saved entry
pub record GoodSaved (b : Board) (s : u.State (List ℕ)) (e : Logged) : Type 0 where
  pub known : listed e.key b.tables.regions ≡ true
  pub line : e.line < b.tables.size.lines
  pub old : is_line e.old ≡ true
  pub logged : claim.logged e.key (s.chain e.line) ≡ true

-- what is known of the entry with an order: it stands at an index of the log
pub record Spotted (b : Board) (s : u.State (List ℕ)) (t o : ℕ) : Type 0 where
  pub order : order_of (entry_at t (spot b t o) b.tables) ≡ o
  pub persistent : (entry_at t (spot b t o) b.tables).persistent ≡ true
  pub key : (entry_at t (spot b t o) b.tables).key ≢ 0
  pub parts : o ≡ 256 * (entry_at t (spot b t o) b.tables).key + (entry_at t (spot b t o) b.tables).rank
  pub index : spot b t o < 32
  pub small : (entry_at t (spot b t o) b.tables).rank < 256
  pub good : GoodEntry b s t (spot b t o) (entry_at t (spot b t o) b.tables)
