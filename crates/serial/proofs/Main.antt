-- The theorems: the claims of specs/Claim.antt; and a list of fair actions leads from what is reached to what is reached.
-- Assumes nothing.
use Prim.Native.Nat.{ℕ}
use mathlib.Core.Path.{◌≡◌, refl, sym, ap, ◌∙◌, subst}
use mathlib.Core.Logic.{◌⊎◌, inl, inr, ⊎_elim}
use mathlib.Core.Bool.{Bool, true, false, not}
use mathlib.Core.List.Memᴰ
use mathlib.Core.List.{List, [], ◌∷◌, ◌++◌, append_assoc, Memᴰ}
use lib.Dec.{eqb}
use borrow.Author.Tests.{eqb-true, not-true}
use Rattle.undo.specs.Table.{any}
use Rattle.undo.specs.Machine.{State, Action, Begin, Depend, Read, Again, First, Fly, Launch, LogAck, DataAck, Evict, End, Commit, Open, Allowed, begins, depends, reads, again, firsts, flies, launches, log_acks, data_acks, evicts, ends, commits, act}
use Rattle.undo.specs.History.{Wrote, History, note}
use Rattle.undo.specs.Claim as c
use Rattle.undo.specs.Claim.{Reach, acts, notes}
use Rattle.undo.proofs.Laws.{test, and_true, or_false}
use Rattle.serial.specs.Looks.{Look, Access, Reads, Writes, Neither, access_of, see, breaks, is_fair, Seeing, start, then, sees, FairRun, stop, step}
use Rattle.serial.specs.Claim.{Serial, Before, Reached, Current, Saw, Begun, after}
use Rattle.serial.proofs.Stands.{Stands, stands_read, stands_act, stands_serial}

pub reaches : {Val : Type 0} → Reached Val
reaches m s h ks start = c.start
reaches m s h ks (then sg a ok f) = c.then (reaches m _ _ _ sg) a ok

pub seeing_run : {Val : Type 0} {m : ℕ → Val} {s : State Val} {h : History Val} {ks : List (Look Val)} {as' : List (Action Val)}
    → FairRun s h ks as' → Seeing m s h ks → Seeing m (acts s as') (notes h as') (sees s h ks as')
seeing_run stop sg = sg
seeing_run (step {a = a} ok f rn) sg = seeing_run rn (then sg a ok f)

-- a test that no element passes
none_passes : {A : Type 0} (p : A → Bool) (x : A) (xs : List A) → any p xs ≡ false → Memᴰ x xs → p x ≡ false
none_passes p x [] e i = absurd (Memᴰ.not-nil i)
none_passes p x (y ∷ ys) e i =
    let z = or_false (p y) (any p ys) e in
    ⊎_elim (λ q. ap p q ∙ z.0) (λ t. none_passes p x ys z.1 t) (Memᴰ.cases_cons i)

-- a fair access breaks none of the looks
unbroken : {Val : Type 0} (s : State Val) (c : Access) (k : Look Val) (ks : List (Look Val)) → is_fair s ks c ≡ true → Memᴰ k ks → breaks s c k ≡ false
unbroken s (Reads r l) k ks f i = refl
unbroken s (Writes r l) k ks f i = none_passes (breaks s (Writes r l)) k ks (not-true (any (breaks s (Writes r l)) ks) f) i
unbroken s Neither k ks f i = refl

-- ---- how a board shows that a read and a write are fair

module _ {Val : Type 0} (s : State Val) (r l : ℕ) where
  pub fair_read : (ks : List (Look Val)) → Open s r → is_fair s ks (Reads r l) ≡ true
  fair_read ks o = rw (o.began, o.goes_on)

  breaks_none : (ks : List (Look Val)) → ((k : Look Val) → Memᴰ k ks → k.line ≡ l → eqb r k.rid ≡ false → s.over k.rid ≡ true)
      → any (breaks s (Writes r l)) ks ≡ false
  breaks_none [] f = refl
  breaks_none (k ∷ ks) f =
      let ih : any (breaks s (Writes r l)) ks ≡ false = breaks_none ks (λ j i. f j (Memᴰ.tail i)) in
      test (eqb l k.line)
      (λ d. test (eqb r k.rid) (λ e. rw (d, e) ih) (λ e. rw (d, e, f k (Memᴰ.head refl) (sym (eqb-true l k.line d)) e) ih))
      (λ d. rw d ih)

  -- every look at the line is the writer's own, or of a region that has ended
  pub fair_write : (ks : List (Look Val)) → ((k : Look Val) → Memᴰ k ks → k.line ≡ l → eqb r k.rid ≡ false → s.over k.rid ≡ true)
      → is_fair s ks (Writes r l) ≡ true
  fair_write ks f = ap not (breaks_none ks f)

-- ---- every look stands

module _ {Val : Type 0} {m : ℕ → Val} {s : State Val} {h : History Val} {ks : List (Look Val)} (rc : Reach m s h) where
  -- a look after an action was there before, or is the action's own
  arrives : {a : Action Val} → Allowed s a → is_fair s ks (access_of a) ≡ true → (k : Look Val) → Memᴰ k (see s h ks (access_of a))
      → Memᴰ k ks ⊎ (Stands m s h k × (breaks s (access_of a) k ≡ false))
  arrives begins w k i = inl i
  arrives (depends o p d) w k i = inl i
  arrives (reads {r = r} {l = l} p) o k i =
      let z = and_true (s.born r) (not (s.over r)) o in
      ⊎_elim
      (λ q. inr (subst (Stands m s h) (sym q) (stands_read rc r l (record { began = z.0; goes_on = not-true (s.over r) z.1 }) p), refl))
      (λ t. inl t) (Memᴰ.cases_cons i)
  arrives (again o p) w k i = inl i
  arrives (firsts o p b) w k i = inl i
  arrives (flies p b) w k i = inl i
  arrives (launches p b) w k i = inl i
  arrives (log_acks p b) w k i = inl i
  arrives (data_acks p) w k i = inl i
  arrives (evicts b) w k i = inl i
  arrives (ends o) w k i = inl i
  arrives (commits o p b) w k i = inl i

  each_stands : {a : Action Val} → Allowed s a → is_fair s ks (access_of a) ≡ true → ((k : Look Val) → Memᴰ k ks → Stands m s h k)
      → (k : Look Val) → Memᴰ k (see s h ks (access_of a)) → Stands m (act s a) (note h a) k
  each_stands {a} ok f old k i =
      ⊎_elim (λ t. stands_act rc k ok (unbroken s (access_of a) k ks f t) (old k t)) (λ t. stands_act rc k ok t.1 t.0) (arrives ok f k i)

pub all_stand : {Val : Type 0} {m : ℕ → Val} {s : State Val} {h : History Val} {ks : List (Look Val)} → Seeing m s h ks
    → (k : Look Val) → Memᴰ k ks → Stands m s h k
all_stand start k i = absurd (Memᴰ.not-nil i)
all_stand {m = m} (then sg a ok f) k i = each_stands (reaches m _ _ _ sg) ok f (λ j t. all_stand sg j t) k i

pub serial : {Val : Type 0} → Serial Val
serial m s h ks sg k i d = stands_serial (reaches m s h ks sg) k d (all_stand sg k i)

-- ---- the writes before a look

grows : {Val : Type 0} (h : History Val) (a : Action Val) → (ws : List (Wrote Val)) × ((note h a).writes ≡ ws ++ h.writes)
unfolding note
grows h (Begin r) = ([], refl)
grows h (Depend r q) = ([], refl)
grows h (Read r l) = ([], refl)
grows h (Again r l f) = (record { rid = r; line = l; change = f } ∷ [], refl)
grows h (First r l f) = (record { rid = r; line = l; change = f } ∷ [], refl)
grows h (Fly r l) = ([], refl)
grows h (Launch p) = ([], refl)
grows h (LogAck r l) = ([], refl)
grows h (DataAck r l v) = ([], refl)
grows h (Evict l) = ([], refl)
grows h (End r) = ([], refl)
grows h (Commit r) = ([], refl)

-- a look after an access was there before, or has all writes before it
known : {Val : Type 0} (s : State Val) (h : History Val) (ks : List (Look Val)) (c : Access) (k : Look Val) → Memᴰ k (see s h ks c)
    → Memᴰ k ks ⊎ (h.writes ≡ k.before)
known s h ks (Reads r l) k i = ⊎_elim (λ q. inr (sym (ap (λ j. j.before) q))) (λ t. inl t) (Memᴰ.cases_cons i)
known s h ks (Writes r l) k i = inl i
known s h ks Neither k i = inl i

pub before : {Val : Type 0} → Before Val
before m s h ks start k i = absurd (Memᴰ.not-nil i)
before m s h ks (then {s = s'} {h = h'} {ks = js} sg a ok f) k i =
    let g = grows h' a in
    ⊎_elim
    (λ t. let z = before m s' h' js sg k t in (g.0 ++ z.0, g.1 ∙ ap (λ ws. g.0 ++ ws) z.1 ∙ sym (append_assoc g.0 z.0 k.before)))
    (λ q. (g.0, g.1 ∙ ap (λ ws. g.0 ++ ws) q))
    (known s' h' js (access_of a) k i)

-- ---- what a look saw, and whose it is

-- an action keeps current memory told by the writes
told_after : {Val : Type 0} (m : ℕ → Val) (s : State Val) (h : History Val) (a : Action Val) → ((l : ℕ) → s.cur l ≡ after l h.writes (m l))
    → (l : ℕ) → (act s a).cur l ≡ after l (note h a).writes (m l)
unfolding act note
told_after m s h (Begin r) t l = t l
told_after m s h (Depend r q) t l = t l
told_after m s h (Read r x) t l = t l
told_after m s h (Again r x f) t l = test (eqb l x) (λ d. rw (d, ← eqb-true l x d, t l)) (λ d. rw (d, t l))
told_after m s h (First r x f) t l = test (eqb l x) (λ d. rw (d, ← eqb-true l x d, t l)) (λ d. rw (d, t l))
told_after m s h (Fly r x) t l = t l
told_after m s h (Launch p) t l = t l
told_after m s h (LogAck r x) t l = t l
told_after m s h (DataAck r x v) t l = t l
told_after m s h (Evict x) t l = t l
told_after m s h (End r) t l = t l
told_after m s h (Commit r) t l = t l

pub current : {Val : Type 0} → Current Val
current m _ _ c.start l = refl
current m _ _ (c.then {s = s} {h = h} rc a ok) l = told_after m s h a (λ x. current m s h rc x) l

-- a look after an access was there before, or is of current memory, by the access's region
made : {Val : Type 0} (s : State Val) (h : History Val) (ks : List (Look Val)) (c : Access) (k : Look Val) → is_fair s ks c ≡ true → Memᴰ k (see s h ks c)
    → Memᴰ k ks ⊎ ((k.seen ≡ s.cur k.line) × (k.before ≡ h.writes) × (s.born k.rid ≡ true))
made s h ks (Reads r l) k f i =
    ⊎_elim
    (λ q. inr (ap (λ j. j.seen) q ∙ ap s.cur (sym (ap (λ j. j.line) q)), ap (λ j. j.before) q, ap (λ j. s.born j.rid) q ∙ (and_true (s.born r) (not (s.over r)) f).0))
    (λ t. inl t) (Memᴰ.cases_cons i)
made s h ks (Writes r l) k f i = inl i
made s h ks Neither k f i = inl i

pub saw : {Val : Type 0} → Saw Val
saw m _ _ _ start k i = absurd (Memᴰ.not-nil i)
saw m _ _ _ (then {s = s} {h = h} {ks = ks} sg a ok f) k i =
    ⊎_elim
    (λ t. saw m s h ks sg k t)
    (λ q. q.0 ∙ current m s h (reaches m s h ks sg) k.line ∙ ap (λ ws. after k.line ws (m k.line)) (sym q.1))
    (made s h ks (access_of a) k f i)

-- what has begun has begun for good
born_stays : {Val : Type 0} (s : State Val) (a : Action Val) (r : ℕ) → s.born r ≡ true → (act s a).born r ≡ true
unfolding act
born_stays s (Begin q) r e = test (eqb r q) (λ d. rw d) (λ d. rw d e)
born_stays s (Depend q p) r e = e
born_stays s (Read q l) r e = e
born_stays s (Again q l f) r e = e
born_stays s (First q l f) r e = e
born_stays s (Fly q l) r e = e
born_stays s (Launch p) r e = e
born_stays s (LogAck q l) r e = e
born_stays s (DataAck q l v) r e = e
born_stays s (Evict l) r e = e
born_stays s (End q) r e = e
born_stays s (Commit q) r e = e

pub begun : {Val : Type 0} → Begun Val
begun m _ _ _ start k i = absurd (Memᴰ.not-nil i)
begun m _ _ _ (then {s = s} {h = h} {ks = ks} sg a ok f) k i =
    born_stays s a k.rid (⊎_elim (λ t. begun m s h ks sg k t) (λ q. q.2) (made s h ks (access_of a) k f i))
