-- The transition system of an undo-logged memory: its state, its actions, when one is allowed, and what it does. It has no counts,
-- no limits and no refusals: a board takes some of these actions, at moments of its own choice.
-- Val is what a line holds: words, bytes or anything else.
-- Assumes nothing.
use Rattle.std.specs.Prelude.{ℕ, ◌≡◌, Bool, true, false, not, ◌||◌, cond, List, [], ◌∷◌, eqb}
use Rattle.undo.specs.Table.{keep, put}

-- a region's slot for a line, what it has yet to bring to the medium: nothing, data that waits, or data in flight with the value that it carries
pub data Carry (Val : Type 0) : Type 0 where
  Clear : Carry Val
  Waits : Carry Val
  Flies : Val → Carry Val

-- a log entry: `old` is the value of the line when region `rid` first wrote it
pub record Entry (Val : Type 0) : Type 0 where
  pub rid : ℕ
  pub old : Val

pub record State (Val : Type 0) : Type 0 where
  -- current memory and the medium, by line
  pub cur : ℕ → Val
  pub med : ℕ → Val
  -- a line's log entries of uncommitted regions, newest first; the newest of a locked line is in flight, the others are persistent
  pub chain : ℕ → List (Entry Val)
  pub lock : ℕ → Bool
  -- the slots, by line and region
  pub slot : ℕ → ℕ → Carry Val
  -- the first region depends on the second
  pub dep : ℕ → ℕ → Bool
  -- the regions that have begun, have ended, have committed
  pub born : ℕ → Bool
  pub over : ℕ → Bool
  pub done : ℕ → Bool

-- numbers are a region's, then a line's; of Depend, the region's and that of the one on which it comes to depend
pub data Action (Val : Type 0) : Type 0 where
  Begin : ℕ → Action Val
  Depend : ℕ → ℕ → Action Val
  Read : ℕ → ℕ → Action Val
  -- a write of a line that the region has logged, and one of a line that it has not
  Again : ℕ → ℕ → (Val → Val) → Action Val
  First : ℕ → ℕ → (Val → Val) → Action Val
  -- the data of a region's slot for a line flies, and that of a set of lines and regions at once
  Fly : ℕ → ℕ → Action Val
  Launch : (ℕ → ℕ → Bool) → Action Val
  -- the acknowledgement of a log entry, and that of data, which lands with the value that it carries
  LogAck : ℕ → ℕ → Action Val
  DataAck : ℕ → ℕ → Val → Action Val
  -- the line goes to the medium without its region's doing
  Evict : ℕ → Action Val
  End : ℕ → Action Val
  Commit : ℕ → Action Val

module _ {Val : Type 0} where
  -- at the start: memory m, current and in the medium
  abbrev pub fresh : (ℕ → Val) → State Val
  fresh m = record {
    cur = m;
    med = m;
    chain = λ l. [];
    lock = λ l. false;
    slot = λ l r. Clear;
    dep = λ a b. false;
    born = λ r. false;
    over = λ r. false;
    done = λ r. false;
  }

  -- the line's newest entry is region r's
  abbrev pub owns : ℕ → List (Entry Val) → Bool
  owns r [] = false
  owns r (e ∷ c) = eqb r e.rid

  -- the line's newest entry, if there is one, is of a region on which region r depends
  abbrev pub follows : (ℕ → ℕ → Bool) → ℕ → List (Entry Val) → Bool
  follows dep r [] = true
  follows dep r (e ∷ c) = dep r e.rid

  -- a line's entries but those of region r
  abbrev pub freed : ℕ → List (Entry Val) → List (Entry Val)
  freed r = keep (λ e. not (eqb r e.rid))

-- ---- when an action is allowed

-- region r has begun and has not ended
pub record Open {Val : Type 0} (s : State Val) (r : ℕ) : Type 0 where
  pub began : s.born r ≡ true
  pub goes_on : s.over r ≡ false

pub data Allowed {Val : Type 0} (s : State Val) : Action Val → Type 0 where
  begins : {r : ℕ} → Allowed s (Begin r)
  -- on a region that has ended and not committed
  depends : {r q : ℕ} → Open s r → s.over q ≡ true → s.done q ≡ false → Allowed s (Depend r q)
  -- a line whose newest entry is its own, or of a region on which it depends, or that has none
  reads : {r l : ℕ} → (owns r (s.chain l) || follows s.dep r (s.chain l)) ≡ true → Allowed s (Read r l)
  again : {r l : ℕ} {f : Val → Val} → Open s r → owns r (s.chain l) ≡ true → Allowed s (Again r l f)
  firsts : {r l : ℕ} {f : Val → Val} → Open s r → follows s.dep r (s.chain l) ≡ true → s.lock l ≡ false → Allowed s (First r l f)
  flies : {r l : ℕ} → s.slot l r ≡ Waits → s.lock l ≡ false → Allowed s (Fly r l)
  launches : {p : ℕ → ℕ → Bool} → ((l r : ℕ) → p l r ≡ true → s.slot l r ≡ Waits) → ((l r : ℕ) → p l r ≡ true → s.lock l ≡ false)
      → Allowed s (Launch p)
  -- by the region of the newest entry
  log_acks : {r l : ℕ} → owns r (s.chain l) ≡ true → s.lock l ≡ true → Allowed s (LogAck r l)
  data_acks : {r l : ℕ} {v : Val} → s.slot l r ≡ Flies v → Allowed s (DataAck r l v)
  evicts : {l : ℕ} → s.lock l ≡ false → Allowed s (Evict l)
  ends : {r : ℕ} → Open s r → Allowed s (End r)
  commits : {r : ℕ} → s.over r ≡ true → ((l : ℕ) → s.slot l r ≡ Clear) → ((q : ℕ) → s.dep r q ≡ false) → Allowed s (Commit r)

-- ---- what it does

module _ {Val : Type 0} where
  -- state s with another table in the place of one
  abbrev pub with_cur : (ℕ → Val) → State Val → State Val
  with_cur x s = record { cur = x; med = s.med; chain = s.chain; lock = s.lock; slot = s.slot; dep = s.dep; born = s.born; over = s.over; done = s.done }

  abbrev pub with_med : (ℕ → Val) → State Val → State Val
  with_med x s = record { cur = s.cur; med = x; chain = s.chain; lock = s.lock; slot = s.slot; dep = s.dep; born = s.born; over = s.over; done = s.done }

  abbrev pub with_chain : (ℕ → List (Entry Val)) → State Val → State Val
  with_chain x s = record { cur = s.cur; med = s.med; chain = x; lock = s.lock; slot = s.slot; dep = s.dep; born = s.born; over = s.over; done = s.done }

  abbrev pub with_lock : (ℕ → Bool) → State Val → State Val
  with_lock x s = record { cur = s.cur; med = s.med; chain = s.chain; lock = x; slot = s.slot; dep = s.dep; born = s.born; over = s.over; done = s.done }

  abbrev pub with_slot : (ℕ → ℕ → Carry Val) → State Val → State Val
  with_slot x s = record { cur = s.cur; med = s.med; chain = s.chain; lock = s.lock; slot = x; dep = s.dep; born = s.born; over = s.over; done = s.done }

  abbrev pub with_dep : (ℕ → ℕ → Bool) → State Val → State Val
  with_dep x s = record { cur = s.cur; med = s.med; chain = s.chain; lock = s.lock; slot = s.slot; dep = x; born = s.born; over = s.over; done = s.done }

  abbrev pub with_born : (ℕ → Bool) → State Val → State Val
  with_born x s = record { cur = s.cur; med = s.med; chain = s.chain; lock = s.lock; slot = s.slot; dep = s.dep; born = x; over = s.over; done = s.done }

  abbrev pub with_over : (ℕ → Bool) → State Val → State Val
  with_over x s = record { cur = s.cur; med = s.med; chain = s.chain; lock = s.lock; slot = s.slot; dep = s.dep; born = s.born; over = x; done = s.done }

  abbrev pub with_done : (ℕ → Bool) → State Val → State Val
  with_done x s = record { cur = s.cur; med = s.med; chain = s.chain; lock = s.lock; slot = s.slot; dep = s.dep; born = s.born; over = s.over; done = x }

  -- what region r makes of line l by a write: the line's new value, and a slot that waits
  abbrev pub stored : ℕ → ℕ → (Val → Val) → State Val → State Val
  stored r l f s = with_cur (put l (f (s.cur l)) s.cur) (with_slot (put l (put r Waits (s.slot l)) s.slot) s)

  unfoldable pub act : State Val → Action Val → State Val
  act s (Begin r) = with_born (put r true s.born) s
  act s (Depend r q) = with_dep (put r (put q true (s.dep r)) s.dep) s
  act s (Read r l) = s
  act s (Again r l f) = stored r l f s
  act s (First r l f) =
      with_chain (put l (record { rid = r; old = s.cur l } ∷ s.chain l) s.chain)
      (with_lock (put l true s.lock) (stored r l f s))
  act s (Fly r l) = with_slot (put l (put r (Flies (s.cur l)) (s.slot l)) s.slot) s
  act s (Launch p) = with_slot (λ l r. cond (p l r) (Flies (s.cur l)) (s.slot l r)) s
  act s (LogAck r l) =
      with_lock (put l false s.lock)
      (with_slot (put l (λ q. cond (eqb q r) (s.slot l q) Clear) s.slot) s)
  act s (DataAck r l v) =
      with_med (put l v s.med)
      (with_slot (put l (put r Clear (s.slot l)) s.slot) s)
  act s (Evict l) = with_med (put l (s.cur l) s.med) s
  act s (End r) = with_over (put r true s.over) s
  act s (Commit r) =
      with_chain (λ l. freed r (s.chain l))
      (with_dep (λ a. put r false (s.dep a)) (with_done (put r true s.done) s))
