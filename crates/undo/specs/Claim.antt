-- The claims: recovery, restart after cuts, closure, and the structure that a reader of the image finds.
-- Assumes nothing.
use Rattle.std.specs.Prelude.{ℕ, suc, ◌<◌, ◌≤◌, ◌≡◌, ◌≢◌, ◌⊎◌, Bool, true, false, cond, List, [], ◌∷◌, ◌++◌, eqb, length}
use Rattle.undo.specs.Table.{any, is_in}
use Rattle.undo.specs.Machine.{State, Action, Entry, Clear, Waits, Flies, owns, Allowed, fresh, act}
use Rattle.undo.specs.History.{History, empty, note, used, expected}
use Rattle.undo.specs.Recovery.{Undo, undo, along, persistent, olds, Image, Agree, Tried, Placed}

-- the states and histories that allowed actions lead to from starting memory m
pub data Reach {Val : Type 0} (m : ℕ → Val) : State Val → History Val → Type 0 where
  start : Reach m (fresh m) empty
  then : {s : State Val} {h : History Val} → Reach m s h → (a : Action Val) → Allowed s a → Reach m (act s a) (note h a)

-- the state and the history after a list of actions; an event of a board is such a list
module _ {Val : Type 0} where
  abbrev pub acts : State Val → List (Action Val) → State Val
  acts s [] = s
  acts s (a ∷ as') = acts (act s a) as'

  abbrev pub notes : History Val → List (Action Val) → History Val
  notes h [] = h
  notes h (a ∷ as') = notes (note h a) as'

-- each action of the list is allowed when its turn comes
pub data Run {Val : Type 0} : State Val → List (Action Val) → Type 0 where
  stop : {s : State Val} → Run s []
  step : {s : State Val} {a : Action Val} {as' : List (Action Val)} → Allowed s a → Run (act s a) as' → Run s (a ∷ as')

-- 1. from every memory that agrees with the medium on the lines without persistent entries, undoing leaves the expected memory
abbrev pub Recovers : Type 0 → Type 0
Recovers Val = (m : ℕ → Val) (s : State Val) (h : History Val) (gs : List ℕ) (us : ℕ → List (Undo Val))
    → Reach m s h → Image s gs us → (a : ℕ → Val) → Agree s a s.med
    → (l : ℕ) → undo (along us gs) a l ≡ expected m s h l

-- 2. and so it does after any passes that were cut, also inside a store
abbrev pub Restarts : Type 0 → Type 0
Restarts Val = (m : ℕ → Val) (s : State Val) (h : History Val) (gs : List ℕ) (us : ℕ → List (Undo Val))
    → Reach m s h → Image s gs us → (a : ℕ → Val) → Tried s (along us gs) a
    → (l : ℕ) → undo (along us gs) a l ≡ expected m s h l

-- and so stands the expected memory where a pass has come to its end, after any list of recovery steps and cuts
abbrev pub Finishes : Type 0 → Type 0
Finishes Val = (m : ℕ → Val) (s : State Val) (h : History Val) (gs : List ℕ) (us : ℕ → List (Undo Val))
    → Reach m s h → Image s gs us → (n : ℕ) (a : ℕ → Val) → Placed s (along us gs) n a → length (along us gs) ≤ n
    → (l : ℕ) → a l ≡ expected m s h l

-- 3. all that a committed region drew on is committed
abbrev pub Closes : Type 0 → Type 0
Closes Val = (m : ℕ → Val) (s : State Val) (h : History Val) → Reach m s h
    → (r q : ℕ) → used r q h.uses ≡ true → s.done r ≡ true → s.done q ≡ true

-- ---- 4. what a reader of the image finds

-- region a depends on region b, perhaps through others
pub data Path (dep : ℕ → ℕ → Bool) : ℕ → ℕ → Type 0 where
  direct : {a b : ℕ} → dep a b ≡ true → Path dep a b
  through : {a b c : ℕ} → dep a b ≡ true → Path dep b c → Path dep a c

-- how many ended later than region r, in a list of ends, newest first
abbrev pub place : List ℕ → ℕ → ℕ
place [] r = 0
place (k ∷ ks) r = cond (eqb r k) 0 (suc (place ks r))

-- 0 for a region that has not ended, else its place, from 1 up
abbrev pub age : List ℕ → ℕ → ℕ
age ends r = cond (is_in r ends) (suc (place ends r)) 0

-- region r has one of the entries
abbrev pub logged : {Val : Type 0} → ℕ → List (Entry Val) → Bool
logged r = any (λ e. eqb r e.rid)

-- what holds of every state that is reached
pub record Structure {Val : Type 0} (s : State Val) (h : History Val) : Type 0 where
  -- dependences are of uncommitted regions on ended uncommitted ones that ended before
  pub on_ended : (a b : ℕ) → s.dep a b ≡ true → (s.over b ≡ true) × (s.done b ≡ false)
  pub of_uncommitted : (a b : ℕ) → s.dep a b ≡ true → (s.born a ≡ true) × (s.done a ≡ false)
  pub acyclic : (a b : ℕ) → s.dep a b ≡ true → age h.ends a < age h.ends b
  -- regions begin, end and commit in this order; the ends are the ended regions
  pub begun : (r : ℕ) → s.over r ≡ true → s.born r ≡ true
  pub committed : (r : ℕ) → s.done r ≡ true → s.over r ≡ true
  pub ends : (r : ℕ) → is_in r h.ends ≡ s.over r
  -- a line's entries: of uncommitted regions, one of each region, each directly dependent on the next older
  pub of_live : (l r : ℕ) → logged r (s.chain l) ≡ true → (s.born r ≡ true) × (s.done r ≡ false)
  pub single : (l r : ℕ) → length (olds (eqb r) (s.chain l)) ≤ 1
  pub consecutive : (l : ℕ) (c d : List (Entry Val)) (e f : Entry Val) → s.chain l ≡ c ++ (e ∷ (f ∷ d)) → s.dep e.rid f.rid ≡ true
  pub connected : (l p q : ℕ) → logged p (s.chain l) ≡ true → logged q (s.chain l) ≡ true → eqb p q ≡ false
      → Path s.dep p q ⊎ Path s.dep q p
  -- slots: of a logged line, one flight for a line, with the current value unless the line is locked, and only where the line has a persistent
  -- entry; an entry in flight has its slot waiting
  pub of_logged : (l r : ℕ) → s.slot l r ≢ Clear → logged r (s.chain l) ≡ true
  pub one_flight : (l r q : ℕ) (v w : Val) → s.slot l r ≡ Flies v → s.slot l q ≡ Flies w → eqb r q ≡ true
  pub flight_current : (l r : ℕ) (v : Val) → s.lock l ≡ false → s.slot l r ≡ Flies v → v ≡ s.cur l
  pub flight_logged : (l r : ℕ) (v : Val) → s.slot l r ≡ Flies v → persistent s l ≢ []
  pub lock_logged : (l : ℕ) → s.lock l ≡ true → s.chain l ≢ []
  pub lock_waits : (l r : ℕ) → s.lock l ≡ true → owns r (s.chain l) ≡ true → s.slot l r ≡ Waits
  -- a line without slots is in the medium
  pub at_rest : (l : ℕ) → ((r : ℕ) → s.slot l r ≡ Clear) → s.med l ≡ s.cur l

abbrev pub Structured : Type 0 → Type 0
Structured Val = (m : ℕ → Val) (s : State Val) (h : History Val) → Reach m s h → Structure s h
