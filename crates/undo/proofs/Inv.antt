-- The invariant, in parts. A part that is about a line is stated over the line's own entries, slots and values.
-- Assumes nothing.
use Prim.Native.Nat.{ℕ}
use mathlib.Core.Path.{◌≡◌}
use mathlib.Core.Logic.{◌⊎◌}
use mathlib.Core.Bool.{Bool, true, false, ◌&&◌, cond}
use mathlib.Core.Option.{Option, none, some}
use mathlib.Core.List.{List, [], ◌∷◌}
use lib.Dec.{eqb}
use Rattle.undo.specs.Table.{is_in}
use Rattle.undo.specs.Machine.{State, Entry, Carry, Clear, Waits, Flies}
use Rattle.undo.specs.History.{Wrote, Use, History, used, last_writer}
use Rattle.undo.specs.Claim.{logged}

-- ---- a line's history: what a region's writes make of a value of the line

abbrev pub change : {Val : Type 0} → ℕ → List (Wrote Val) → ℕ → Val → Val
change l [] r x = x
change l (w ∷ ws) r x = cond (eqb r w.rid && eqb l w.line) (w.change (change l ws r x)) (change l ws r x)

-- ---- a line's values: its log entries against the ended regions, newest first. The entries are of uncommitted regions, in end order; every other
-- region has not written the line, or is committed and below all entries; v is the value above. x is the starting value
pub data Match {Val : Type 0} (w : ℕ → Val → Val) (done : ℕ → Bool) (x : Val) : List (Entry Val) → List ℕ → Val → Type 0 where
  bottom : {v : Val} → x ≡ v → Match w done x [] [] v
  silent : {r : ℕ} {c : List (Entry Val)} {rs : List ℕ} {v : Val} → ((y : Val) → w r y ≡ y) → Match w done x c rs v → Match w done x c (r ∷ rs) v
  settled : {r : ℕ} {rs : List ℕ} {u v : Val} → done r ≡ true → w r u ≡ v → Match w done x [] rs u → Match w done x [] (r ∷ rs) v
  above : {e : Entry Val} {c : List (Entry Val)} {r : ℕ} {rs : List ℕ} {v : Val} → r ≡ e.rid → done r ≡ false → w r e.old ≡ v
      → Match w done x c rs e.old → Match w done x (e ∷ c) (r ∷ rs) v

-- at most one region that has not ended has written the line, and then its entry is the newest
pub data Values {Val : Type 0} (w : ℕ → Val → Val) (done : ℕ → Bool) (ends : List ℕ) (x : Val) : List (Entry Val) → Val → Type 0 where
  idle : {c : List (Entry Val)} {v : Val} → ((r : ℕ) → is_in r ends ≡ false → (y : Val) → w r y ≡ y) → Match w done x c ends v → Values w done ends x c v
  held : {e : Entry Val} {c : List (Entry Val)} {v : Val} → is_in e.rid ends ≡ false → w e.rid e.old ≡ v
      → ((r : ℕ) → is_in r ends ≡ false → eqb r e.rid ≡ false → (y : Val) → w r y ≡ y)
      → Match w done x c ends e.old → Values w done ends x (e ∷ c) v

-- ---- a line in the medium: m is the medium's value, v the value above the entries, ss the regions' slots for the line

pub data Medium {Val : Type 0} (m : Val) : Bool → List (Entry Val) → Val → (ℕ → Carry Val) → Type 0 where
  landed : {c : List (Entry Val)} {v : Val} {ss : ℕ → Carry Val} → m ≡ v → ((q : ℕ) → ss q ≡ Clear) → Medium m false c v ss
  flying : {e : Entry Val} {c : List (Entry Val)} {v : Val} {ss : ℕ → Carry Val} → ss e.rid ≡ Flies v
      → ((q : ℕ) → eqb q e.rid ≡ false → ss q ≡ Clear) → Medium m false (e ∷ c) v ss
  waiting : {e : Entry Val} {c : List (Entry Val)} {v : Val} {ss : ℕ → Carry Val} → ss e.rid ≡ Waits
      → ((q : ℕ) → eqb q e.rid ≡ false → ss q ≡ Clear) → Medium m false (e ∷ c) v ss
  -- us are the slots without the newest entry's
  locked : {e : Entry Val} {c : List (Entry Val)} {v : Val} {ss : ℕ → Carry Val} (us : ℕ → Carry Val) → ss e.rid ≡ Waits
      → us e.rid ≡ Clear → ((q : ℕ) → eqb q e.rid ≡ false → ss q ≡ us q) → Medium m false c e.old us → Medium m true (e ∷ c) v ss

-- ---- a line's entries: each region depends on the one before

pub data Link {Val : Type 0} (dep : ℕ → ℕ → Bool) : List (Entry Val) → Type 0 where
  no_entry : Link dep []
  one_entry : {e : Entry Val} → Link dep (e ∷ [])
  entries : {e f : Entry Val} {c : List (Entry Val)} → eqb e.rid f.rid ≡ false → dep e.rid f.rid ≡ true → Link dep (f ∷ c)
      → Link dep (e ∷ (f ∷ c))

-- ---- a line's last writer: its newest entry's region, or a committed one if it has no entry

pub data Last {Val : Type 0} (done : ℕ → Bool) : Option ℕ → List (Entry Val) → Type 0 where
  unwritten : Last done none []
  safe : {q : ℕ} → done q ≡ true → Last done (some q) []
  owner : {q : ℕ} {e : Entry Val} {c : List (Entry Val)} → q ≡ e.rid → Last done (some q) (e ∷ c)

-- ---- no ended region depends on one that ended later

pub data Topo (dep : ℕ → ℕ → Bool) : List ℕ → Type 0 where
  no_region : Topo dep []
  region : {r : ℕ} {rs : List ℕ} → ((a : ℕ) → is_in a (r ∷ rs) ≡ true → dep a r ≡ false) → Topo dep rs → Topo dep (r ∷ rs)

-- ---- what a region drew on is its own, or committed, or among its dependences

abbrev pub Covered : (ℕ → ℕ → Bool) → (ℕ → Bool) → List Use → Type 0
Covered dep done us = (r q : ℕ) → used r q us ≡ true → (eqb r q ≡ true) ⊎ ((done q ≡ true) ⊎ (dep r q ≡ true))

-- ---- the whole

pub record Inv {Val : Type 0} (m : ℕ → Val) (s : State Val) (h : History Val) : Type 0 where
  pub ended : (r : ℕ) → is_in r h.ends ≡ s.over r
  pub begun : (r : ℕ) → s.over r ≡ true → s.born r ≡ true
  pub commits : (r : ℕ) → s.done r ≡ true → s.over r ≡ true
  pub target : (a b : ℕ) → s.dep a b ≡ true → (s.over b ≡ true) × (s.done b ≡ false)
  pub source : (a b : ℕ) → s.dep a b ≡ true → (s.born a ≡ true) × (s.done a ≡ false)
  pub topo : Topo s.dep h.ends
  pub links : (l : ℕ) → Link s.dep (s.chain l)
  pub listed : (l r : ℕ) → logged r (s.chain l) ≡ true → (s.born r ≡ true) × (s.done r ≡ false)
  pub values : (l : ℕ) → Values (change l h.writes) s.done h.ends (m l) (s.chain l) (s.cur l)
  pub medium : (l : ℕ) → Medium (s.med l) (s.lock l) (s.chain l) (s.cur l) (s.slot l)
  pub last : (l : ℕ) → Last s.done (last_writer l h.writes) (s.chain l)
  pub covered : Covered s.dep s.done h.uses
