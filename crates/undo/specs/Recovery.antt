-- What survives a cut, and recovery over it.
-- Assumes nothing.
use Rattle.std.specs.Prelude.{ℕ, suc, ◌≡◌, Bool, true, false, cond, List, [], ◌∷◌, ◌++◌, eqb, drop}
use Rattle.undo.specs.Table.{put, is_in}
use Rattle.undo.specs.Machine.{State, Entry}

-- a log entry as the image holds it: `old` is to be put back to `line`
pub record Undo (Val : Type 0) : Type 0 where
  pub line : ℕ
  pub old : Val

module _ {Val : Type 0} where
  -- a line's entries but the newest, if that is in flight
  abbrev pub older : Bool → List (Entry Val) → List (Entry Val)
  older b [] = []
  older true (e ∷ c) = c
  older false (e ∷ c) = e ∷ c

  -- a line's persistent entries
  abbrev pub persistent : State Val → ℕ → List (Entry Val)
  persistent s l = older (s.lock l) (s.chain l)

  -- the old values of those entries whose regions pass a test
  abbrev pub olds : (ℕ → Bool) → List (Entry Val) → List Val
  olds p [] = []
  olds p (e ∷ c) = cond (p e.rid) (e.old ∷ olds p c) (olds p c)

  -- the values that are to be put back to line l
  abbrev pub aimed : ℕ → List (Undo Val) → List Val
  aimed l [] = []
  aimed l (u ∷ us) = cond (eqb l u.line) (u.old ∷ aimed l us) (aimed l us)

  -- memory m after the entries are undone, the first first
  unfoldable pub undo : List (Undo Val) → (ℕ → Val) → ℕ → Val
  undo [] m = m
  undo (u ∷ us) m = undo us (put u.line u.old m)

  -- the entries of region after region
  abbrev pub along : (ℕ → List (Undo Val)) → List ℕ → List (Undo Val)
  along us [] = []
  along us (r ∷ rs) = us r ++ along us rs

-- regions in an order in which each comes before every region on which it depends, and none comes twice
pub data Walk (dep : ℕ → ℕ → Bool) : List ℕ → Type 0 where
  finished : Walk dep []
  next : {r : ℕ} {rs : List ℕ} → is_in r rs ≡ false → ((a : ℕ) → is_in a rs ≡ true → dep a r ≡ false) → Walk dep rs → Walk dep (r ∷ rs)

-- gs is a walk over all uncommitted regions; us r are the persistent entries of region r, each once, in any order
pub record Image {Val : Type 0} (s : State Val) (gs : List ℕ) (us : ℕ → List (Undo Val)) : Type 0 where
  pub all : (r : ℕ) → s.born r ≡ true → s.done r ≡ false → is_in r gs ≡ true
  pub order : Walk s.dep gs
  pub entries : (r l : ℕ) → aimed l (us r) ≡ olds (eqb r) (persistent s l)

-- ---- a list of entries, put back in passes that may be cut

-- two memories that agree on some lines
abbrev pub AgreeOn : {Val : Type 0} → (ℕ → Type 0) → (ℕ → Val) → (ℕ → Val) → Type 0
AgreeOn on a b = (l : ℕ) → on l → a l ≡ b l

-- the memories that can stand in the medium m after a cut and any recovery passes that were cut, over the list w of entries
pub data TriedOn {Val : Type 0} (on : ℕ → Type 0) (m : ℕ → Val) (w : List (Undo Val)) : (ℕ → Val) → Type 0 where
  -- after the cut: the medium, with anything on the other lines
  at_cut : {a : ℕ → Val} → AgreeOn on a m → TriedOn on m w a
  -- a pass that was cut between two entries, and one that was cut while an entry was put back
  partly : {a : ℕ → Val} (us vs : List (Undo Val)) → w ≡ us ++ vs → TriedOn on m w a → TriedOn on m w (undo us a)
  torn : {a : ℕ → Val} (us : List (Undo Val)) (u : Undo Val) (vs : List (Undo Val)) (x : Val) → w ≡ us ++ (u ∷ vs) → TriedOn on m w a
      → TriedOn on m w (put u.line x (undo us a))

-- the same with the walk's own place: the memories that can stand when a list of recovery steps and cuts has come to place n of the list w
pub data PlacedOn {Val : Type 0} (on : ℕ → Type 0) (m : ℕ → Val) (w : List (Undo Val)) : ℕ → (ℕ → Val) → Type 0 where
  begins : {a : ℕ → Val} → AgreeOn on a m → PlacedOn on m w 0 a
  restores : {a : ℕ → Val} (n : ℕ) (u : Undo Val) (vs : List (Undo Val)) → drop n w ≡ u ∷ vs → PlacedOn on m w n a
      → PlacedOn on m w (suc n) (put u.line u.old a)
  -- a cut between two steps, and one inside a step
  cuts : {a : ℕ → Val} (n : ℕ) → PlacedOn on m w n a → PlacedOn on m w 0 a
  tears : {a : ℕ → Val} (n : ℕ) (u : Undo Val) (vs : List (Undo Val)) (x : Val) → drop n w ≡ u ∷ vs → PlacedOn on m w n a
      → PlacedOn on m w 0 (put u.line x a)

-- ---- of this log: what a cut leaves on the lines with a persistent entry does not matter

module _ {Val : Type 0} where
  abbrev pub Unlogged : State Val → ℕ → Type 0
  Unlogged s l = persistent s l ≡ []

  abbrev pub Agree : State Val → (ℕ → Val) → (ℕ → Val) → Type 0
  Agree s = AgreeOn (Unlogged s)

  abbrev pub Tried : State Val → List (Undo Val) → (ℕ → Val) → Type 0
  Tried s = TriedOn (Unlogged s) s.med

  abbrev pub Placed : State Val → List (Undo Val) → ℕ → (ℕ → Val) → Type 0
  Placed s = PlacedOn (Unlogged s) s.med
