-- The claims: what a committed region saw is what it sees when the committed regions run one after another in the order in which they ended.
-- Assumes nothing.
use Rattle.std.specs.Prelude.{ℕ, ◌≡◌, true, cond, eqb}
use mathlib.Core.List.{List, [], ◌∷◌, ◌++◌, Memᴰ}
use Rattle.undo.specs.Machine.{State}
use Rattle.undo.specs.History.{Wrote, History, applied, effects}
use Rattle.undo.specs.Claim.{Reach}
use Rattle.serial.specs.Looks.{Look, Seeing}

-- of ends, newest first, those older than that of region r
abbrev pub earlier : ℕ → List ℕ → List ℕ
earlier r [] = []
earlier r (k ∷ ks) = cond (eqb r k) ks (earlier r ks)

-- what a look gives when the committed regions run one after another in end order: those that ended before its region have run whole, then its
-- region has run up to the look
abbrev pub in_turn : {Val : Type 0} → (ℕ → Val) → State Val → History Val → Look Val → Val
in_turn m s h k = applied k.rid k.before (effects s.done h.writes m (earlier k.rid h.ends)) k.line

-- 1. every look of a committed region saw that
abbrev pub Serial : Type 0 → Type 0
Serial Val = (m : ℕ → Val) (s : State Val) (h : History Val) (ks : List (Look Val)) → Seeing m s h ks
    → (k : Look Val) → Memᴰ k ks → s.done k.rid ≡ true → k.seen ≡ in_turn m s h k

-- 2. the writes before a look are an older part of all writes
abbrev pub Before : Type 0 → Type 0
Before Val = (m : ℕ → Val) (s : State Val) (h : History Val) (ks : List (Look Val)) → Seeing m s h ks
    → (k : Look Val) → Memᴰ k ks → (after : List (Wrote Val)) × (h.writes ≡ after ++ k.before)

-- 3. what crate undo proves of the states that are reached holds of these
abbrev pub Reached : Type 0 → Type 0
Reached Val = (m : ℕ → Val) (s : State Val) (h : History Val) (ks : List (Look Val)) → Seeing m s h ks → Reach m s h

-- a line's value x after writes of whatever region
abbrev pub after : {Val : Type 0} → ℕ → List (Wrote Val) → Val → Val
after l [] x = x
after l (w ∷ ws) x = cond (eqb l w.line) (w.change (after l ws x)) (after l ws x)

-- 4. current memory is the starting memory after all writes, and a look saw it after those before it
abbrev pub Current : Type 0 → Type 0
Current Val = (m : ℕ → Val) (s : State Val) (h : History Val) → Reach m s h → (l : ℕ) → s.cur l ≡ after l h.writes (m l)

abbrev pub Saw : Type 0 → Type 0
Saw Val = (m : ℕ → Val) (s : State Val) (h : History Val) (ks : List (Look Val)) → Seeing m s h ks
    → (k : Look Val) → Memᴰ k ks → k.seen ≡ after k.line k.before (m k.line)

-- 5. the region of a look has begun
abbrev pub Begun : Type 0 → Type 0
Begun Val = (m : ℕ → Val) (s : State Val) (h : History Val) (ks : List (Look Val)) → Seeing m s h ks
    → (k : Look Val) → Memᴰ k ks → s.born k.rid ≡ true
