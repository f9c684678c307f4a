-- What the list of actions says by itself: the writes, the ends, and on whose data each region drew.
-- Assumes nothing.
use Rattle.std.specs.Prelude.{ℕ, Bool, ◌&&◌, cond, List, [], ◌∷◌, eqb}
use Rattle.std.proofs.Math.Option.{Option, none, some}
use Rattle.undo.specs.Table.{any, put}
use Rattle.undo.specs.Machine.{State, Action, Begin, Depend, Read, Again, First, Fly, Launch, LogAck, DataAck, Evict, End, Commit}

-- region `rid` changed `line` by `change`
pub record Wrote (Val : Type 0) : Type 0 where
  pub rid : ℕ
  pub line : ℕ
  pub change : Val → Val

-- region `from` came to depend on region `on`, or read or wrote a line of which `on` was the last writer
pub record Use : Type 0 where
  pub from : ℕ
  pub on : ℕ

-- the lists are newest first
pub record History (Val : Type 0) : Type 0 where
  pub writes : List (Wrote Val)
  pub ends : List ℕ
  pub uses : List Use

-- region r drew on region q
abbrev pub used : ℕ → ℕ → List Use → Bool
used r q = any (λ u. eqb r u.from && eqb q u.on)

-- region r draws on the last writer, if there is one
abbrev pub drawing : ℕ → Option ℕ → List Use → List Use
drawing r none us = us
drawing r (some q) us = record { from = r; on = q } ∷ us

module _ {Val : Type 0} where
  abbrev pub empty : History Val
  empty = record { writes = []; ends = []; uses = [] }

  -- the region that wrote line l last
  abbrev pub last_writer : ℕ → List (Wrote Val) → Option ℕ
  last_writer l [] = none
  last_writer l (w ∷ ws) = cond (eqb l w.line) (some w.rid) (last_writer l ws)

  -- the history with region r's write of line l
  abbrev pub wrote : ℕ → ℕ → (Val → Val) → History Val → History Val
  wrote r l f h = record {
    writes = record { rid = r; line = l; change = f } ∷ h.writes;
    ends = h.ends;
    uses = drawing r (last_writer l h.writes) h.uses;
  }

  -- the history with one action more
  unfoldable pub note : History Val → Action Val → History Val
  note h (Begin r) = h
  note h (Depend r q) = record { writes = h.writes; ends = h.ends; uses = record { from = r; on = q } ∷ h.uses }
  note h (Read r l) = record { writes = h.writes; ends = h.ends; uses = drawing r (last_writer l h.writes) h.uses }
  note h (Again r l f) = wrote r l f h
  note h (First r l f) = wrote r l f h
  note h (Fly r l) = h
  note h (Launch p) = h
  note h (LogAck r l) = h
  note h (DataAck r l v) = h
  note h (Evict l) = h
  note h (End r) = record { writes = h.writes; ends = r ∷ h.ends; uses = h.uses }
  note h (Commit r) = h

  -- memory m with the writes of region r applied, in event order
  unfoldable pub applied : ℕ → List (Wrote Val) → (ℕ → Val) → ℕ → Val
  applied r [] m = m
  applied r (w ∷ ws) m = cond (eqb r w.rid) (put w.line (w.change (applied r ws m w.line)) (applied r ws m)) (applied r ws m)

  -- memory m with the writes of those ended regions that have committed applied, in end order
  unfoldable pub effects : (ℕ → Bool) → List (Wrote Val) → (ℕ → Val) → List ℕ → ℕ → Val
  effects done ws m [] = m
  effects done ws m (r ∷ rs) = cond (done r) (applied r ws (effects done ws m rs)) (effects done ws m rs)

  -- the starting memory with the writes of the committed regions applied in end order
  abbrev pub expected : (ℕ → Val) → State Val → History Val → ℕ → Val
  expected m s h = effects s.done h.writes m h.ends
