-- The theorems: the claims of specs/Claim.antt, each from the invariant.
-- Assumes nothing.
use Prim.Native.Nat.{ℕ, ◌<◌}
use mathlib.Core.Path.{◌≡◌, refl, sym, ◌∙◌}
use mathlib.Core.Logic.{⊎_elim}
use mathlib.Core.Bool.{true}
use mathlib.Core.List.{List, [], ◌∷◌, ◌++◌}
use borrow.Author.Tests.{eqb-true}
use Rattle.undo.specs.Table.{put, is_in}
use Rattle.undo.specs.Machine.{State}
use Rattle.undo.specs.History.{History, expected}
use Rattle.undo.specs.Recovery.{Undo, olds, persistent, aimed, undo, along, Image, Agree, Unlogged}
use Rattle.undo.specs.Claim.{Recovers, Restarts, Finishes, Closes, Structured, age}
use Rattle.undo.proofs.Laws.{never}
use Rattle.undo.proofs.Inv.{Inv}
use Rattle.undo.proofs.Steps.{reached}
use Rattle.undo.proofs.Finish.{tried_ends, placed_ends}
use Rattle.undo.proofs.Walk.{undo_at, Closed, walked, olds_all, logged_older, link_older, medium_found, values_found, effects_at}
use Rattle.undo.proofs.Shape.{age_down, consecutive, connected, single, slot_entry, slot_one, slot_current, slot_flight, lock_entry, lock_slot, rest}

-- entries that are undone in two parts
pub undo_append : {Val : Type 0} (vs ws : List (Undo Val)) (a : ℕ → Val) → undo (vs ++ ws) a ≡ undo ws (undo vs a)
unfolding undo
undo_append [] ws a = refl
undo_append (v ∷ vs) ws a = undo_append vs ws (put v.line v.old a)

-- ---- 1. recovery

module _ {Val : Type 0} {m : ℕ → Val} {s : State Val} {h : History Val} {gs : List ℕ} {us : ℕ → List (Undo Val)} (i : Inv m s h) (im : Image s gs us) where
  all_listed : Closed s.dep gs
  all_listed a b g k = let t = i.target a b g in im.all b (i.begun b t.0) t.1

  -- what the walk puts back to a line
  met : (l : ℕ) → aimed l (along us gs) ≡ olds (λ k. is_in k gs) (persistent s l)
  met l = walked l (persistent s l) us (link_older (s.lock l) (i.links l)) (λ r. im.entries r l) all_listed im.order

  line_found : (a : ℕ → Val) → Agree s a s.med → (l : ℕ) → undo (along us gs) a l ≡ expected m s h l
  line_found a ag l =
      let p = persistent s l in
      let o : olds (λ k. is_in k gs) p ≡ olds (λ k. true) p
      = olds_all (λ k. is_in k gs) p (λ r k. let t = i.listed l r (logged_older r (s.lock l) (s.chain l) k) in im.all r t.0 t.1) in
      undo_at l (along us gs) a
      ∙ rw (met l, o) (medium_found (a l) (ag l) (i.medium l))
      ∙ values_found (i.values l)
      ∙ sym (effects_at l s.done h.writes m h.ends)

  -- a line without persistent entries is spared
  spared : (l : ℕ) → Unlogged s l → aimed l (along us gs) ≡ []
  spared l n = rw (met l, n)

pub recovers : {Val : Type 0} → Recovers Val
recovers m s h gs us rc im a ag l = line_found (reached rc) im a ag l

-- ---- 2. restart after cuts

pub restarts : {Val : Type 0} → Restarts Val
restarts m s h gs us rc im a t l =
    let i = reached rc in
    tried_ends (Unlogged s) s.med (expected m s h) (along us gs) (spared i im) (line_found i im) t l

pub finishes : {Val : Type 0} → Finishes Val
finishes m s h gs us rc im n a p k l =
    let i = reached rc in
    placed_ends (Unlogged s) s.med (expected m s h) (along us gs) (spared i im) (line_found i im) p k l

-- ---- 3. closure

pub closes : {Val : Type 0} → Closes Val
closes m s h rc r q u d =
    let i = reached rc in
    ⊎_elim (λ p. rw (← eqb-true r q p) d) (λ p. ⊎_elim (λ t. t) (λ t. never d (i.source r q t).1) p) (i.covered r q u)

-- ---- 4. structure

pub structured : {Val : Type 0} → Structured Val
structured m s h rc =
    let i = reached rc in
    let down : (a b : ℕ) → s.dep a b ≡ true → age h.ends a < age h.ends b
    = λ a b g. age_down a b g (i.ended b ∙ (i.target a b g).0) i.topo in
    record {
      on_ended = i.target;
      of_uncommitted = i.source;
      acyclic = down;
      begun = i.begun;
      committed = i.commits;
      ends = i.ended;
      of_live = i.listed;
      single = λ l r. single (age h.ends) down r (s.chain l) (i.links l);
      consecutive = λ l c d e f q. consecutive c d e f (rw q at (i.links l));
      connected = λ l p q a b n. connected p q (s.chain l) a b n (i.links l);
      of_logged = λ l r n. slot_entry r n (i.medium l);
      one_flight = λ l r q v w a b. slot_one r q a b (i.medium l);
      flight_current = λ l r v n a. slot_current r a (rw n at (i.medium l));
      flight_logged = λ l r v a. slot_flight r a (i.medium l);
      lock_logged = λ l b. lock_entry (rw b at (i.medium l));
      lock_waits = λ l r b o. lock_slot r o (rw b at (i.medium l));
      at_rest = λ l f. rest f (i.medium l);
    }
