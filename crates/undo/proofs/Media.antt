-- A line's state in the medium, `Medium`, is kept by each action.
-- Assumes nothing.
use Prim.Native.Nat.{ℕ}
use mathlib.Core.Path.{◌≡◌, refl, sym, ◌∙◌}
use mathlib.Core.Logic.{◌⊎◌, ⊎_elim}
use mathlib.Core.Bool.{Bool, true, false, false≢true}
use mathlib.Core.List.{List, [], ◌∷◌}
use native.Mathlib.Omega.{arith}
use lib.Dec.{eqb}
use borrow.Author.Tests.{eqb-true}
use Rattle.undo.specs.Table.{put}
use Rattle.undo.specs.Machine.{Entry, Carry, Clear, Waits, Flies, owns, freed}
use Rattle.undo.proofs.Laws.{test, is_same, flip, same}
use Rattle.undo.proofs.Inv.{Medium, landed, flying, waiting, locked}

module _ {Val : Type 0} where
  -- ---- what a slot holds

  pub clear_waits : {c : Carry Val} → c ≡ Clear → c ≡ Waits → ⊥
  clear_waits p q = let z : ◌≡◌ {A = ℕ} 0 1 = cc in omega arith

  pub clear_flies : {c : Carry Val} {v : Val} → c ≡ Clear → c ≡ Flies v → ⊥
  clear_flies p q = let z : ◌≡◌ {A = ℕ} 0 1 = cc in omega arith

  pub waits_flies : {c : Carry Val} {v : Val} → c ≡ Waits → c ≡ Flies v → ⊥
  waits_flies p q = let z : ◌≡◌ {A = ℕ} 0 1 = cc in omega arith

  pub flies_same : {c : Carry Val} {v w : Val} → c ≡ Flies v → c ≡ Flies w → v ≡ w
  flies_same p q = cc

  -- of an unlocked line only the newest entry's region has a slot
  no_slot : {m : Val} {c : List (Entry Val)} {v : Val} {ss : ℕ → Carry Val} (r : ℕ) → owns r c ≡ false → Medium m false c v ss → ss r ≡ Clear
  no_slot r o (landed p k) = k r
  no_slot r o (flying p k) = k r o
  no_slot r o (waiting p k) = k r o

  -- ---- region r writes: its slot waits, the other slots are as they were

  module _ {m : Val} (ss' : ℕ → Carry Val) (r : ℕ) (u : Val) (here : ss' r ≡ Waits) where
    -- a line that it has logged
    pub again : {b : Bool} {c : List (Entry Val)} {v : Val} {ss : ℕ → Carry Val} → ((q : ℕ) → eqb q r ≡ false → ss' q ≡ ss q) → owns r c ≡ true
        → Medium m b c v ss → Medium m b c u ss'
    again {c = []} there o md = absurd (false≢true o)
    again {b = false} {c = e ∷ c} there o md =
        let z : r ≡ e.rid = same o in
        waiting {e = e} {ss = ss'} (rw (← z) here) (λ q d. there q (rw z d) ∙ no_slot q d md)
    again {b = true} {c = e ∷ c} there o (locked us p n k md) =
        let z : r ≡ e.rid = same o in
        locked {e = e} {ss = ss'} us (rw (← z) here) n (λ q d. there q (rw z d) ∙ k q d) md

    -- a line that it has not logged
    pub first : {c : List (Entry Val)} {v : Val} (ss : ℕ → Carry Val) → ((q : ℕ) → eqb q r ≡ false → ss' q ≡ ss q) → owns r c ≡ false
        → Medium m false c v ss → Medium m true (record { rid = r; old = v } ∷ c) u ss'
    first ss there o md = locked ss here (no_slot r o md) there md

  -- ---- waiting slots fly

  -- slot x of a line with value v is as it was, or flies
  abbrev pub Flown : Val → Carry Val → Carry Val → Type 0
  Flown v x y = (y ≡ x) ⊎ ((x ≡ Waits) × (y ≡ Flies v))

  clear_still : {v : Val} {x y : Carry Val} → Flown v x y → x ≡ Clear → y ≡ Clear
  clear_still f z = ⊎_elim (λ p. p ∙ z) (λ p. absurd (clear_waits z p.0)) f

  pub fly : {m : Val} {c : List (Entry Val)} {v : Val} {ss : ℕ → Carry Val} (ss' : ℕ → Carry Val) → ((q : ℕ) → Flown v (ss q) (ss' q))
      → Medium m false c v ss → Medium m false c v ss'
  fly ss' f (landed p k) = landed p (λ q. clear_still (f q) (k q))
  fly ss' f (flying {e = e} p k) =
      ⊎_elim (λ z. flying (z ∙ p) (λ q d. clear_still (f q) (k q d))) (λ z. absurd (waits_flies z.0 p)) (f e.rid)
  fly ss' f (waiting {e = e} p k) =
      ⊎_elim (λ z. waiting (z ∙ p) (λ q d. clear_still (f q) (k q d))) (λ z. flying z.1 (λ q d. clear_still (f q) (k q d))) (f e.rid)

  -- ---- the line's log entry is acknowledged: of its slots only the newest entry's is left

  pub log_ack : {m : Val} {c : List (Entry Val)} {v : Val} {ss : ℕ → Carry Val} (ss' : ℕ → Carry Val) (r : ℕ) → ss' r ≡ ss r
      → ((q : ℕ) → eqb q r ≡ false → ss' q ≡ Clear) → owns r c ≡ true → Medium m true c v ss → Medium m false c v ss'
  log_ack ss' r here there o (locked {e = e} us p z k md) =
      let t : r ≡ e.rid = same o in
      waiting {e = e} {ss = ss'} (rw (← t) (here ∙ rw t p)) (λ q d. there q (rw t d))

  -- ---- the flight lands

  pub data_ack : {m : Val} {b : Bool} {c : List (Entry Val)} {v x : Val} {ss : ℕ → Carry Val} (ss' : ℕ → Carry Val) (r : ℕ) → ss' r ≡ Clear
      → ((q : ℕ) → eqb q r ≡ false → ss' q ≡ ss q) → ss r ≡ Flies x → Medium m b c v ss → Medium x b c v ss'
  data_ack ss' r here there w (landed p k) = absurd (clear_flies (k r) w)
  data_ack ss' r here there w (flying {e = e} p k) =
      test (eqb r e.rid)
      (λ d. let z : r ≡ e.rid = same d in
      landed (flies_same w (rw z p)) (λ q. test (eqb q r) (λ f. rw (eqb-true q r f) here) (λ f. there q f ∙ k q (rw (← z) f))))
      (λ d. absurd (clear_flies (k r d) w))
  data_ack ss' r here there w (waiting {e = e} p k) =
      test (eqb r e.rid) (λ d. absurd (waits_flies (rw (eqb-true r e.rid d) p) w)) (λ d. absurd (clear_flies (k r d) w))
  data_ack ss' r here there w (locked {e = e} us p z k md) =
      test (eqb r e.rid)
      (λ d. absurd (waits_flies (rw (eqb-true r e.rid d) p) w))
      (λ d. locked {e = e} (put r Clear us) (there e.rid (flip r e.rid d) ∙ p) (rw (flip r e.rid d) z)
      (λ q f. test (eqb q r) (λ g. rw (g, eqb-true q r g) here) (λ g. rw g (there q g ∙ k q f)))
      (data_ack (put r Clear us) r (rw (is_same r)) (λ q g. rw g) (sym (k r d) ∙ w) md))

  -- ---- the line is evicted

  pub evict : {m : Val} {c : List (Entry Val)} {v : Val} {ss : ℕ → Carry Val} → Medium m false c v ss → Medium v false c v ss
  evict (landed p k) = landed refl k
  evict (flying p k) = flying p k
  evict (waiting p k) = waiting p k

  -- ---- region r commits: it has no slot

  pub commit : {m : Val} {b : Bool} {c : List (Entry Val)} {v : Val} {ss : ℕ → Carry Val} (r : ℕ) → ss r ≡ Clear → Medium m b c v ss
      → Medium m b (freed r c) v ss
  commit r h (landed p k) = landed p k
  commit r h (flying {e = e} p k) =
      test (eqb r e.rid) (λ d. absurd (clear_flies (rw (← eqb-true r e.rid d) h) p)) (λ d. rw d (flying p k))
  commit r h (waiting {e = e} p k) =
      test (eqb r e.rid) (λ d. absurd (clear_waits (rw (← eqb-true r e.rid d) h) p)) (λ d. rw d (waiting p k))
  commit r h (locked {e = e} us p z k md) =
      test (eqb r e.rid)
      (λ d. absurd (clear_waits (rw (← eqb-true r e.rid d) h) p))
      (λ d. rw d (locked us p z k (commit r (sym (k r d) ∙ h) md)))
