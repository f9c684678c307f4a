-- The commits of a step, one after the other, n of them made.
use Prim.Native.Nat.{◌+◌, ◌-◌, ◌<◌, ◌≤◌, suc, zero, ℕ}
use mathlib.Core.Bool.{Bool, ◌&&◌, ◌||◌, and-false, cond, false, not, true}
use mathlib.Core.List.{List, [], ◌∷◌, map}
use mathlib.Core.Path.{◌∙◌, ◌≡◌, ap, ap₂, refl, sym}
use lib.ListN.{length}
use native.Mathlib.Nat.{add-zero, zero-add}
use native.Mathlib.Omega.{arith}
use Rattle.undo.proofs.Laws.{or_false}
use Rattle.undo.specs.Table.{any}
use Rattle.rules.specs.Commit.{Settled, before, commit, commits, done_region, earlier, earliest, earliest_from, settle, settled}
use Rattle.rules.specs.Slots.{has_slot}
use Rattle.rules.specs.Tables.{is_held, no_region, with_done, with_regions}
use Rattle.rules.specs.declared.Region.{Region}
use Rattle.rules.specs.declared.Tables.{Tables}
use Rattle.rules.proofs.Lists.{or_none}
use Rattle.commits.specs.Ripe.{ripe}

-- tables and a number of commits
pub record Counted : Type 0 where
  pub tables : Tables
  pub commits : ℕ

-- what is settled where n commits were made before
abbrev pub counted : ℕ → Settled → Counted
counted n s = record { tables = s.tables; commits = n + length s.keys }

-- the chosen region commits, one of at most 32
pub settle_more : (n : ℕ) (r : Region) (t : Tables) → n < 32 → r ≡ earliest t.regions → commits r ≡ true
    → counted (n + 1) (settle (32 - (n + 1)) (commit r.key t)) ≡ counted n (settle (32 - n) t)
unfolding settle
settle_more n r t h e y =
    let s : 32 - n ≡ suc (32 - (n + 1)) = omega arith in
    let z : commits (earliest t.regions) ≡ true = rw e at y in
    let q : settle (32 - n) t ≡ before r.key (settle (32 - (n + 1)) (commit r.key t)) = rw (s, z, settle, ← e) in
    let a : (n + 1) + length (settle (32 - (n + 1)) (commit r.key t)).keys ≡ n + length (r.key ∷ (settle (32 - (n + 1)) (commit r.key t)).keys) = omega arith in
    ◌∙◌ {b = counted n (before r.key (settle (32 - (n + 1)) (commit r.key t)))}
    (ap (λ c. record { tables = (settle (32 - (n + 1)) (commit r.key t)).tables; commits = c }) a)
    (ap (counted n) (sym q))

-- no region can commit, whatever their most
stopped : (n : ℕ) (t : Tables) → commits (earliest t.regions) ≡ false → settle n t ≡ record { tables = t; keys = [] }
unfolding settle
stopped zero t e = refl
stopped (suc n) t e = rw (e, settle)

none_more : (c : ℕ) (t : Tables) (s : Settled) → s ≡ record { tables = t; keys = [] } → counted c s ≡ record { tables = t; commits = c }
none_more c t s e = ap (counted c) e ∙ ap (λ n. record { tables = t; commits = n }) (add-zero c)

pub settle_stop : (n c : ℕ) (t : Tables) → commits (earliest t.regions) ≡ false → counted c (settle n t) ≡ record { tables = t; commits = c }
settle_stop n c t e = none_more c t (settle n t) (stopped n t e)

-- the list's places are used up
pub settle_full : (n : ℕ) (t : Tables) → 32 ≤ n → counted n (settle (32 - n) t) ≡ record { tables = t; commits = n }
unfolding settle
settle_full n t h =
    let s : 32 - n ≡ 0 = omega arith in
    none_more n t (settle (32 - n) t) (rw s)

done_same : (r : Region) → (r.done || (r.ended && not (has_slot r))) ≡ r.done → done_region r ≡ r
unfolding done_region
done_same r e = ap (λ d. with_done d r) e

-- ---- where no region is ripe nothing changes

-- a region that is not ripe is done and does not commit, or does not become done
unripe : {C : Type 0} (d c b : Bool) → cond d c b ≡ false → (d ≡ true → c ≡ false → C) → (d ≡ false → b ≡ false → C) → C
unripe true c b e f g = f refl e
unripe false c b e f g = g refl e

-- so it stays as it is
unripe_same : (r : Region) → ripe r ≡ false → done_region r ≡ r
unripe_same r e =
    done_same r (unripe r.done (commits r) (r.ended && not (has_slot r)) e (λ d w. rw d) (λ d b. rw b (or_none r.done)))

-- and does not commit
unripe_waits : (r : Region) → ripe r ≡ false → commits r ≡ false
unfolding commits
unripe_waits r e = unripe r.done (commits r) (r.ended && not (has_slot r)) e (λ d w. w) (λ d b. rw d (and-false (is_held r)))

same : (rs : List Region) → any ripe rs ≡ false → map done_region rs ≡ rs
same [] e = refl
same (r ∷ rs) e = let p = or_false (ripe r) (any ripe rs) e in ap₂ ◌∷◌ (unripe_same r p.0) (same rs p.1)

waits : (best : Region) (rs : List Region) → any ripe rs ≡ false → commits best ≡ false → commits (earliest_from best rs) ≡ false
unfolding earliest_from earlier
waits best [] e b = b
waits best (r ∷ rs) e b =
    let p = or_false (ripe r) (any ripe rs) e in
    rw (unripe_waits r p.0) (waits best rs p.1 b)

pub settled_none : (t : Tables) → any ripe t.regions ≡ false → counted 0 (settled t) ≡ record { tables = t; commits = 0 }
unfolding settled commits
settled_none t e = rw (same t.regions e) (settle_stop (length t.regions) 0 t (waits no_region t.regions e refl))

-- ---- done, then the commits

pub settled_from : (t : Tables) (rs : List Region) → length t.regions ≡ 32 → rs ≡ map done_region t.regions → settle 32 (with_regions rs t) ≡ settled t
unfolding settled
settled_from t rs h e = rw (h, e)

-- what is settled, by its parts
pub parts : (t : Tables) (n : ℕ) (s : Settled) → ◌≡◌ {A = Counted} (record { tables = t; commits = n }) (counted 0 s) → (t ≡ s.tables) × (n ≡ length s.keys)
parts t n s e = (ap (λ x. x.tables) e, ap (λ x. x.commits) e ∙ zero-add (length s.keys))
