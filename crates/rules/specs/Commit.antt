-- "Done, commit."
use Rattle.std.specs.Prelude.{suc, zero, ℕ, Bool, ◌&&◌, ◌||◌, cond, false, not, true, List, [], ◌∷◌, map, eqb, ltb, length}
use Rattle.rules.specs.Access.{is_of}
use Rattle.rules.specs.Lists.{all}
use Rattle.rules.specs.Slots.{has_slot}
use Rattle.rules.specs.Tables.{is_held, is_key, no_entry, no_region, thread_at, thread_of, with_deps, with_done, with_log, with_regions, with_thread}
use Rattle.rules.specs.declared.Entry.{Entry}
use Rattle.rules.specs.declared.Region.{Region}
use Rattle.rules.specs.declared.Tables.{Tables}
use Rattle.rules.specs.declared.Thread.{Thread}

-- "An ended region without slots leaves the modified list and is done"
unfoldable pub done_region : Region → Region
done_region r = with_done (r.done || (r.ended && not (has_slot r))) r

-- "A done region without dependences commits"
unfoldable pub commits : Region → Bool
commits r = is_held r && (r.done && all (eqb 0) r.deps)

-- "the earliest ended goes first": the better of the best so far and the next
unfoldable pub earlier : Region → Region → Region
earlier best r = cond (commits r && (not (commits best) || ltb r.stamp best.stamp)) r best

unfoldable pub earliest_from : Region → List Region → Region
earliest_from best [] = best
earliest_from best (r ∷ rs) = earliest_from (earlier best r) rs

-- a region that commits next, or one that does not commit
abbrev pub earliest : List Region → Region
earliest rs = earliest_from no_region rs

-- "its log entries are freed for use again, its list entry and all dependences on it vanish"
abbrev pub freed_entry : ℕ → Entry → Entry
freed_entry k e = cond (is_of k e) no_entry e

abbrev pub without_dep : ℕ → ℕ → ℕ
without_dep k d = cond (eqb d k) 0 d

unfoldable pub after_commit : ℕ → Region → Region
after_commit k r = cond (is_key k r) no_region (with_deps (map (without_dep k) r.deps) r)

unfoldable pub freed : ℕ → Thread → Thread
freed k th = with_log (map (freed_entry k) th.log) th

unfoldable pub commit : ℕ → Tables → Tables
commit k ts = with_thread (thread_of k) (freed k (thread_at (thread_of k) ts)) (with_regions (map (after_commit k) ts.regions) ts)

-- the tables after a step's commits, and the regions that committed, in their order
pub record Settled : Type 0 where
  pub tables : Tables
  pub keys : List ℕ

-- region k committed before those
abbrev pub before : ℕ → Settled → Settled
before k s = record { tables = s.tables; keys = k ∷ s.keys }

-- "This repeats within the same step until no region can commit": at most n times
unfoldable pub settle : ℕ → Tables → Settled
settle zero ts = record { tables = ts; keys = [] }
settle (suc n) ts =
    elim (commits (earliest ts.regions)) [
      | false ↦ record { tables = ts; keys = [] }
      | true ↦ before (earliest ts.regions).key (settle n (commit (earliest ts.regions).key ts))
    ]

-- done, then the commits: there are at most as many as the list has places
unfoldable pub settled : Tables → Settled
settled ts = settle (length ts.regions) (with_regions (map done_region ts.regions) ts)
