-- "Begin at depth 0 opens the next number, entered in both lists. It depends on its predecessor if that is uncommitted. At other depths only the depth rises."
use Rattle.std.specs.Prelude.{◌+◌, ℕ, cond, List, eqb, set}
use Rattle.rules.specs.Tables.{channel_of, current, free_place, key_of, listed, no_region, number_of, thread_at, with_channel, with_depth, with_deps, with_key, with_last, with_regions, with_thread}
use Rattle.rules.specs.declared.Region.{Region}
use Rattle.rules.specs.declared.Tables.{Tables}

-- region k begins, in the channel of its number; its predecessor is region p
abbrev pub begun : ℕ → ℕ → List Region → Region
begun k p rs = with_deps (set no_region.deps 0 (cond (listed p rs) p 0)) (with_channel (channel_of (number_of k)) (with_key k no_region))

unfoldable pub opened : ℕ → Tables → Tables
opened t ts =
    with_thread t (with_depth 1 (with_last ((thread_at t ts).last + 1) (thread_at t ts)))
    (with_regions (set ts.regions (free_place ts.regions) (begun (key_of t ((thread_at t ts).last + 1)) (current t ts) ts.regions)) ts)

abbrev pub deeper : ℕ → Tables → Tables
deeper t ts = with_thread t (with_depth ((thread_at t ts).depth + 1) (thread_at t ts)) ts

unfoldable pub begin : ℕ → Tables → Tables
begin t ts = cond (eqb (thread_at t ts).depth 0) (opened t ts) (deeper t ts)
