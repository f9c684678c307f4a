-- "End to depth 0 ends the region; to other depths only the depth falls."
use Rattle.std.specs.Prelude.{◌%◌, ◌+◌, ◌-◌, ℕ}
use Rattle.rules.specs.Flight.{flown}
use Rattle.rules.specs.Tables.{current, no_reads, region_at, thread_at, with_clock, with_depth, with_end, with_reads, with_region, with_tables, with_thread}
use Rattle.rules.specs.declared.Board.{Board}
use Rattle.rules.specs.declared.Region.{Region}
use Rattle.rules.specs.declared.Tables.{Tables}

-- the clock counts the ends; it never comes to 2 ^ 32, since there are at most 8 * 65,535 regions
abbrev pub tick : ℕ → ℕ
tick c = (c + 1) % 4294967296

abbrev pub ended_region : ℕ → Region → Region
ended_region c r = with_end c r

abbrev pub shallower : ℕ → Tables → Tables
shallower t ts = with_thread t (with_depth ((thread_at t ts).depth - 1) (thread_at t ts)) ts

-- thread t at depth 0: request 5 speaks of the "open region", so that what it has read counts no more
unfoldable pub outside : ℕ → Tables → Tables
outside t ts = with_thread t (with_reads no_reads (with_depth ((thread_at t ts).depth - 1) (thread_at t ts))) ts

unfoldable pub closed : ℕ → Tables → Tables
closed k ts = with_clock (tick ts.clock) (with_region k (ended_region (tick ts.clock) (region_at k ts.regions)) ts)

-- the region of thread t ends
unfoldable pub end_region : ℕ → Board → Board
end_region t b = flown (current t b.tables) (with_tables (closed (current t b.tables) (outside t b.tables)) b)
