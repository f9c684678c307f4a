-- A log entry in its thread's log.
use Rattle.std.specs.Prelude.{◌≡◌, ◌<◌, ◌≤◌, ◌*◌, ◌+◌, ℕ, List, Option, MatchOption, length, set}
use Rattle.rules.specs.Access.{free_entry, fresh_entry, is_of}
use Rattle.rules.specs.Lists.{count, place}
use Rattle.rules.specs.Measures.{most_entries}
use Rattle.rules.specs.Tables.{line_of, no_entry, thread_at, with_log, with_old, with_tables, with_thread, with_write}
use Rattle.rules.specs.declared.Board.{Board}
use Rattle.rules.specs.declared.Entry.{Entry}

-- an entry of region k for line l stands at the first free place, or there is none and the log is as it was
abbrev pub IsAdded : ℕ → ℕ → List Entry → List Entry → Option ℕ → Type 0
IsAdded k l es fs r =
    MatchOption r ((length es ≤ place (is_of 0) es) × (fs ≡ es)) (λ i. (place (is_of 0) es ≡ i) × (i < length es) × (fs ≡ set es i (with_write k l (count (is_of k) es) no_entry)))

-- the old line l and its entry of region k stand in the log of thread t
abbrev pub entered : ℕ → ℕ → ℕ → Board → Board
entered t k l b =
    with_old (set b.log_lines (most_entries * t + free_entry t b.tables) (line_of l b.cur))
    (with_tables
    (with_thread t
    (with_log (set (thread_at t b.tables).log (free_entry t b.tables) (fresh_entry t k l b.tables)) (thread_at t b.tables))
    b.tables) b)
