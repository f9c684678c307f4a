-- The tests of an event are taken in two parts at a number, and the last two of a write stand alone.
use Rattle.std.specs.Prelude.{ℕ, ◌&&◌, cond, not, List, [], ◌∷◌, eqb}
use Rattle.undo.specs.Table.{any}
use Rattle.rules.specs.Access.{is_of, needs_log}
use Rattle.rules.specs.Refusal.{Test, first_bad, refuse}
use Rattle.rules.specs.Slots.{is_full, slot_for}
use Rattle.rules.specs.Tables.{current, region_at, thread_at}
use Rattle.rules.specs.declared.Tables.{Tables}

-- the tests before number n
abbrev pub before : ℕ → List Test → List Test
before n [] = []
before n (x ∷ xs) = cond (eqb x.code n) [] (x ∷ before n xs)

-- "20 new slot and eight held. 21 new log entry and 32 held.": a write of thread t to line l
abbrev pub late : ℕ → ℕ → Tables → ℕ
late t l ts =
    first_bad
    (refuse 20 (is_full (slot_for l (region_at (current t ts) ts.regions).slots))
    ∷ refuse 21 (needs_log (current t ts) l ts && not (any (is_of 0) (thread_at t ts).log))
    ∷ [])
