-- "Flight. A waiting slot flies when its line is unlocked and its count is 4 or its region has ended. It carries the line as it then stands."
-- Only a write (it counts), an end and a log acknowledgement (it unlocks) can let a slot fly, and only a slot of the region that wrote, that ended, or
-- that owns the line: after each of these events the slots of that region are looked through.
use Rattle.std.specs.Prelude.{ℕ}
use Rattle.rules.specs.Slots.{carried, flown_slots}
use Rattle.rules.specs.Tables.{region_at, with_car, with_region, with_slots, with_tables}
use Rattle.rules.specs.declared.Board.{Board}

-- region k's slots fly where they can
unfoldable pub flown : ℕ → Board → Board
flown k b =
    with_car (carried b.tables.lock (region_at k b.tables.regions).ended (region_at k b.tables.regions).slots b.cur b.car)
    (with_tables
    (with_region k
    (with_slots
    (flown_slots b.tables.lock (region_at k b.tables.regions).ended (region_at k b.tables.regions).slots)
    (region_at k b.tables.regions))
    b.tables) b)
