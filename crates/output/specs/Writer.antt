-- A writer as its room.
use Rattle.std.specs.Prelude.{ℕ, ◌≡◌, List}
use Rattle.output.specs.declared.Writer.{Writer}
use Rattle.output.specs.Room.{Room, puts, room}

abbrev pub room_of : Writer → Room
room_of w = room w.out.now w.cursor

-- w' is the writer w, over the same buffer, with the bytes bs put behind its cursor
abbrev pub Puts : Writer → List ℕ → Writer → Type 0
Puts w bs w' = (w'.out.ghost_name ≡ w.out.ghost_name) × (room_of w' ≡ puts (room_of w) bs)
