-- The tables as bytes in a fixed layout, 5,130 in all: not in document 01. "Numbers are little-endian"; a flag is 0 or 1; a key is 65536 * thread + number, 0 is none.
use Rattle.std.specs.Prelude.{ℕ, Bool, cond, List, [], ◌++◌, ◌∷◌, map, length}
use Rattle.rules.specs.Bytes.{bytes_of}
use Rattle.rules.specs.Lists.{flat}
use Rattle.rules.specs.Run.{Wrote, run_file, wrote_into}
use Rattle.rules.specs.Tables.{Lent}
use Rattle.rules.specs.declared.Entry.{Entry}
use Rattle.rules.specs.declared.Region.{Region}
use Rattle.rules.specs.declared.Slot.{Slot}
use Rattle.rules.specs.declared.SlotState.TheVariants.{Empty, InFlight, Waiting}
use Rattle.rules.specs.declared.SlotState.{SlotState}
use Rattle.rules.specs.declared.Tables.{Tables}
use Rattle.rules.specs.declared.Thread.{Thread}

abbrev pub flag : Bool → ℕ
flag b = cond b 1 0

-- ---- a slot, 3 bytes: line, state, count

-- 0 empty, 1 waiting, 2 in flight
abbrev pub state_byte : SlotState → ℕ
state_byte Empty = 0
state_byte (Waiting n) = 1
state_byte InFlight = 2

-- 0 unless it waits
abbrev pub count_byte : SlotState → ℕ
count_byte Empty = 0
count_byte (Waiting n) = n
count_byte InFlight = 0

unfoldable pub slot_bytes : Slot → List ℕ
slot_bytes s = s.line ∷ state_byte s.state ∷ count_byte s.state ∷ []

-- ---- a region, 55 bytes: key (4; 0 is a free place), channel, ended, done, stamp (4), four dependences (key, 4 each), four recent lines, eight slots

unfoldable pub front_bytes : Region → List ℕ
front_bytes r = bytes_of 4 r.key ++ (r.channel ∷ flag r.ended ∷ flag r.done ∷ bytes_of 4 r.stamp)

unfoldable pub region_bytes : Region → List ℕ
region_bytes r = front_bytes r ++ (flat (bytes_of 4) r.deps ++ (r.recent ++ flat slot_bytes r.slots))

-- ---- a thread, 259 bytes: depth, number of its last region (2), a bit for each line that its open region has read (32), 32 log entries

-- a log entry, 7 bytes: key (4; 0 is a free place), line, rank, persistent
unfoldable pub entry_bytes : Entry → List ℕ
entry_bytes e = bytes_of 4 e.key ++ (e.line ∷ e.rank ∷ flag e.persistent ∷ [])

unfoldable pub thread_bytes : Thread → List ℕ
thread_bytes th = th.depth ∷ (bytes_of 2 th.last ++ (flat (bytes_of 8) th.reads ++ flat entry_bytes th.log))

-- ---- the tables

-- 18 bytes: T, L (2), the parties of threads 0 to 7, the reserves of party 0 and 1, cut, the number of regions that have ended (4)
unfoldable pub head_bytes : Tables → List ℕ
head_bytes ts =
    ts.size.threads
    ∷ (bytes_of 2 ts.size.lines
    ++ (bytes_of 8 ts.size.shares.parties ++ (bytes_of 2 ts.size.shares.reserves ++ (flag ts.cut ∷ bytes_of 4 ts.clock))))

-- the head, 8 threads, 32 regions, the owner of each line (key, 4), the lock of each line (1)
unfoldable pub tables_bytes : Tables → List ℕ
tables_bytes ts =
    head_bytes ts ++ (flat thread_bytes ts.threads ++ (flat region_bytes ts.regions ++ (flat (bytes_of 4) ts.owner ++ map flag ts.lock)))

-- ---- the calls

-- the bytes of tables at the front of a buffer, and their number as the value; 6 and nothing written if the buffer is shorter
unfoldable pub tables_into : Tables → List ℕ → Wrote
tables_into ts d = wrote_into (tables_bytes ts) (length (tables_bytes ts)) d

-- the call that runs a file over lent memory and writes the tables after it
unfoldable pub tables_call : List ℕ → List ℕ → List ℕ → Wrote
tables_call file memory d = tables_into (run_file (Lent memory) file).board.tables d
