-- "Read and write" and "Write".
use Rattle.std.specs.Prelude.{◌%◌, ◌*◌, ◌+◌, ◌/◌, ◌^◌, ℕ, Bool, ◌||◌, cond, not, true, List, [], ◌∷◌, map, eqb, get_or, set}
use Rattle.std.specs.Int.Bits.{bit_or}
use Rattle.rules.specs.Bytes.{byte_of, num_of}
use Rattle.rules.specs.Flight.{flown}
use Rattle.rules.specs.Lists.{count, place}
use Rattle.rules.specs.Slots.{renewed, written}
use Rattle.rules.specs.Measures.{most_entries, word_bits}
use Rattle.rules.specs.Tables.{current, line_of, no_entry, owner_of, region_at, thread_at, with_cur, with_deps, with_lock, with_log, with_old, with_owner, with_reads, with_recent, with_region, with_slots, with_tables, with_thread, with_write}
use Rattle.rules.specs.declared.Board.{Board}
use Rattle.rules.specs.declared.Entry.{Entry}
use Rattle.rules.specs.declared.Region.{Region}
use Rattle.rules.specs.declared.Tables.{Tables}
use Rattle.rules.specs.declared.Thread.{Thread}
use Rattle.undo.specs.Table.{any}

-- bit i of a number
abbrev pub is_set : ℕ → ℕ → Bool
is_set i n = eqb (n / 2 ^ i % 2) 1

-- ---- "If the line's owner is uncommitted and not the current region, it joins the current region's dependences (a set)"

-- the dependence that an access of line l by region k brings; 0 if none
abbrev pub dependence : ℕ → ℕ → Tables → ℕ
dependence k l ts = cond (eqb (owner_of l ts) k) 0 (owner_of l ts)

-- the dependence d is none, or it is among ds already
abbrev pub is_had : ℕ → List ℕ → Bool
is_had d ds = eqb d 0 || any (eqb d) ds

unfoldable pub joined : ℕ → List ℕ → List ℕ
joined d ds = cond (is_had d ds) ds (set ds (place (eqb 0) ds) d)

unfoldable pub read : ℕ → ℕ → Tables → Tables
read k l ts =
    with_region k (with_deps (joined (dependence k l ts) (region_at k ts.regions).deps) (region_at k ts.regions)) ts

-- ---- request 5: "a line that another thread's open region has read", a bit for each line

-- the open region of the thread has read line l
abbrev pub has_read : ℕ → Thread → Bool
has_read l th = is_set (l % word_bits) (get_or th.reads (l / word_bits) 0)

-- the bits with that of line l
abbrev pub also_read : ℕ → List ℕ → List ℕ
also_read l rs = set rs (l / word_bits) (bit_or (2 ^ (l % word_bits)) (get_or rs (l / word_bits) 0))

-- thread t, in its open region, has read line l
unfoldable pub note_read : ℕ → ℕ → Tables → Tables
note_read t l ts = with_thread t (with_reads (also_read l (thread_at t ts).reads) (thread_at t ts)) ts

-- ---- "If the owner is another region or none: the current region becomes owner, the line is locked, and the whole old line becomes a log entry, in flight"

abbrev pub is_of : ℕ → Entry → Bool
is_of k e = eqb e.key k

abbrev pub needs_log : ℕ → ℕ → Tables → Bool
needs_log k l ts = not (eqb (get_or ts.owner l 0) k)

-- where the thread's next log entry goes
abbrev pub free_entry : ℕ → Tables → ℕ
free_entry t ts = place (is_of 0) (thread_at t ts).log

abbrev pub fresh_entry : ℕ → ℕ → ℕ → Tables → Entry
fresh_entry t k l ts = with_write k l (count (is_of k) (thread_at t ts).log) no_entry

-- region k of thread t logs line l
unfoldable pub logged : ℕ → ℕ → ℕ → Board → Board
logged t k l b =
    with_old (set b.log_lines (most_entries * t + free_entry t b.tables) (line_of l b.cur))
    (with_tables
    (with_thread t
    (with_log (set (thread_at t b.tables).log (free_entry t b.tables) (fresh_entry t k l b.tables)) (thread_at t b.tables))
    (with_owner l k (with_lock l true b.tables))) b)

abbrev pub logged_once : ℕ → ℕ → ℕ → Board → Board
logged_once t k l b = cond (needs_log k l b.tables) (logged t k l b) b

-- ---- "The word is stored", and the region's slots and dependences follow
-- request 9: "byte i is stored where bit i of the mask (bit 0 the lowest) is set, the rest of the word stays. Kind 4 becomes the same with all bits set"

-- byte i of the word x after a write of the value v with a mask
abbrev pub byte_after : ℕ → ℕ → ℕ → ℕ → ℕ
byte_after mask v x i = cond (is_set i mask) (byte_of i v) (byte_of i x)

-- the bytes of a word
abbrev pub word_places : List ℕ
word_places = 0 ∷ 1 ∷ 2 ∷ 3 ∷ 4 ∷ 5 ∷ 6 ∷ 7 ∷ []

-- the word after it
unfoldable pub word_after : ℕ → ℕ → ℕ → ℕ
word_after mask v x = num_of (map (byte_after mask v x) word_places)

-- what a write changes in its line
abbrev pub stored_in : ℕ → ℕ → ℕ → List ℕ → List ℕ
stored_in w mask v x = set x w (word_after mask v (get_or x w 0))

-- line l changed
abbrev pub change_line : ℕ → (List ℕ → List ℕ) → List (List ℕ) → List (List ℕ)
change_line l f m = set m l (f (line_of l m))

-- a region after a write of line l: its last four different lines, and its slots
abbrev pub wrote_line : ℕ → Region → Region
wrote_line l r = with_slots (written (renewed l r.recent) l r.slots) (with_recent (renewed l r.recent) r)

-- region k after a write of line l: its dependences as the tables ts had them before, its last lines and its slots
unfoldable pub wrote : ℕ → ℕ → Tables → Region → Region
wrote k l ts r = wrote_line l (with_deps (joined (dependence k l ts) r.deps) r)

-- line l is changed and region k gets the record r
unfoldable pub stored : ℕ → Region → ℕ → (List ℕ → List ℕ) → Board → Board
stored k r l f b = with_cur (change_line l f b.cur) (with_tables (with_region k r b.tables) b)

-- a write of thread t to line l, which changes the line by f
unfoldable pub write : ℕ → ℕ → (List ℕ → List ℕ) → Board → Board
write t l f b =
    flown (current t b.tables)
    (stored (current t b.tables)
    (wrote (current t b.tables) l b.tables (region_at (current t b.tables) b.tables.regions))
    l f
    (logged_once t (current t b.tables) l b))
