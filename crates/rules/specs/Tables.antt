-- "The engine holds current memory, the persistent medium, an owner and a lock for each line, and the lists."
use Rattle.std.specs.Prelude.{◌%◌, ◌*◌, ◌+◌, ◌/◌, suc, zero, ℕ, Bool, ◌&&◌, cond, false, not, true, List, [], ◌∷◌, eqb, leb, get_or, length, replicate, set}
use Rattle.rules.specs.Bytes.{line_at}
use Rattle.rules.specs.Lists.{place}
use Rattle.rules.specs.Measures.{line_words, most_deps, most_entries, most_lines, most_logged, most_regions, most_slots, most_threads, read_words, ripe_count}
pub use Rattle.rules.specs.declared.Board.{Board}
use Rattle.rules.specs.declared.Entry.{Entry}
use Rattle.rules.specs.declared.Region.{Region}
use Rattle.rules.specs.declared.Shares.{Shares}
use Rattle.rules.specs.declared.Size.{Size}
use Rattle.rules.specs.declared.Slot.{Slot}
use Rattle.rules.specs.declared.SlotState.{SlotState}
use Rattle.rules.specs.declared.SlotState.TheVariants.{Empty}
use Rattle.rules.specs.declared.Tables.{Tables}
use Rattle.rules.specs.declared.Thread.{Thread}
use Rattle.undo.specs.Table.{any}

-- ---- what a free place holds

abbrev pub no_line : List ℕ
no_line = replicate line_words 0

abbrev pub no_slot : Slot
no_slot = record { line = 0; state = Empty }

abbrev pub no_region : Region
no_region = record { key = 0; channel = 0; ended = false; done = false; stamp = 0; deps = replicate most_deps 0; recent = replicate ripe_count 0; slots = replicate most_slots no_slot }

abbrev pub no_entry : Entry
no_entry = record { key = 0; line = 0; rank = 0; persistent = false }

-- no line has been read
abbrev pub no_reads : List ℕ
no_reads = replicate read_words 0

abbrev pub no_thread : Thread
no_thread = record { depth = 0; last = 0; log = replicate most_entries no_entry; reads = no_reads }

abbrev pub no_shares : Shares
no_shares = record { parties = 0; reserves = 0 }

-- no numbers before setup
abbrev pub no_size : Bool → ℕ → Size
no_size zeroed n = record { threads = 0; lines = 0; shares = no_shares; zero = zeroed; lent = n }

-- ---- the starting memory: "a program starts with zero memory, a library caller lends the starting memory"

pub data Memory : Type 0 where
  Zero : Memory
  Lent : List ℕ → Memory

abbrev pub is_zero : Memory → Bool
is_zero Zero = true
is_zero (Lent bs) = false

abbrev pub lent_length : Memory → ℕ
lent_length Zero = 0
lent_length (Lent bs) = length bs

-- line i of lent memory, zero where the memory does not hold the whole line
unfoldable pub lent_line : List ℕ → ℕ → List ℕ
lent_line bs i = cond (leb (64 * i + 64) (length bs)) (line_at bs (64 * i)) no_line

-- n lines of lent memory, from line i on
unfoldable pub lent_from : List ℕ → ℕ → ℕ → List (List ℕ)
lent_from bs i zero = []
lent_from bs i (suc n) = lent_line bs i ∷ lent_from bs (suc i) n

unfoldable pub start_lines : Memory → List (List ℕ)
start_lines Zero = replicate most_lines no_line
start_lines (Lent bs) = lent_from bs 0 most_lines

abbrev pub fresh_tables : Bool → ℕ → Tables
fresh_tables zeroed n =
    record {
      size = no_size zeroed n;
      cut = false;
      clock = 0;
      threads = replicate most_threads no_thread;
      regions = replicate most_regions no_region;
      owner = replicate most_lines 0;
      lock = replicate most_lines false;
    }

-- "Current memory and medium both begin as it, with no owner, no lock and empty lists"
unfoldable pub fresh : Memory → Board
fresh m =
    record {
      tables = fresh_tables (is_zero m) (lent_length m);
      cur = start_lines m;
      med = start_lines m;
      log_lines = replicate most_logged no_line;
      car = replicate most_lines no_line;
    }

-- ---- looking up

abbrev pub key_of : ℕ → ℕ → ℕ
key_of t n = 65536 * t + n

abbrev pub thread_of : ℕ → ℕ
thread_of k = k / 65536

abbrev pub number_of : ℕ → ℕ
number_of k = k % 65536

abbrev pub thread_at : ℕ → Tables → Thread
thread_at t ts = get_or ts.threads t no_thread

-- the key of the thread's last region, which is the open one at any depth but 0
abbrev pub current : ℕ → Tables → ℕ
current t ts = key_of t (thread_at t ts).last

-- request 8: "A region's dependence entry lives in the channel given by the lowest bit of its number"
abbrev pub channel_of : ℕ → ℕ
channel_of n = n % 2

-- an entry of region k in whatever channel: a commit, a dropped flight, a fence and the image go over the entries of both
abbrev pub is_key : ℕ → Region → Bool
is_key k r = eqb r.key k

-- the entry of region k as a lookup finds it: "An entry carries its channel and every lookup goes by it"
abbrev pub is_placed : ℕ → Region → Bool
is_placed k r = is_key k r && eqb r.channel (channel_of (number_of k))

-- a place of the list that holds a region
abbrev pub is_held : Region → Bool
is_held r = not (eqb r.key 0)

abbrev pub in_channel : ℕ → Region → Bool
in_channel c r = is_held r && eqb r.channel c

-- region k is uncommitted
abbrev pub listed : ℕ → List Region → Bool
listed k rs = not (eqb k 0) && any (is_placed k) rs

abbrev pub place_of : ℕ → List Region → ℕ
place_of k rs = place (is_placed k) rs

-- the first place that holds no region
abbrev pub free_place : List Region → ℕ
free_place rs = place (is_key 0) rs

abbrev pub region_at : ℕ → List Region → Region
region_at k rs = get_or rs (place_of k rs) no_region

abbrev pub line_of : ℕ → List (List ℕ) → List ℕ
line_of l m = get_or m l []

abbrev pub locked : ℕ → Tables → Bool
locked l ts = get_or ts.lock l false

-- the uncommitted owner of a line; 0 if there is none
unfoldable pub owner_of : ℕ → Tables → ℕ
owner_of l ts = cond (listed (get_or ts.owner l 0) ts.regions) (get_or ts.owner l 0) 0

-- ---- storing: one setter for each field of a record, and everything else through these

abbrev pub with_size : Size → Tables → Tables
with_size z ts = record { size = z; cut = ts.cut; clock = ts.clock; threads = ts.threads; regions = ts.regions; owner = ts.owner; lock = ts.lock }

abbrev pub with_cut : Bool → Tables → Tables
with_cut c ts = record { size = ts.size; cut = c; clock = ts.clock; threads = ts.threads; regions = ts.regions; owner = ts.owner; lock = ts.lock }

abbrev pub with_clock : ℕ → Tables → Tables
with_clock n ts = record { size = ts.size; cut = ts.cut; clock = n; threads = ts.threads; regions = ts.regions; owner = ts.owner; lock = ts.lock }

abbrev pub with_threads : List Thread → Tables → Tables
with_threads ths ts = record { size = ts.size; cut = ts.cut; clock = ts.clock; threads = ths; regions = ts.regions; owner = ts.owner; lock = ts.lock }

abbrev pub with_regions : List Region → Tables → Tables
with_regions rs ts = record { size = ts.size; cut = ts.cut; clock = ts.clock; threads = ts.threads; regions = rs; owner = ts.owner; lock = ts.lock }

abbrev pub with_owners : List ℕ → Tables → Tables
with_owners os ts = record { size = ts.size; cut = ts.cut; clock = ts.clock; threads = ts.threads; regions = ts.regions; owner = os; lock = ts.lock }

abbrev pub with_locks : List Bool → Tables → Tables
with_locks ls ts = record { size = ts.size; cut = ts.cut; clock = ts.clock; threads = ts.threads; regions = ts.regions; owner = ts.owner; lock = ls }

abbrev pub with_numbers : ℕ → ℕ → Shares → Size → Size
with_numbers n l s z = record { threads = n; lines = l; shares = s; zero = z.zero; lent = z.lent }

abbrev pub with_key : ℕ → Region → Region
with_key k r = record { key = k; channel = r.channel; ended = r.ended; done = r.done; stamp = r.stamp; deps = r.deps; recent = r.recent; slots = r.slots }

abbrev pub with_channel : ℕ → Region → Region
with_channel c r = record { key = r.key; channel = c; ended = r.ended; done = r.done; stamp = r.stamp; deps = r.deps; recent = r.recent; slots = r.slots }

abbrev pub with_end : ℕ → Region → Region
with_end c r = record { key = r.key; channel = r.channel; ended = true; done = r.done; stamp = c; deps = r.deps; recent = r.recent; slots = r.slots }

abbrev pub with_done : Bool → Region → Region
with_done d r = record { key = r.key; channel = r.channel; ended = r.ended; done = d; stamp = r.stamp; deps = r.deps; recent = r.recent; slots = r.slots }

abbrev pub with_deps : List ℕ → Region → Region
with_deps ds r = record { key = r.key; channel = r.channel; ended = r.ended; done = r.done; stamp = r.stamp; deps = ds; recent = r.recent; slots = r.slots }

abbrev pub with_slots : List Slot → Region → Region
with_slots ss r = record { key = r.key; channel = r.channel; ended = r.ended; done = r.done; stamp = r.stamp; deps = r.deps; recent = r.recent; slots = ss }

abbrev pub with_recent : List ℕ → Region → Region
with_recent ls r = record { key = r.key; channel = r.channel; ended = r.ended; done = r.done; stamp = r.stamp; deps = r.deps; recent = ls; slots = r.slots }

abbrev pub with_state : SlotState → Slot → Slot
with_state x s = record { line = s.line; state = x }

abbrev pub with_line : ℕ → Slot → Slot
with_line l s = record { line = l; state = s.state }

abbrev pub with_write : ℕ → ℕ → ℕ → Entry → Entry
with_write k l n e = record { key = k; line = l; rank = n; persistent = e.persistent }

abbrev pub with_persistent : Bool → Entry → Entry
with_persistent p e = record { key = e.key; line = e.line; rank = e.rank; persistent = p }

abbrev pub with_depth : ℕ → Thread → Thread
with_depth d th = record { depth = d; last = th.last; log = th.log; reads = th.reads }

abbrev pub with_last : ℕ → Thread → Thread
with_last n th = record { depth = th.depth; last = n; log = th.log; reads = th.reads }

abbrev pub with_log : List Entry → Thread → Thread
with_log es th = record { depth = th.depth; last = th.last; log = es; reads = th.reads }

abbrev pub with_reads : List ℕ → Thread → Thread
with_reads rs th = record { depth = th.depth; last = th.last; log = th.log; reads = rs }

abbrev pub with_tables : Tables → Board → Board
with_tables ts b = record { tables = ts; cur = b.cur; med = b.med; log_lines = b.log_lines; car = b.car }

abbrev pub with_cur : List (List ℕ) → Board → Board
with_cur m b = record { tables = b.tables; cur = m; med = b.med; log_lines = b.log_lines; car = b.car }

abbrev pub with_med : List (List ℕ) → Board → Board
with_med m b = record { tables = b.tables; cur = b.cur; med = m; log_lines = b.log_lines; car = b.car }

abbrev pub with_old : List (List ℕ) → Board → Board
with_old m b = record { tables = b.tables; cur = b.cur; med = b.med; log_lines = m; car = b.car }

abbrev pub with_car : List (List ℕ) → Board → Board
with_car m b = record { tables = b.tables; cur = b.cur; med = b.med; log_lines = b.log_lines; car = m }

-- ---- and at a place of a list

abbrev pub with_thread : ℕ → Thread → Tables → Tables
with_thread t th ts = with_threads (set ts.threads t th) ts

-- region k, if it is listed, gets the record r
abbrev pub with_region : ℕ → Region → Tables → Tables
with_region k r ts = with_regions (set ts.regions (place_of k ts.regions) r) ts

abbrev pub with_owner : ℕ → ℕ → Tables → Tables
with_owner l k ts = with_owners (set ts.owner l k) ts

abbrev pub with_lock : ℕ → Bool → Tables → Tables
with_lock l b ts = with_locks (set ts.lock l b) ts
