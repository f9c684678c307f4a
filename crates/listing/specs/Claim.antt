-- What holds of the layout. The proofs stand in proofs/.
use Rattle.std.specs.Prelude.{◌^◌, ℕ, ◌≡◌, Bool, ◌&&◌, false, true, List, [], ◌++◌, ◌∷◌, eqb, ltb, length, replicate}
use Rattle.listing.specs.Layout.{entry_bytes, region_bytes, tables_bytes, thread_bytes}
use Rattle.rules.specs.Lists.{all}
use Rattle.rules.specs.Measures.{most_deps, most_entries, most_lines, most_regions, most_slots, most_threads, read_words, ripe_count}
use Rattle.rules.specs.Tables.{no_slot}
use Rattle.rules.specs.declared.Entry.{Entry}
use Rattle.rules.specs.declared.Region.{Region}
use Rattle.rules.specs.declared.SlotState.TheVariants.{InFlight, Waiting}
use Rattle.rules.specs.declared.Tables.{Tables}
use Rattle.rules.specs.declared.Thread.{Thread}

-- ---- lists have their lengths

abbrev pub is_long : {A : Type 0} → ℕ → List A → Bool
is_long n xs = eqb (length xs) n

abbrev pub long_thread : Thread → Bool
long_thread th = is_long read_words th.reads && is_long most_entries th.log

abbrev pub long_region : Region → Bool
long_region r = is_long most_deps r.deps && (is_long ripe_count r.recent && is_long most_slots r.slots)

pub record Long (ts : Tables) : Type 0 where
  pub threads : is_long most_threads ts.threads ≡ true
  pub each_thread : all long_thread ts.threads ≡ true
  pub regions : is_long most_regions ts.regions ≡ true
  pub each_region : all long_region ts.regions ≡ true
  pub owner : is_long most_lines ts.owner ≡ true
  pub lock : is_long most_lines ts.lock ≡ true

-- the layout is fixed
abbrev pub Fixed : Type 0
Fixed = (ts : Tables) → Long ts → length (tables_bytes ts) ≡ 5130

-- ---- the bytes tell the tables

-- a number fits w bytes
abbrev pub fits : ℕ → ℕ → Bool
fits w n = ltb n (256 ^ w)

abbrev pub entry_fits : Entry → Bool
entry_fits e = fits 4 e.key

abbrev pub thread_fits : Thread → Bool
thread_fits th = fits 2 th.last && (all (fits 8) th.reads && all entry_fits th.log)

abbrev pub region_fits : Region → Bool
region_fits r = fits 4 r.key && (fits 4 r.stamp && all (fits 4) r.deps)

-- the numbers of the tables fit their bytes
pub record Fits (ts : Tables) : Type 0 where
  pub lines : fits 2 ts.size.lines ≡ true
  pub parties : fits 8 ts.size.shares.parties ≡ true
  pub reserves : fits 2 ts.size.shares.reserves ≡ true
  pub clock : fits 4 ts.clock ≡ true
  pub each_thread : all thread_fits ts.threads ≡ true
  pub each_region : all region_fits ts.regions ≡ true
  pub owner : all (fits 4) ts.owner ≡ true

-- tables with the same bytes are the same, but for two fields that the layout leaves out: whether the starting memory is zero, and how much of it was lent
abbrev pub OneTables : Type 0
OneTables =
    (ts us : Tables) → Long ts → Long us → Fits ts → Fits us → ts.size.zero ≡ us.size.zero → ts.size.lent ≡ us.size.lent
    → tables_bytes ts ≡ tables_bytes us → ts ≡ us

-- ---- worked cases

-- region 259 of thread 2, in channel 1: ended, stamp 770, dependent on region 1 of thread 0 and region 4 of thread 5, with a slot that waits with count 3 and one
-- in flight
abbrev pub ended : Region
ended =
    record {
      key = 131331;
      channel = 1;
      ended = true;
      done = false;
      stamp = 770;
      deps = 1 ∷ 327684 ∷ 0 ∷ 0 ∷ [];
      recent = 9 ∷ 8 ∷ 7 ∷ 6 ∷ [];
      slots = record { line = 9; state = Waiting 3 } ∷ record { line = 8; state = InFlight } ∷ replicate 6 no_slot;
    }

-- the same before it ended, its lists left out
abbrev pub opened : Region
opened = record { key = 131331; channel = 1; ended = false; done = false; stamp = 0; deps = []; recent = []; slots = [] }

-- its log entry of line 9, its third: persistent, or in flight
abbrev pub logged : Bool → Entry
logged p = record { key = 131331; line = 9; rank = 2; persistent = p }

-- a thread with it as its last region, at depth 2, whose open region has read lines 0 and 72
abbrev pub running : Thread
running = record { depth = 2; last = 259; log = logged true ∷ []; reads = 1 ∷ 256 ∷ 0 ∷ 0 ∷ [] }

-- 3 threads, of parties 0, 1 and 1, whose reserves are 5 and 9; 256 lines; cut after 770 regions had ended. One thread, one region, one owner and two locks
abbrev pub small : Tables
small =
    record {
      size = record { threads = 3; lines = 256; shares = record { parties = 65792; reserves = 2309 }; zero = false; lent = 0 };
      cut = true;
      clock = 770;
      threads = record { depth = 2; last = 259; log = []; reads = [] } ∷ [];
      regions = opened ∷ [];
      owner = 327684 ∷ [];
      lock = true ∷ false ∷ [];
    }

pub record Worked : Type 0 where
  pub of_region : region_bytes ended
      ≡ 3 ∷ 1 ∷ 2 ∷ 0 ∷ 1 ∷ 1 ∷ 0 ∷ 2 ∷ 3 ∷ 0 ∷ 0
      ∷ 1 ∷ 0 ∷ 0 ∷ 0 ∷ 4 ∷ 0 ∷ 5 ∷ 0 ∷ 0 ∷ 0 ∷ 0 ∷ 0 ∷ 0 ∷ 0 ∷ 0 ∷ 0
      ∷ 9 ∷ 8 ∷ 7 ∷ 6
      ∷ 9 ∷ 1 ∷ 3 ∷ 8 ∷ 2 ∷ 0 ∷ replicate 18 0
  pub of_entry : entry_bytes (logged true) ≡ 3 ∷ 1 ∷ 2 ∷ 0 ∷ 9 ∷ 2 ∷ 1 ∷ []
  pub of_flight : entry_bytes (logged false) ≡ 3 ∷ 1 ∷ 2 ∷ 0 ∷ 9 ∷ 2 ∷ 0 ∷ []
  pub of_thread : thread_bytes running
      ≡ 2 ∷ 3 ∷ 1
      ∷ 1 ∷ 0 ∷ 0 ∷ 0 ∷ 0 ∷ 0 ∷ 0 ∷ 0 ∷ 0 ∷ 1 ∷ (replicate 22 0
      ++ (3 ∷ 1 ∷ 2 ∷ 0 ∷ 9 ∷ 2 ∷ 1 ∷ []))
  pub of_tables : tables_bytes small
      ≡ 3 ∷ 0 ∷ 1 ∷ 0 ∷ 1 ∷ 1 ∷ 0 ∷ 0 ∷ 0 ∷ 0 ∷ 0 ∷ 5 ∷ 9 ∷ 1 ∷ 2 ∷ 3 ∷ 0 ∷ 0
      ∷ 2 ∷ 3 ∷ 1
      ∷ 3 ∷ 1 ∷ 2 ∷ 0 ∷ 1 ∷ 0 ∷ 0 ∷ 0 ∷ 0 ∷ 0 ∷ 0
      ∷ 4 ∷ 0 ∷ 5 ∷ 0
      ∷ 1 ∷ 0 ∷ []
