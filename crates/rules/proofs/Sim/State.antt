-- The board's tables, after a list of accepted events, are those of a reachable state of the undo log (crate undo); and what only the board's own tables know.
use Rattle.undo.specs.Machine as u
use Rattle.undo.specs.History as v
use Rattle.undo.specs.Claim as c
use Prim.Native.Nat.{◌*◌, ◌+◌, ◌<◌, ◌≤◌, ℕ}
use mathlib.Core.Path.{◌≡◌}
use mathlib.Core.Logic.{◌≢◌, ◌⊎◌}
use mathlib.Core.Bool.{Bool, ◌&&◌, ◌||◌, false, not, true}
use mathlib.Core.List.{List, [], ◌∷◌}
use lib.Dec.{eqb}
use lib.ListN.{get_or, length}
use Rattle.rules.proofs.Codec.Bytes.{is_line}
use Rattle.rules.proofs.Views.{dep_view, entry_at, is_opened, newest, slot_view, state_of}
use Rattle.rules.specs.Access.{has_read, is_of}
use Rattle.rules.specs.Acknowledge.{is_entry}
use Rattle.rules.specs.Commit.{commits}
use Rattle.rules.specs.History.{Account, Change, Closes, Cuts, Nothing, Opens, Sets, Stores, Uses, account_of, depth_in, draws_on, ends_in, last_writer, lines_in, opened_in, read_in, region_in, uses_in, writes_in}
use Rattle.rules.specs.Lists.{count}
use Rattle.rules.specs.Refusal.{is_set_up, refusal}
use Rattle.rules.specs.Slots.{has_slot, is_empty}
use Rattle.rules.specs.Step.{apply}
use Rattle.rules.specs.Tables.{Memory, in_channel, line_of, listed, no_entry, no_region, no_slot, no_thread, owner_of, place_of, region_at, start_lines, thread_at, thread_of}
use Rattle.rules.specs.declared.Board.{Board}
use Rattle.rules.specs.declared.Entry.{Entry}
use Rattle.rules.specs.declared.Event.{Event}
use Rattle.rules.specs.declared.Region.{Region}
use Rattle.rules.specs.declared.Slot.{Slot}
use Rattle.rules.specs.declared.SlotState.TheVariants.{Empty, Waiting}
use Rattle.rules.specs.declared.Tables.{Tables}
use Rattle.rules.specs.declared.Thread.{Thread}
use Rattle.serial.specs.Looks.{Look, Seeing}
use Rattle.undo.specs.Recovery.{olds}
use Rattle.undo.specs.Table.{any}
use Rattle.rules.specs.Measures.{most_in_channel, ripe_count}

-- ---- the tables by themselves

-- no two slots name one line, and an empty slot is `no_slot`
pub data Distinct : List Slot → Type 0 where
  none : Distinct []
  more : {s : Slot} {ss : List Slot} → (is_empty s.state ≡ true → s ≡ no_slot) → (is_empty s.state ≡ false → state_of s.line ss ≡ Empty) → s.line < 256
      → Distinct ss → Distinct (s ∷ ss)

-- a place of the list of regions: `no_region`, or a region with its four dependences and eight slots; a done region has ended and has no slot
pub record GoodRegion (r : Region) : Type 0 where
  pub free : r.key ≡ 0 → r ≡ no_region
  pub deps : length r.deps ≡ 4
  pub slots : length r.slots ≡ 8
  pub distinct : Distinct r.slots
  pub finished : r.done ≡ true → (r.ended ≡ true) × (has_slot r ≡ false)

-- "16 entries each"
abbrev pub SixteenEach : List Region → Type 0
SixteenEach rs = (c : ℕ) → count (in_channel c) rs ≤ most_in_channel

-- the list of regions
pub record GoodRegions (rs : List Region) : Type 0 where
  pub count : length rs ≡ 32
  pub good : (i : ℕ) → GoodRegion (get_or rs i no_region)
  -- a key stands in one place only, where a lookup finds it: in the channel of its number
  pub unique : (i : ℕ) → (get_or rs i no_region).key ≢ 0 → place_of (get_or rs i no_region).key rs ≡ i
  pub channels : SixteenEach rs
  -- the dependences are a set
  pub deps_once : (i a b : ℕ) → get_or (get_or rs i no_region).deps a 0 ≢ 0 → get_or (get_or rs i no_region).deps a 0 ≡ get_or (get_or rs i no_region).deps b 0 → a ≡ b

-- the threads, of which the first n are in use
pub record GoodThreads (n : ℕ) (ths : List Thread) : Type 0 where
  pub count : length ths ≡ 8
  pub logs : (t : ℕ) → length (get_or ths t no_thread).log ≡ 32
  pub range : (t : ℕ) → n ≤ t → get_or ths t no_thread ≡ no_thread

pub record Shape (ts : Tables) : Type 0 where
  pub regions : GoodRegions ts.regions
  pub threads : GoodThreads ts.size.threads ts.threads
  pub owner : length ts.owner ≡ 256
  pub lock : length ts.lock ≡ 256
  -- before setup nothing has happened: at most 8 threads and 256 lines after it
  pub size : is_set_up ts ≡ false → ts.size.threads ≡ 0
  pub cut_setup : ts.cut ≡ true → is_set_up ts ≡ true

pub record Memories (b : Board) : Type 0 where
  pub cur : length b.cur ≡ 256
  pub med : length b.med ≡ 256
  pub old : length b.log_lines ≡ 256
  pub car : length b.car ≡ 256
  pub cur_lines : (l : ℕ) → l < 256 → is_line (line_of l b.cur) ≡ true
  pub med_lines : (l : ℕ) → l < 256 → is_line (line_of l b.med) ≡ true
  pub old_lines : (l : ℕ) → l < 256 → is_line (line_of l b.log_lines) ≡ true
  pub car_lines : (l : ℕ) → l < 256 → is_line (line_of l b.car) ≡ true

-- ---- the log: each entry is one of the chain of its line

pub record GoodEntry (b : Board) (s : u.State (List ℕ)) (t i : ℕ) (e : Entry) : Type 0 where
  pub thread : thread_of e.key ≡ t
  pub line : e.line < b.tables.size.lines
  pub rank : e.rank < count (is_of e.key) (thread_at t b.tables).log
  pub old : olds (eqb e.key) (s.chain e.line) ≡ line_of (32 * t + i) b.log_lines ∷ []
  -- in flight exactly if the line is locked by this region
  pub flight : e.persistent ≡ not (s.lock e.line && u.owns e.key (s.chain e.line))

pub record Logs (b : Board) (s : u.State (List ℕ)) : Type 0 where
  pub entry : (t i : ℕ) → (entry_at t i b.tables).key ≢ 0 → GoodEntry b s t i (entry_at t i b.tables)
  pub empty : (t i : ℕ) → (entry_at t i b.tables).key ≡ 0 → entry_at t i b.tables ≡ no_entry
  pub present : (k l : ℕ) → c.logged k (s.chain l) ≡ true → any (is_entry k l) (thread_at (thread_of k) b.tables).log ≡ true
  pub once : (t i j : ℕ) → (entry_at t i b.tables).key ≢ 0 → (entry_at t i b.tables).key ≡ (entry_at t j b.tables).key
      → (entry_at t i b.tables).line ≡ (entry_at t j b.tables).line → i ≡ j
  pub ranks : (t i j : ℕ) → (entry_at t i b.tables).key ≢ 0 → (entry_at t i b.tables).key ≡ (entry_at t j b.tables).key
      → (entry_at t i b.tables).rank ≡ (entry_at t j b.tables).rank → i ≡ j

-- ---- the history of both

abbrev pub conv : List Change → List (v.Wrote (List ℕ))
conv [] = []
conv (w ∷ ws) = record { rid = w.region; line = w.line; change = w.change } ∷ conv ws

pub record Told (b : Board) (es : List Account) (s : u.State (List ℕ)) (h : v.History (List ℕ)) : Type 0 where
  pub depth : (t : ℕ) → (thread_at t b.tables).depth ≡ depth_in t es
  pub last : (t : ℕ) → (thread_at t b.tables).last ≡ opened_in t es
  pub numbers : (t : ℕ) → opened_in t es ≤ 65535
  pub lines : is_set_up b.tables ≡ true → lines_in es ≡ b.tables.size.lines
  pub born : (k : ℕ) → s.born k ≡ is_opened es k
  pub ends : h.ends ≡ ends_in es
  pub writes : h.writes ≡ conv (writes_in es)
  pub uses : (k q : ℕ) → draws_on k q (uses_in es) ≡ true → q ≢ 0 → (v.used k q h.uses ≡ true) ⊎ (s.done q ≡ true)
  -- an open region is its thread's last one, and the thread is inside it
  pub open_last : (k : ℕ) → u.Open s k → (k ≡ region_in (thread_of k) es) × (depth_in (thread_of k) es ≢ 0)
  pub last_open : (t : ℕ) → depth_in t es ≢ 0 → u.Open s (region_in t es)
  pub owner : (l : ℕ) → get_or b.tables.owner l 0 ≡ last_writer l (writes_in es)

abbrev pub is_use : Account → Bool
is_use (Sets l s) = false
is_use (Opens t) = false
is_use (Closes t) = false
is_use (Uses t l) = true
is_use (Stores t l f) = false
is_use Cuts = false
is_use Nothing = false

-- ---- the whole relation, inside an event and between two

pub record Sim (b : Board) (es : List Account) (s : u.State (List ℕ)) (h : v.History (List ℕ)) : Type 0 where
  pub shape : Shape b.tables
  pub memories : Memories b
  pub logs : Logs b s
  pub told : Told b es s h
  pub cur : (l : ℕ) → s.cur l ≡ line_of l b.cur
  pub med : (l : ℕ) → s.med l ≡ line_of l b.med
  pub lock : (l : ℕ) → s.lock l ≡ get_or b.tables.lock l false
  pub slot : (l k : ℕ) → s.slot l k ≡ slot_view b l k
  pub dep : (a d : ℕ) → s.dep a d ≡ dep_view b.tables a d
  pub live : (k : ℕ) → listed k b.tables.regions ≡ (s.born k && not (s.done k))
  pub ended : (k : ℕ) → listed k b.tables.regions ≡ true → (region_at k b.tables.regions).ended ≡ s.over k
  pub top : (l : ℕ) → newest (s.chain l) ≡ owner_of l b.tables
  -- a slot that waits is the owner's
  pub waits : (l k : ℕ) → s.slot l k ≡ u.Waits → newest (s.chain l) ≡ k

-- an ended region without slots is done
abbrev pub Finished : Region → Type 0
Finished r = r.ended ≡ true → has_slot r ≡ false → r.done ≡ true

-- between two events nothing is left to be done: no slot that could fly waits (its count is 4 or its region has ended, and its line is unlocked), every ended
-- region without slots is done, and no region can commit
pub record Rest (b : Board) : Type 0 where
  pub flown : (k l c : ℕ) → (eqb c ripe_count || (region_at k b.tables.regions).ended) ≡ true → state_of l (region_at k b.tables.regions).slots ≡ Waiting c
      → get_or b.tables.lock l false ≡ true
  pub finished : (i : ℕ) → Finished (get_or b.tables.regions i no_region)
  pub settled : (i : ℕ) → commits (get_or b.tables.regions i no_region) ≡ false

-- ---- request 5: what the accepted reads saw (crate serial), and the lines that the threads have marked

-- the looks of the reads among the accepted events
pub data Looks : List Account → List (Look (List ℕ)) → Type 0 where
  unread : Looks [] []
  looks : {t l : ℕ} {es : List Account} {ks : List (Look (List ℕ))} (k : Look (List ℕ)) → k.rid ≡ region_in t es → k.line ≡ l
      → k.before ≡ conv (writes_in es) → Looks es ks → Looks (Uses t l ∷ es) (k ∷ ks)
  other : {e : Account} {es : List Account} {ks : List (Look (List ℕ))} → is_use e ≡ false → Looks es ks → Looks (e ∷ es) ks

-- a thread's marks are the lines that its open region has read
pub record Marks (b : Board) (es : List Account) : Type 0 where
  pub words : (t : ℕ) → length (thread_at t b.tables).reads ≡ 4
  pub marks : (t l : ℕ) → l < 256 → has_read l (thread_at t b.tables) ≡ read_in t l es

-- allowed actions lead to the state from starting memory m, and break none of the looks of the accepted reads
pub record Watched (m : ℕ → List ℕ) (b : Board) (es : List Account) (s : u.State (List ℕ)) (h : v.History (List ℕ)) : Type 0 where
  pub seen : List (Look (List ℕ))
  pub seeing : Seeing m s h seen
  pub looks : Looks es seen
  pub marks : Marks b es

-- some reachable state of the undo log has the board's tables
pub data Simulated (m : Memory) (b : Board) (es : List Account) : Type 0 where
  by : (s : u.State (List ℕ)) (h : v.History (List ℕ)) → Watched (λ l. line_of l (start_lines m)) b es s h → Sim b es s h → Simulated m b es

pub shape_of : {m : Memory} {b : Board} {es : List Account} → Simulated m b es → Shape b.tables
shape_of (by s h w i) = i.shape

-- the thread's depth by the events
pub depth_of_lem : {m : Memory} {b : Board} {es : List Account} → Simulated m b es → (t : ℕ) → (thread_at t b.tables).depth ≡ depth_in t es
depth_of_lem (by s h w i) t = i.told.depth t

-- what every accepted event keeps
pub record Kept (m : Memory) (b : Board) (es : List Account) : Type 0 where
  pub simulated : Simulated m b es
  pub rest : Rest b

abbrev pub Keeps : Event → Type 0
Keeps e = (m : Memory) (b : Board) (es : List Account) → refusal b.tables e ≡ 0 → Kept m b es → Kept m (apply b e).board (account_of e ∷ es)
