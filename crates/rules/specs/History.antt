-- The words of demand 3, by the event list alone. A list of accepted events stands newest first here, each as its account: what is behind one came before it.
use Rattle.std.specs.Prelude.{◌+◌, ◌-◌, suc, zero, ℕ, Bool, ◌&&◌, ◌||◌, cond, false, not, true, List, [], ◌++◌, ◌∷◌, eqb, ltb, drop, take, Err, Ok}
use Rattle.rules.specs.Access.{change_line, stored_in}
use Rattle.rules.specs.Acknowledge.{data_ack, log_ack}
use Rattle.rules.specs.Bytes.{line_bytes, num_of}
use Rattle.rules.specs.Commit.{settled}
use Rattle.rules.specs.End.{end_region}
use Rattle.rules.specs.Lists.{different, flat}
use Rattle.rules.specs.Record.{read_record}
use Rattle.rules.specs.Recovery.{line_start}
use Rattle.rules.specs.Refusal.{depth_of}
use Rattle.rules.specs.Step.{step}
use Rattle.rules.specs.Tables.{Memory, fresh, key_of, start_lines}
use Rattle.rules.specs.declared.Board.{Board}
use Rattle.rules.specs.declared.Event.{Event}
use Rattle.rules.specs.declared.Event.TheVariants.{Begin, Cut, DataAck, End, Fence, LogAck, Read, Setup, Write}
use Rattle.rules.specs.Record.{Reading}
use Rattle.rules.specs.declared.Shares.{Shares}
use Rattle.undo.specs.Table.{any, is_in}

-- ---- what an event is to the history: its account

pub data Account : Type 0 where
  -- a setup, with its L, parties and reserves
  Sets : ℕ → Shares → Account
  -- a begin and an end of a thread, at any depth
  Opens : ℕ → Account
  Closes : ℕ → Account
  -- a read of a thread from a line
  Uses : ℕ → ℕ → Account
  -- a write of a thread to a line, with what it changes there
  Stores : ℕ → ℕ → (List ℕ → List ℕ) → Account
  Cuts : Account
  Nothing : Account

abbrev pub account_of : Event → Account
account_of (Setup n l s) = Sets l s
account_of (Begin t) = Opens t
account_of (End t) = Closes t
account_of (Read t l w) = Uses t l
account_of (Write t l w mask v) = Stores t l (stored_in w mask v)
account_of (LogAck l) = Nothing
account_of (DataAck l) = Nothing
account_of (Fence t) = Nothing
account_of Cut = Cuts

-- ---- "What is accepted .. the refusals and Steps give when worked as definitions over the list from the starting memory"

-- the event of a step, if it was accepted
abbrev pub noted : ℕ → Reading → List Account → List Account
noted zero (Ok e) es = account_of e ∷ es
noted zero (Err n) es = es
noted (suc c) x es = es

-- the accepted events of a list of records, newest first, before those already noted
unfoldable pub accepted_from : Board → List (List ℕ) → List Account → List Account
accepted_from b [] es = es
accepted_from b (r ∷ rs) es = accepted_from (step b r).board rs (noted (step b r).answer.refusal (read_record r) es)

abbrev pub accepted_in : Memory → List (List ℕ) → List Account
accepted_in m rs = accepted_from (fresh m) rs []

-- a cut is among the accepted events
abbrev pub is_cut : Account → Bool
is_cut (Sets l s) = false
is_cut (Opens t) = false
is_cut (Closes t) = false
is_cut (Uses t l) = false
is_cut (Stores t l f) = false
is_cut Cuts = true
is_cut Nothing = false

abbrev pub has_cut : List Account → Bool
has_cut es = any is_cut es

-- ---- "a thread's depth is its accepted begins less its accepted ends"

abbrev pub deepened : ℕ → Account → ℕ → ℕ
deepened t (Sets l s) d = d
deepened t (Opens u) d = cond (eqb u t) (d + 1) d
deepened t (Closes u) d = cond (eqb u t) (d - 1) d
deepened t (Uses u l) d = d
deepened t (Stores u l f) d = d
deepened t Cuts d = d
deepened t Nothing d = d

unfoldable pub depth_in : ℕ → List Account → ℕ
depth_in t [] = 0
depth_in t (e ∷ es) = deepened t e (depth_in t es)

-- ---- "Each begin accepted at depth 0 opens a region; its predecessor is the thread's one before": the thread's regions are numbered from 1

abbrev pub one_more : ℕ → Account → ℕ → ℕ → ℕ
one_more t (Sets l s) d n = n
one_more t (Opens u) d n = cond (eqb u t && eqb d 0) (n + 1) n
one_more t (Closes u) d n = n
one_more t (Uses u l) d n = n
one_more t (Stores u l f) d n = n
one_more t Cuts d n = n
one_more t Nothing d n = n

-- how many regions the thread has opened
unfoldable pub opened_in : ℕ → List Account → ℕ
opened_in t [] = 0
opened_in t (e ∷ es) = one_more t e (depth_in t es) (opened_in t es)

-- the thread's last region: at any depth but 0 the one that its reads and writes are of
abbrev pub region_in : ℕ → List Account → ℕ
region_in t es = key_of t (opened_in t es)

-- ---- "The thread's reads and writes accepted until the end back to depth 0 are the region's, and that end ends it"

pub record Change : Type 0 where
  pub region : ℕ
  pub line : ℕ
  pub change : List ℕ → List ℕ

abbrev pub change_of : Account → List Account → List Change → List Change
change_of (Sets l s) es ws = ws
change_of (Opens u) es ws = ws
change_of (Closes u) es ws = ws
change_of (Uses u l) es ws = ws
change_of (Stores u l f) es ws = record { region = region_in u es; line = l; change = f } ∷ ws
change_of Cuts es ws = ws
change_of Nothing es ws = ws

-- the writes, newest first
unfoldable pub writes_in : List Account → List Change
writes_in [] = []
writes_in (e ∷ es) = change_of e es (writes_in es)

-- the lines of region k's writes, newest first
unfoldable pub lines_written : ℕ → List Change → List ℕ
lines_written k [] = []
lines_written k (w ∷ ws) = cond (eqb w.region k) (w.line ∷ lines_written k ws) (lines_written k ws)

-- the different lines of region k, last written first
abbrev pub lines_last : ℕ → List Change → List ℕ
lines_last k ws = different (lines_written k ws)

abbrev pub end_of : Account → List Account → List ℕ → List ℕ
end_of (Sets l s) es ks = ks
end_of (Opens u) es ks = ks
end_of (Closes u) es ks = cond (eqb (depth_in u es) 1) (region_in u es ∷ ks) ks
end_of (Uses u l) es ks = ks
end_of (Stores u l f) es ks = ks
end_of Cuts es ks = ks
end_of Nothing es ks = ks

-- the ended regions, the last to end first
unfoldable pub ends_in : List Account → List ℕ
ends_in [] = []
ends_in (e ∷ es) = end_of e es (ends_in es)

-- ---- request 5: "a line that another thread's open region has read"

abbrev pub read_of : ℕ → ℕ → Account → List Account → Bool → Bool
read_of k l (Sets n s) es r = r
read_of k l (Opens u) es r = r
read_of k l (Closes u) es r = r
read_of k l (Uses u x) es r = (eqb (region_in u es) k && eqb x l) || r
read_of k l (Stores u x f) es r = r
read_of k l Cuts es r = r
read_of k l Nothing es r = r

-- region k has read line l
unfoldable pub has_read_in : ℕ → ℕ → List Account → Bool
has_read_in k l [] = false
has_read_in k l (e ∷ es) = read_of k l e es (has_read_in k l es)

-- the open region of thread t has read line l
abbrev pub read_in : ℕ → ℕ → List Account → Bool
read_in t l es = not (eqb (depth_in t es) 0) && has_read_in (region_in t es) l es

-- ---- "A line's last writer before an event is the region of the last accepted write to it before that, perhaps the same region"; 0 if there is none

unfoldable pub last_writer : ℕ → List Change → ℕ
last_writer l [] = 0
last_writer l (w ∷ ws) = cond (eqb w.line l) w.region (last_writer l ws)

-- region `of` draws on region `on`: its predecessor, or the last writer of a line before one of its reads and writes; 0 is no region
pub record Use : Type 0 where
  pub of : ℕ
  pub on : ℕ

abbrev pub uses_of : Account → List Account → List Use → List Use
uses_of (Sets l s) es us = us
uses_of (Opens t) es us =
    cond (eqb (depth_in t es) 0 && ltb 0 (opened_in t es)) (record { of = key_of t (opened_in t es + 1); on = region_in t es } ∷ us) us
uses_of (Closes t) es us = us
uses_of (Uses t l) es us = record { of = region_in t es; on = last_writer l (writes_in es) } ∷ us
uses_of (Stores t l f) es us = record { of = region_in t es; on = last_writer l (writes_in es) } ∷ us
uses_of Cuts es us = us
uses_of Nothing es us = us

unfoldable pub uses_in : List Account → List Use
uses_in [] = []
uses_in (e ∷ es) = uses_of e es (uses_in es)

abbrev pub draws_on : ℕ → ℕ → List Use → Bool
draws_on k q us = any (λ u. eqb u.of k && eqb u.on q) us

-- ---- "what is committed, the refusals and Steps give"

-- the regions that commit in an accepted event, as its rule tells
abbrev pub commits_of : Event → Board → List ℕ
commits_of (Setup n l s) b = []
commits_of (Begin t) b = []
commits_of (End t) b = cond (eqb (depth_of t b.tables) 1) (settled (end_region t b).tables).keys []
commits_of (Read t l w) b = []
commits_of (Write t l w mask v) b = []
commits_of (LogAck l) b = (settled (log_ack l b).tables).keys
commits_of (DataAck l) b = (settled (data_ack l b).tables).keys
commits_of (Fence t) b = []
commits_of Cut b = []

abbrev pub commits_by : ℕ → Reading → Board → List ℕ
commits_by zero (Ok e) b = commits_of e b
commits_by zero (Err n) b = []
commits_by (suc c) x b = []

-- the regions that commit in a list of records, before those already noted
unfoldable pub commits_from : Board → List (List ℕ) → List ℕ → List ℕ
commits_from b [] ks = ks
commits_from b (r ∷ rs) ks = commits_from (step b r).board rs (commits_by (step b r).answer.refusal (read_record r) b ++ ks)

unfoldable pub committed : Memory → List (List ℕ) → ℕ → Bool
committed m rs k = is_in k (commits_from (fresh m) rs [])

-- ---- the expected memory: "the starting memory with the accepted writes of the committed regions, region by region in the order they ended"

-- memory with the writes of region k, "applied in event order"
unfoldable pub applied : ℕ → List Change → List (List ℕ) → List (List ℕ)
applied k [] m = m
applied k (w ∷ ws) m = cond (eqb w.region k) (change_line w.line w.change (applied k ws m)) (applied k ws m)

-- memory with the writes of those ended regions that pass a test, in the order they ended
unfoldable pub effects : (ℕ → Bool) → List Change → List (List ℕ) → List ℕ → List (List ℕ)
effects done ws m [] = m
effects done ws m (k ∷ ks) = cond (done k) (applied k ws (effects done ws m ks)) (effects done ws m ks)

unfoldable pub expected : Memory → List (List ℕ) → List (List ℕ)
expected m rs = effects (committed m rs) (writes_in (accepted_in m rs)) (start_lines m) (ends_in (accepted_in m rs))

-- "The memory found is the 64 bytes of each record 33, line 0 upward": n lines from line l on
unfoldable pub found_from : ℕ → ℕ → List ℕ → List ℕ
found_from l zero bs = []
found_from l (suc n) bs = take 64 (drop (line_start l) bs) ++ found_from (suc l) n bs

-- the number of lines stands in the head
abbrev pub memory_found : List ℕ → List ℕ
memory_found bs = found_from 0 (num_of (take 2 (drop 2 bs))) bs

-- L, of the accepted setup
abbrev pub lines_of : Account → ℕ → ℕ
lines_of (Sets l s) k = l
lines_of (Opens t) k = k
lines_of (Closes t) k = k
lines_of (Uses t l) k = k
lines_of (Stores t l f) k = k
lines_of Cuts k = k
lines_of Nothing k = k

unfoldable pub lines_in : List Account → ℕ
lines_in [] = 0
lines_in (e ∷ es) = lines_of e (lines_in es)

unfoldable pub expected_bytes : Memory → List (List ℕ) → List ℕ
expected_bytes m rs = flat line_bytes (take (lines_in (accepted_in m rs)) (expected m rs))
