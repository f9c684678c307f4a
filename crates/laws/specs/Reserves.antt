-- Request 1, reserves for the lint cleaners: where a setup has its parties and reserves, which of them are refused, and what a reserve promises; with
-- request 8 in each of two channels.
use Rattle.std.specs.Prelude.{◌%◌, ◌+◌, ◌-◌, ◌<◌, ◌≤◌, max, ℕ, ◌≡◌, ◌≢◌, Bool, ◌&&◌, cond, false, not, true, List, [], ◌++◌, ◌∷◌, eqb, leb, get_or, length, take, Err, Ok}
use Rattle.laws.specs.Laws.{Always}
use Rattle.laws.specs.Words.{opens_in}
use Rattle.rules.specs.Bytes.{num_of}
use Rattle.rules.specs.Claim.{board_after, is_byte}
use Rattle.rules.specs.History.{Account, Closes, Cuts, Nothing, Opens, Sets, Stores, Uses, accepted_in, committed, depth_in, opened_in}
use Rattle.rules.specs.Image.{image}
use Rattle.rules.specs.Lists.{all, count}
use Rattle.rules.specs.Measures.{most_in_channel, most_threads}
use Rattle.rules.specs.Record.{read_record, shares_at}
use Rattle.rules.specs.Refusal.{Test, depth_of, fits, in_range, is_set_up, other_party, party_of, refusal, refuse, reserve_of, tests_of}
use Rattle.rules.specs.Step.{step}
use Rattle.rules.specs.Tables.{Memory, in_channel, no_shares, number_of, thread_at, thread_of, with_numbers, with_size, with_tables}
use Rattle.rules.specs.declared.Board.{Board}
use Rattle.rules.specs.declared.Event.{Event}
use Rattle.rules.specs.declared.Event.TheVariants.{Begin, Cut, DataAck, End, Fence, LogAck, Read, Setup, Write}
use Rattle.rules.specs.declared.Shares.{Shares}
use Rattle.rules.specs.declared.Tables.{Tables}
use Rattle.undo.specs.Table.{keep}

-- ---- "After L, setup then carries eight bytes, the party (0 or 1) of each thread, and two bytes, the reserve of each party"

pub record SetupRead : Type 0 where
  -- 13 bytes of body, and no byte behind them is looked at
  pub whole : (n a b : ℕ) (bs more : List ℕ) → length bs ≡ 10
      → read_record (0 ∷ n ∷ a ∷ b ∷ bs ++ more) ≡ Ok (Setup n (num_of (a ∷ b ∷ [])) (shares_at bs))
  pub short : (body : List ℕ) → length body < 13 → read_record (0 ∷ body) ≡ Err 1
  -- in the order of the threads and of the parties
  pub parties : (bs : List ℕ) → all is_byte bs ≡ true → length bs ≡ 10 → (t : ℕ) → t < most_threads → party_of t (shares_at bs) ≡ get_or bs t 0
  pub reserves : (bs : List ℕ) → all is_byte bs ≡ true → length bs ≡ 10 → (p : ℕ) → p < 2 → reserve_of p (shares_at bs) ≡ get_or bs (8 + p) 0

-- ---- "24, a party above 1 or not 0 for a thread not below T, or reserves summing above 32, at setup after 6"; request 8: "24 tests 16"

-- what a setup of n threads may carry
pub record Fit (n : ℕ) (s : Shares) : Type 0 where
  pub low : (t : ℕ) → t < most_threads → party_of t s ≤ 1
  pub absent : (t : ℕ) → t < most_threads → n ≤ t → party_of t s ≡ 0
  pub room : reserve_of 0 s + reserve_of 1 s ≤ most_in_channel

-- document 01's refusal of a setup
abbrev pub setup_refusal : Tables → ℕ → ℕ → ℕ
setup_refusal ts n l = cond (in_range n l && (fits l ts.size && not (is_set_up ts))) 0 6

-- on any tables
pub record SharesTested : Type 0 where
  pub fit : (ts : Tables) (n l : ℕ) (s : Shares) → Fit n s → refusal ts (Setup n l s) ≡ setup_refusal ts n l
  pub unfit : (ts : Tables) (n l : ℕ) (s : Shares) → (Fit n s → ⊥) → refusal ts (Setup n l s) ≡ cond (eqb (setup_refusal ts n l) 0) 24 6
  -- zeros, as in document 01's cases, are never refused
  pub zeros : (n : ℕ) → Fit n no_shares

-- ---- reserves 0 are document 01's board, with its list in two channels

-- the tests of a begin, the last of them as document 01 has it: "16 dependence list full"; request 8: "Refusal 16 is now about that channel"
abbrev pub begin_tests : Tables → ℕ → List Test
begin_tests ts t =
    take 6 (tests_of ts (Begin t))
    ++ (refuse 16 (eqb (depth_of t ts) 0 && leb most_in_channel (count (in_channel (((thread_at t ts).last + 1) % 2)) ts.regions)) ∷ [])

-- the same tables with other parties and reserves
abbrev pub with_shares : Shares → Tables → Tables
with_shares s ts = with_size (with_numbers ts.size.threads ts.size.lines s ts.size) ts

abbrev pub is_begin : Event → Bool
is_begin (Setup n l s) = false
is_begin (Begin t) = true
is_begin (End t) = false
is_begin (Read t l w) = false
is_begin (Write t l w mask v) = false
is_begin (LogAck l) = false
is_begin (DataAck l) = false
is_begin (Fence t) = false
is_begin Cut = false

-- on any tables
pub record NoReserves : Type 0 where
  pub begins : (ts : Tables) (t : ℕ) → ts.size.shares.reserves ≡ 0 → tests_of ts (Begin t) ≡ begin_tests ts t
  -- no other event looks at the parties and reserves that stand
  pub others : (ts : Tables) (e : Event) (s : Shares) → is_begin e ≡ false → tests_of (with_shares s ts) e ≡ tests_of ts e
  -- and the image has nothing of them
  pub unsaved : (b : Board) (s : Shares) → image (with_tables (with_shares s b.tables) b) ≡ image b

-- ---- the promise, by the list of events alone

abbrev pub shares_by : Account → Shares → Shares
shares_by (Sets l s) z = s
shares_by (Opens t) z = z
shares_by (Closes t) z = z
shares_by (Uses t l) z = z
shares_by (Stores t l f) z = z
shares_by Cuts z = z
shares_by Nothing z = z

-- the parties and reserves of the accepted setup; none before it
unfoldable pub shares_in : List Account → Shares
shares_in [] = no_shares
shares_in (e ∷ es) = shares_by e (shares_in es)

abbrev pub party_in : ℕ → List Account → ℕ
party_in t es = party_of t (shares_in es)

abbrev pub reserve_in : ℕ → List Account → ℕ
reserve_in p es = reserve_of p (shares_in es)

-- request 8: "the channel given by the lowest bit of its number", of region k
abbrev pub lives : ℕ → ℕ → Bool
lives c k = eqb (number_of k % 2) c

-- and of the region that the thread's next begin at depth 0 opens
abbrev pub channel_in : ℕ → List Account → ℕ
channel_in t es = (opened_in t es + 1) % 2

-- how many regions of channel c are uncommitted: opened, and not committed
abbrev pub uncommitted_in : Memory → List (List ℕ) → ℕ → ℕ
uncommitted_in m rs c = count (λ k. not (committed m rs k)) (keep (lives c) (opens_in (accepted_in m rs)))

-- and of those that threads of party p opened
abbrev pub holds_in : Memory → List (List ℕ) → ℕ → ℕ → ℕ
holds_in m rs c p =
    count (λ k. not (committed m rs k)) (keep (λ k. lives c k && eqb (party_in (thread_of k) (accepted_in m rs)) p) (opens_in (accepted_in m rs)))

-- the entries that must be in its channel for a begin of thread t: those held, its own, and what the other party's reserve still lacks
abbrev pub wanted_in : Memory → List (List ℕ) → ℕ → ℕ
wanted_in m rs t =
    let c = channel_in t (accepted_in m rs) in
    let o = other_party (party_in t (accepted_in m rs)) in
    uncommitted_in m rs c + 1 + (reserve_in o (accepted_in m rs) - holds_in m rs c o)

-- of a begin of thread t, record r, after the records rs
pub record Begins (m : Memory) (rs : List (List ℕ)) (r : List ℕ) (t : ℕ) : Type 0 where
  -- "A begin is refused with 16 when the entry would leave fewer free entries than the other party's reserve still lacks", at depth 0, and only then
  pub full : (step (board_after m rs) r).answer.refusal ≡ 16 → most_in_channel < wanted_in m rs t
  pub outside : (step (board_after m rs) r).answer.refusal ≡ 16 → depth_in t (accepted_in m rs) ≡ 0
  pub room : (step (board_after m rs) r).answer.refusal ≡ 0 → depth_in t (accepted_in m rs) ≡ 0 → wanted_in m rs t ≤ most_in_channel
  -- "A party below its reserve never meets 16, however the other behaves"; request 8: "A party with fewer entries in a channel than its reserve never meets
  -- 16 at a begin whose number falls there"
  pub reserved : holds_in m rs (channel_in t (accepted_in m rs)) (party_in t (accepted_in m rs)) < reserve_in (party_in t (accepted_in m rs)) (accepted_in m rs)
      → (step (board_after m rs) r).answer.refusal ≢ 16

pub record Reserving (m : Memory) (rs : List (List ℕ)) : Type 0 where
  pub begins : (r : List ℕ) (t : ℕ) → read_record r ≡ Ok (Begin t) → Begins m rs r t
  -- each channel has room for what each party holds or may still claim there
  pub sum : (c : ℕ) → max (holds_in m rs c 0) (reserve_in 0 (accepted_in m rs)) + max (holds_in m rs c 1) (reserve_in 1 (accepted_in m rs)) ≤ most_in_channel

abbrev pub Reserved : Type 0
Reserved = Always Reserving
