-- "Refused because of the input" (6, 24, 3, 4, 5, 27) and "Refused because of the state" (11 to 22): for each event its tests, in the order of document 01.
-- Request 3: "Refusal 23 no longer occurs." Request 9: "27, mask 0, after 5." Request 1: "24 .. at setup after 6." Request 5: "25, after 17 and before 18."
use Rattle.std.specs.Prelude.{◌*◌, ◌+◌, ◌-◌, ℕ, Bool, ◌&&◌, ◌||◌, cond, not, List, [], ◌∷◌, eqb, leb, ltb}
use Rattle.rules.specs.Access.{dependence, has_read, is_had, is_of, needs_log, word_places}
use Rattle.rules.specs.Bytes.{byte_of}
use Rattle.rules.specs.Lists.{count}
use Rattle.rules.specs.Measures.{most_depth, most_in_channel, most_lines, most_modified, most_number, most_threads}
use Rattle.rules.specs.Slots.{carries, is_full, slot_for}
use Rattle.rules.specs.Tables.{channel_of, current, in_channel, is_held, locked, owner_of, region_at, thread_at, thread_of}
use Rattle.rules.specs.declared.Event.{Event}
use Rattle.rules.specs.declared.Event.TheVariants.{Begin, Cut, DataAck, End, Fence, LogAck, Read, Setup, Write}
use Rattle.rules.specs.declared.Region.{Region}
use Rattle.rules.specs.declared.Shares.{Shares}
use Rattle.rules.specs.declared.Size.{Size}
use Rattle.rules.specs.declared.Tables.{Tables}
use Rattle.undo.specs.Table.{any}

pub record Test : Type 0 where
  pub code : ℕ
  pub bad : Bool

-- the number of the first test that refuses; 0 if none does
abbrev pub first_bad : List Test → ℕ
first_bad [] = 0
first_bad (t ∷ ts) = cond t.bad t.code (first_bad ts)

abbrev pub refuse : ℕ → Bool → Test
refuse n b = record { code = n; bad = b }

-- ---- the conditions

-- "Threads T: 1 to 8. Lines L: 1 to 256."
abbrev pub in_range : ℕ → ℕ → Bool
in_range n l = (leb 1 n && leb n most_threads) && (leb 1 l && leb l most_lines)

abbrev pub is_set_up : Tables → Bool
is_set_up ts = in_range ts.size.threads ts.size.lines

-- "lent memory not 64 × L bytes"
abbrev pub fits : ℕ → Size → Bool
fits l z = z.zero || eqb z.lent (64 * l)

-- request 1: "eight bytes, the party (0 or 1) of each thread, and two bytes, the reserve of each party"
abbrev pub party_of : ℕ → Shares → ℕ
party_of t s = byte_of t s.parties

abbrev pub reserve_of : ℕ → Shares → ℕ
reserve_of p s = byte_of p s.reserves

-- thread t of n threads has a party that it cannot have
abbrev pub is_no_party : ℕ → Shares → ℕ → Bool
is_no_party n s t = ltb 1 (party_of t s) || (leb n t && not (eqb (party_of t s) 0))

-- "24, a party above 1 or not 0 for a thread not below T, or reserves summing above 32"
-- request 8: "the reserves hold in each channel with sums up to 16, so 24 tests 16"
abbrev pub is_unfit : ℕ → Shares → Bool
is_unfit n s = any (is_no_party n s) word_places || ltb most_in_channel (reserve_of 0 s + reserve_of 1 s)

abbrev pub depth_of : ℕ → Tables → ℕ
depth_of t ts = (thread_at t ts).depth

abbrev pub is_of_thread : ℕ → Region → Bool
is_of_thread t r = is_held r && eqb (thread_of r.key) t

-- a region of the thread that is in the modified list
abbrev pub is_modified : ℕ → Region → Bool
is_modified t r = is_of_thread t r && not r.done

abbrev pub other_party : ℕ → ℕ
other_party p = cond (eqb p 0) 1 0

-- a region of a thread of the party, with its entry in channel c
abbrev pub is_of_party : Shares → ℕ → ℕ → Region → Bool
is_of_party s c p r = in_channel c r && eqb (party_of (thread_of r.key) s) p

-- what the party's reserve still lacks in channel c: nothing, where the party holds that many entries or more there
abbrev pub lack : ℕ → ℕ → Tables → ℕ
lack c p ts = reserve_of p ts.size.shares - count (is_of_party ts.size.shares c p) ts.regions

-- a new entry in channel c for a thread of party p, with request 1: "A begin is refused with 16 when the entry would leave fewer free entries than the other
-- party's reserve still lacks"
abbrev pub no_room_in : ℕ → ℕ → Tables → Bool
no_room_in c p ts = ltb most_in_channel (count (in_channel c) ts.regions + 1 + lack c (other_party p) ts)

-- request 8: "Refusal 16 is now about that channel", that of the number which the begin would open
abbrev pub no_room_for : ℕ → Tables → Bool
no_room_for t ts = no_room_in (channel_of ((thread_at t ts).last + 1)) (party_of t ts.size.shares) ts

-- "17 owner is another thread's open region"
abbrev pub is_foreign_open : ℕ → ℕ → Tables → Bool
is_foreign_open t o ts = not (eqb o 0) && (not (eqb (thread_of o) t) && not (region_at o ts.regions).ended)

-- request 5: "A write to a line that another thread's open region has read is now refused"
abbrev pub is_read_elsewhere : ℕ → ℕ → Tables → Bool
is_read_elsewhere t l ts = any (λ u. not (eqb u t) && has_read l (thread_at u ts)) word_places

-- "19 new dependence and four held"
abbrev pub no_room_for_dep : ℕ → List ℕ → Bool
no_room_for_dep d ds = not (is_had d ds) && not (any (eqb 0) ds)

-- a slot of some region carries line l
abbrev pub in_flight : ℕ → Tables → Bool
in_flight l ts = any (λ r. any (carries l) r.slots) ts.regions

-- ---- the tests of each event

unfoldable pub tests_of : Tables → Event → List Test
tests_of ts (Setup n l s) =
    refuse 6 (not (in_range n l))
    ∷ refuse 6 (not (fits l ts.size))
    ∷ refuse 6 (is_set_up ts)
    ∷ refuse 24 (is_unfit n s)
    ∷ []
tests_of ts (Begin t) =
    refuse 6 (not (is_set_up ts))
    ∷ refuse 3 (leb ts.size.threads t)
    ∷ refuse 11 ts.cut
    ∷ refuse 13 (leb most_depth (depth_of t ts))
    ∷ refuse 14 (eqb (depth_of t ts) 0 && leb most_number (thread_at t ts).last)
    ∷ refuse 15 (eqb (depth_of t ts) 0 && leb most_modified (count (is_modified t) ts.regions))
    ∷ refuse 16 (eqb (depth_of t ts) 0 && no_room_for t ts)
    ∷ []
tests_of ts (End t) =
    refuse 6 (not (is_set_up ts))
    ∷ refuse 3 (leb ts.size.threads t)
    ∷ refuse 11 ts.cut
    ∷ refuse 12 (eqb (depth_of t ts) 0)
    ∷ []
tests_of ts (Read t l w) =
    refuse 6 (not (is_set_up ts))
    ∷ refuse 3 (leb ts.size.threads t)
    ∷ refuse 4 (leb ts.size.lines l)
    ∷ refuse 5 (ltb 7 w)
    ∷ refuse 11 ts.cut
    ∷ refuse 12 (eqb (depth_of t ts) 0)
    ∷ refuse 17 (is_foreign_open t (owner_of l ts) ts)
    ∷ refuse 19 (no_room_for_dep (dependence (current t ts) l ts) (region_at (current t ts) ts.regions).deps)
    ∷ []
tests_of ts (Write t l w mask v) =
    refuse 6 (not (is_set_up ts))
    ∷ refuse 3 (leb ts.size.threads t)
    ∷ refuse 4 (leb ts.size.lines l)
    ∷ refuse 5 (ltb 7 w)
    ∷ refuse 27 (eqb mask 0)
    ∷ refuse 11 ts.cut
    ∷ refuse 12 (eqb (depth_of t ts) 0)
    ∷ refuse 17 (is_foreign_open t (owner_of l ts) ts)
    ∷ refuse 25 (is_read_elsewhere t l ts)
    ∷ refuse 18 (needs_log (current t ts) l ts && locked l ts)
    ∷ refuse 19 (no_room_for_dep (dependence (current t ts) l ts) (region_at (current t ts) ts.regions).deps)
    ∷ refuse 20 (is_full (slot_for l (region_at (current t ts) ts.regions).slots))
    ∷ refuse 21 (needs_log (current t ts) l ts && not (any (is_of 0) (thread_at t ts).log))
    ∷ []
tests_of ts (LogAck l) =
    refuse 6 (not (is_set_up ts)) ∷ refuse 4 (leb ts.size.lines l) ∷ refuse 11 ts.cut ∷ refuse 22 (not (locked l ts)) ∷ []
tests_of ts (DataAck l) =
    refuse 6 (not (is_set_up ts)) ∷ refuse 4 (leb ts.size.lines l) ∷ refuse 11 ts.cut ∷ refuse 22 (not (in_flight l ts)) ∷ []
tests_of ts (Fence t) = refuse 6 (not (is_set_up ts)) ∷ refuse 3 (leb ts.size.threads t) ∷ refuse 11 ts.cut ∷ []
tests_of ts Cut = refuse 6 (not (is_set_up ts)) ∷ refuse 11 ts.cut ∷ []

unfoldable pub refusal : Tables → Event → ℕ
refusal ts e = first_bad (tests_of ts e)
