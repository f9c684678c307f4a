-- The count of every waiting slot, tied to the accepted writes of the list: a region keeps its last four different lines, and no event but a write of the region
-- changes them or a count.
use Prim.Native.Nat.{◌+◌, ◌<◌, ◌≤◌, suc, zero, ℕ}
use mathlib.Core.Path.{◌∙◌, ◌≡◌, ap, refl, subst, sym}
use mathlib.Core.Logic.{◌≢◌, ◌⊎◌, inl, inr, ⊎_elim}
use mathlib.Core.Bool.{Bool, ◌&&◌, ◌||◌, cond, false, false≢true, not, true, true≢false}
use mathlib.Core.List.{List, [], ◌∷◌, map}
use lib.Dec.{eqb}
use lib.ListN.{get_or, length, set}
use lib.Seq.{set_out}
use native.Mathlib.Nat.{le_trans}
use native.Mathlib.Omega.{arith}
use borrow.Author.Tests.{eq-eqb, eqb-false, eqb-true, leb-false, ne_eqb}
use Rattle.laws.proofs.Along.{along}
use Rattle.laws.proofs.Different.{count_is, length_padded, not_renewed, once, order, padded, renewed_padded}
use Rattle.laws.proofs.Opened.{begin_more}
use Rattle.laws.proofs.Rest.{slot_held, state_at}
use Rattle.laws.specs.Laws.{region_is, slot_is}
use Rattle.laws.specs.Neighbours.{Counting, FourNeighbours, count_of}
use Rattle.rules.proofs.Lists.{each_set, get_or_map, get_or_set, or_none, place_lt, place_none}
use Rattle.rules.proofs.Places.{get_or_same, key_at, place_listed}
use Rattle.rules.proofs.Sim.Access.{current_is, current_open}
use Rattle.rules.proofs.Sim.All.{every}
use Rattle.rules.proofs.Sim.Base.{key_number, key_thread}
use Rattle.rules.proofs.Sim.Parts.{open_listed}
use Rattle.rules.proofs.Sim.State.{Distinct, Kept, Simulated, by}
use Rattle.rules.proofs.Sim.Looks.{reach}
use Rattle.rules.proofs.SlotLaws.{counted_empty, landed_dropped, off_at, state_dropped, state_dropped_other, state_flown}
use Rattle.rules.proofs.SlotWrites.{state_written, state_written_other}
use Rattle.rules.proofs.Tests.{passed}
use Rattle.rules.proofs.Views.{state_of}
use Rattle.rules.specs.Access.{dependence, joined, logged, needs_log, note_read, read, stored, stored_in, write, wrote, wrote_line}
use Rattle.rules.specs.Acknowledge.{data_ack, dropped, dropped_slot, flight_place, landed, log_ack, unlocked}
use Rattle.rules.specs.Begin.{begin, begun, opened}
use Rattle.rules.specs.Claim.{board_after, is_byte_memory}
use Rattle.rules.specs.Commit.{Settled, after_commit, before, commit, commits, done_region, earliest, settle, settled, without_dep}
use Rattle.rules.specs.End.{closed, end_region, outside}
use Rattle.rules.specs.Flight.{flown}
use Rattle.rules.specs.History.{Account, Change, Closes, Cuts, Nothing, Opens, Sets, Stores, Uses, accepted_in, account_of, lines_written, opened_in, region_in, writes_in}
use Rattle.rules.specs.Lists.{different, place}
use Rattle.rules.specs.Refusal.{depth_of, refusal, tests_of}
use Rattle.rules.specs.Slots.{carries, counted, flown_slots, is_empty, is_flight, is_full, renewed, slot_for}
use Rattle.rules.specs.Step.{apply, settled_board, setup}
use Rattle.rules.specs.Tables.{Memory, current, free_place, fresh, is_key, key_of, listed, no_region, no_slot, number_of, place_of, region_at, thread_at, thread_of, with_deps, with_done, with_end, with_regions, with_slots}
use Rattle.rules.specs.declared.Board.{Board}
use Rattle.rules.specs.declared.Event.{Event}
use Rattle.rules.specs.declared.Event.TheVariants.{Begin, Cut, DataAck, End, Fence, LogAck, Read, Setup, Write}
use Rattle.rules.specs.declared.Region.{Region}
use Rattle.rules.specs.declared.Slot.{Slot}
use Rattle.rules.specs.declared.SlotState.{SlotState}
use Rattle.rules.specs.declared.SlotState.TheVariants.{Empty, InFlight, Waiting}
use Rattle.rules.specs.declared.Tables.{Tables}
use Rattle.undo.proofs.Laws.{and_true, or_right, test}
use Rattle.undo.specs.Table.{any, is_in}

-- ---- one region, whose writes were of the lines ls

record Counted (ls : List ℕ) (r : Region) : Type 0 where
  pub recent : r.recent ≡ padded 4 (different ls)
  pub waits : (x c : ℕ) → state_of x r.slots ≡ Waiting c → c ≡ place (eqb x) r.recent
  pub flew : r.ended ≡ false → (x : ℕ) → state_of x r.slots ≡ InFlight → is_in x r.recent ≡ false
  pub wrote : (x : ℕ) → is_empty (state_of x r.slots) ≡ false → is_in x ls ≡ true

-- what becomes of a slot, where its line is not written: it stays, it is emptied, or it flies
data Moves (ended : Bool) : SlotState → SlotState → Type 0 where
  stays : {st : SlotState} → Moves ended st st
  empties : {st : SlotState} → Moves ended st Empty
  takes_off : {c : ℕ} → (ended ≡ false → c ≡ 4) → Moves ended (Waiting c) InFlight

waited : {e : Bool} {a b : SlotState} (c : ℕ) → Moves e a b → b ≡ Waiting c → a ≡ Waiting c
waited c stays q = q
waited c empties q = absurd (true≢false (ap is_empty q))
waited c (takes_off f) q = absurd (true≢false (ap is_flight q))

flew_off : {e : Bool} {a b : SlotState} → e ≡ false → Moves e a b → b ≡ InFlight → (a ≡ InFlight) ⊎ (a ≡ Waiting 4)
flew_off n stays q = inl q
flew_off n empties q = absurd (false≢true (ap is_flight q))
flew_off n (takes_off f) q = inr (ap Waiting (f n))

was_full : {e : Bool} {a b : SlotState} → Moves e a b → is_empty b ≡ false → is_empty a ≡ false
was_full stays q = q
was_full empties q = absurd (true≢false q)
was_full (takes_off f) q = refl

-- region r' is region r after an event that is no write of it
record Later (r r' : Region) : Type 0 where
  pub key : r'.key ≡ r.key
  pub recent : r'.recent ≡ r.recent
  pub ended : r'.ended ≡ false → r.ended ≡ false
  pub slot : (x : ℕ) → Moves r'.ended (state_of x r.slots) (state_of x r'.slots)

-- a count of 4 is that of a line that is not among the last four
not_among : {ls : List ℕ} {r : Region} (x : ℕ) → Counted ls r → state_of x r.slots ≡ Waiting 4 → is_in x r.recent ≡ false
not_among {ls} {r} x k q =
    test (is_in x r.recent)
    (λ e. let n : length r.recent ≡ 4 = ap length k.recent ∙ length_padded 4 (different ls) in
    absurd (omega (arith, place_lt (eqb x) r.recent e, k.waits x 4 q)))
    (λ e. e)

later_counted : (ls : List ℕ) {r r' : Region} → Later r r' → Counted ls r → Counted ls r'
later_counted ls {r} {r'} la k =
    record {
      recent = la.recent ∙ k.recent;
      waits = λ x c e. k.waits x c (waited c (la.slot x) e) ∙ ap (place (eqb x)) (sym la.recent);
      flew = λ n x e. ap (is_in x) la.recent
          ∙ ⊎_elim (λ q. k.flew (la.ended n) x q) (λ q. not_among x k q) (flew_off n (la.slot x) e);
      wrote = λ x e. k.wrote x (was_full (la.slot x) e);
    }

-- ---- the rules, on one region

off : (lock : List Bool) (ended : Bool) (x : ℕ) (st : SlotState) → Moves ended st (off_at lock ended x st)
off lock ended x Empty = stays
off lock ended x InFlight = stays
off lock ended x (Waiting c) =
    test ((eqb c 4 || ended) && not (get_or lock x false))
    (λ d. rw d (takes_off (λ n. eqb-true c 4 (sym (or_none (eqb c 4)) ∙ (rw n at (and_true (eqb c 4 || ended) (not (get_or lock x false)) d).0)))))
    (λ d. rw d stays)

later_flown : (lock : List Bool) (r : Region) → Later r (with_slots (flown_slots lock r.ended r.slots) r)
later_flown lock r =
    record {
      key = refl;
      recent = refl;
      ended = λ e. e;
      slot = λ x. rw (state_flown lock r.ended x r.slots) (off lock r.ended x (state_of x r.slots));
    }

drops : (ended : Bool) (l x : ℕ) {ss : List Slot} → Distinct ss → Moves ended (state_of x ss) (state_of x (map (dropped_slot l) ss))
drops ended l x {ss} ds =
    test (eqb x l)
    (λ d. rw (eqb-true x l d, state_dropped l ds) (test (is_flight (state_of l ss)) (λ f. rw f empties) (λ f. rw f stays)))
    (λ d. rw (state_dropped_other l x ss d) stays)

later_slots : (r : Region) (l : ℕ) → Distinct r.slots → Later r (with_slots (map (dropped_slot l) r.slots) r)
later_slots r l ds = record { key = refl; recent = refl; ended = λ e. e; slot = λ x. drops r.ended l x ds }

later_same : (r : Region) → Later r r
later_same r = record { key = refl; recent = refl; ended = λ e. e; slot = λ x. stays }

later_deps : (ds : List ℕ) (r : Region) → Later r (with_deps ds r)
later_deps ds r = record { key = refl; recent = refl; ended = λ e. e; slot = λ x. stays }

later_done : (d : Bool) (r : Region) → Later r (with_done d r)
later_done d r = record { key = refl; recent = refl; ended = λ e. e; slot = λ x. stays }

later_ended : (n : ℕ) (r : Region) → Later r (with_end n r)
later_ended n r = record { key = refl; recent = refl; ended = λ e. absurd (true≢false e); slot = λ x. stays }

later_dropped : (k l : ℕ) (r : Region) → Distinct r.slots → Later r (dropped k l r)
unfolding dropped
later_dropped k l r ds = test (is_key k r) (λ d. rw d (later_same r)) (λ d. rw d (later_slots r l ds))

later_landed : (l : ℕ) (r : Region) → Distinct r.slots → Later r (landed l r)
unfolding landed
later_landed l r ds =
    test (any (carries l) r.slots)
    (λ d. rw (landed_dropped l ds d) (later_slots r l ds))
    (λ d. rw (set_out r.slots (place (carries l) r.slots) no_slot (omega (arith, place_none (carries l) r.slots d))) (later_same r))

-- a write of line l by the region
module _ (l : ℕ) (ls : List ℕ) (r : Region) (room : is_full (slot_for l r.slots) ≡ false) (k : Counted ls r) where
  abbrev last : List ℕ
  last = renewed l r.recent

  counts_told : (x c : ℕ) (st : SlotState) → counted last x st ≡ Waiting c → c ≡ place (eqb x) last
  counts_told x c Empty e = absurd (true≢false (ap is_empty e))
  counts_told x c (Waiting n) e = let z : place (eqb x) last ≡ c = cc in sym z
  counts_told x c InFlight e = absurd (true≢false (ap is_flight e))

  flies_told : (x : ℕ) (st : SlotState) → counted last x st ≡ InFlight → st ≡ InFlight
  flies_told x Empty e = absurd (false≢true (ap is_flight e))
  flies_told x (Waiting n) e = absurd (false≢true (ap is_flight e))
  flies_told x InFlight e = refl

  -- the written line
  own : (x : ℕ) → eqb x l ≡ true → state_of x (wrote_line l r).slots ≡ Waiting 0
  own x d = rw (eqb-true x l d) (state_written last r.slots l room)

  other : (x : ℕ) → eqb x l ≡ false → state_of x (wrote_line l r).slots ≡ counted last x (state_of x r.slots)
  other x d = state_written_other last r.slots l room x d

  counted_wrote : Counted (l ∷ ls) (wrote_line l r)
  unfolding renewed place
  counted_wrote =
      record {
        recent = ap (renewed l) k.recent ∙ renewed_padded l ls;
        waits = λ x c e. test (eqb x l)
            (λ d. let z : Waiting 0 ≡ Waiting c = sym (own x d) ∙ e in let y : 0 ≡ c = cc in rw d (sym y))
            (λ d. counts_told x c (state_of x r.slots) (sym (other x d) ∙ e));
        flew = λ n x e. test (eqb x l)
            (λ d. absurd (false≢true (ap is_flight (sym (own x d) ∙ e))))
            (λ d. not_renewed x l r.recent d (k.flew n x (flies_told x (state_of x r.slots) (sym (other x d) ∙ e))));
        wrote = λ x e. test (eqb x l)
            (λ d. rw d)
            (λ d. or_right (eqb x l) (k.wrote x (sym (counted_empty last x (state_of x r.slots)) ∙ (rw (other x d) at e))));
      }

-- ---- the list of regions, by the writes of the list of events

abbrev Fits : List Change → Region → Type 0
Fits ws r = r.key ≢ 0 → Counted (lines_written r.key ws) r

abbrev Counts : List Change → List Region → Type 0
Counts ws rs = (i : ℕ) → Fits ws (get_or rs i no_region)

fits_later : (ws : List Change) {r r' : Region} → Later r r' → Fits ws r → Fits ws r'
fits_later ws {r} {r'} la f n =
    subst (λ k. Counted (lines_written k ws) r') (sym la.key) (later_counted (lines_written r.key ws) la (f (λ z. n (la.key ∙ z))))

counts_later : (ws : List Change) (rs : List Region) (p : ℕ) (r' : Region) → Later (get_or rs p no_region) r' → Counts ws rs → Counts ws (set rs p r')
counts_later ws rs p r' la c = each_set (Fits ws) rs p r' no_region (fits_later ws la (c p)) c

counts_map : (ws : List Change) (f : Region → Region) (rs : List Region) → f no_region ≡ no_region
    → ((i : ℕ) → Fits ws (get_or rs i no_region) → Fits ws (f (get_or rs i no_region))) → Counts ws rs → Counts ws (map f rs)
counts_map ws f rs e h c i = subst (Fits ws) (sym (get_or_map f rs i no_region no_region e)) (h i (c i))

counts_flown : (ws : List Change) (k : ℕ) (b : Board) → Counts ws b.tables.regions → Counts ws (flown k b).tables.regions
unfolding flown
counts_flown ws k b c =
    counts_later ws b.tables.regions (place_of k b.tables.regions) _ (later_flown b.tables.lock (region_at k b.tables.regions)) c

-- ---- what is done, and what commits

fits_commit : (ws : List Change) (k : ℕ) (r : Region) → Fits ws r → Fits ws (after_commit k r)
unfolding after_commit
fits_commit ws k r f =
    test (is_key k r)
    (λ d. rw d (λ n. absurd (n refl)))
    (λ d. rw d (fits_later ws (later_deps (map (without_dep k) r.deps) r) f))

none_commits : (k : ℕ) → after_commit k no_region ≡ no_region
unfolding after_commit
none_commits k = test (eqb 0 k) (λ d. rw d) (λ d. rw d)

counts_settle : (ws : List Change) (n : ℕ) (ts : Tables) → Counts ws ts.regions → Counts ws (settle n ts).tables.regions
unfolding settle commit
counts_settle ws zero ts c = c
counts_settle ws (suc n) ts c =
    go (commits (earliest ts.regions))
    (counts_settle ws n (commit (earliest ts.regions).key ts)
    (counts_map ws (after_commit (earliest ts.regions).key) ts.regions (none_commits (earliest ts.regions).key)
    (λ i f. fits_commit ws (earliest ts.regions).key (get_or ts.regions i no_region) f) c))
  where
    go : (x : Bool) → Counts ws (settle n (commit (earliest ts.regions).key ts)).tables.regions
        → Counts ws (elim x as (λ y. Settled) [
          | false ↦ record { tables = ts; keys = [] }
          | true ↦ before (earliest ts.regions).key (settle n (commit (earliest ts.regions).key ts))
        ]).tables.regions
    go false d = c
    go true d = d

counts_settled : (ws : List Change) (b : Board) → Counts ws b.tables.regions → Counts ws (settled_board b).board.tables.regions
unfolding settled_board settled done_region
counts_settled ws b c =
    counts_settle ws (length b.tables.regions) (with_regions (map done_region b.tables.regions) b.tables)
    (counts_map ws done_region b.tables.regions refl
    (λ i f. fits_later ws (later_done _ (get_or b.tables.regions i no_region)) f) c)

-- ---- a begin: a region that was not opened has written nothing

unwritten : (es : List Account) → ((t : ℕ) → opened_in t es ≤ 65535) → (k : ℕ) → opened_in (thread_of k) es < number_of k → lines_written k (writes_in es) ≡ []
unfolding opened_in writes_in lines_written
unwritten [] h k l = refl
unwritten (Sets n s ∷ es) h k l = unwritten es h k l
unwritten (Opens t ∷ es) h k l =
    unwritten es (λ j. le_trans (begin_more t j es) (h j)) k (omega (arith, l, begin_more t (thread_of k) es))
unwritten (Closes t ∷ es) h k l = unwritten es h k l
unwritten (Uses t x ∷ es) h k l = unwritten es h k l
unwritten (Stores t x f ∷ es) h k l =
    rw (ne_eqb (region_in t es) k (λ q.
    let a : thread_of k ≡ t = ap thread_of (sym q) ∙ key_thread t (opened_in t es) (omega (arith, h t)) in
    let d : number_of k ≡ opened_in t es = ap number_of (sym q) ∙ key_number t (opened_in t es) (omega (arith, h t)) in
    let l' : opened_in t es < number_of k = subst (λ y. opened_in y es < number_of k) a l in
    omega (arith, l', d)))
    (unwritten es h k l)
unwritten (Cuts ∷ es) h k l = unwritten es h k l
unwritten (Nothing ∷ es) h k l = unwritten es h k l

fits_begun : (ws : List Change) (k p : ℕ) (rs : List Region) → lines_written k ws ≡ [] → Fits ws (begun k p rs)
unfolding state_of padded different
fits_begun ws k p rs e n =
    subst (λ ls. Counted ls (begun k p rs)) (sym e)
    (record {
      recent = refl;
      waits = λ x c q. absurd (true≢false (ap is_empty q));
      flew = λ o x q. absurd (false≢true (ap is_flight q));
      wrote = λ x q. absurd (true≢false q);
    })

-- ---- each accepted event

module _ (m : Memory) (b : Board) (es : List Account) (kept : Kept m b es) (c : Counts (writes_in es) b.tables.regions) where
  abbrev ts : Tables
  ts = b.tables

  abbrev rs : List Region
  rs = ts.regions

  distinct : (i : ℕ) → Distinct (get_or rs i no_region).slots
  distinct i = go kept.simulated
    where
      go : Simulated m b es → Distinct (get_or rs i no_region).slots
      go (by s h x sim) = (sim.shape.regions.good i).distinct

  after_begin : (t : ℕ) → refusal ts (Begin t) ≡ 0 → Counts (writes_in es) (begin t ts).regions
  unfolding begin opened tests_of
  after_begin t r =
      test (eqb (depth_of t ts) 0)
      (λ d. rw d (each_set (Fits (writes_in es)) rs (free_place rs) (begun (key_of t ((thread_at t ts).last + 1)) (current t ts) rs) no_region
      (fits_begun (writes_in es) (key_of t ((thread_at t ts).last + 1)) (current t ts) rs (go d kept.simulated)) c))
      (λ d. rw d c)
    where
      go : eqb (depth_of t ts) 0 ≡ true → Simulated m b es → lines_written (key_of t ((thread_at t ts).last + 1)) (writes_in es) ≡ []
      go d (by s h x sim) =
          let few : (thread_at t ts).last < 65535 = leb-false 65535 (thread_at t ts).last (rw d at (passed ts (Begin t) r 14)) in
          let a : thread_of (key_of t ((thread_at t ts).last + 1)) ≡ t = key_thread t ((thread_at t ts).last + 1) (omega (arith, few)) in
          unwritten es sim.told.numbers (key_of t ((thread_at t ts).last + 1))
          (subst (λ x. opened_in x es < number_of (key_of t ((thread_at t ts).last + 1))) (sym a)
          (omega (arith, key_number t ((thread_at t ts).last + 1) (omega (arith, few)), sim.told.last t)))

  after_read : (k l : ℕ) → Counts (writes_in es) (read k l ts).regions
  unfolding read
  after_read k l =
      counts_later (writes_in es) rs (place_of k rs) _ (later_deps (joined (dependence k l ts) (region_at k rs).deps) (region_at k rs)) c

  after_end : (t : ℕ) → Counts (writes_in es) (end_region t b).tables.regions
  unfolding end_region closed outside
  after_end t =
      counts_flown (writes_in es) (current t ts) _
      (counts_later (writes_in es) rs (place_of (current t ts) rs) _ (later_ended _ (region_at (current t ts) rs)) c)

  after_log : (l : ℕ) → Counts (writes_in es) (log_ack l b).tables.regions
  unfolding log_ack unlocked dropped
  after_log l =
      let k : ℕ = get_or ts.owner l 0 in
      counts_flown (writes_in es) k _
      (counts_map (writes_in es) (dropped k l) rs (test (eqb 0 k) (λ d. rw d) (λ d. rw d))
      (λ i f. fits_later (writes_in es) (later_dropped k l (get_or rs i no_region) (distinct i)) f) c)

  after_data : (l : ℕ) → Counts (writes_in es) (data_ack l b).tables.regions
  unfolding data_ack
  after_data l =
      counts_later (writes_in es) rs (flight_place l rs) _ (later_landed l (get_or rs (flight_place l rs) no_region) (distinct (flight_place l rs))) c

  module _ (t l : ℕ) (f : List ℕ → List ℕ) (own : current t ts ≡ region_in t es) (in' : listed (current t ts) rs ≡ true)
      (room : is_full (slot_for l (region_at (current t ts) rs).slots) ≡ false) (un : (i : ℕ) → (get_or rs i no_region).key ≢ 0 → place_of (get_or rs i no_region).key rs ≡ i) where
    abbrev k : ℕ
    k = current t ts

    abbrev ws : List Change
    ws = record { region = region_in t es; line = l; change = f } ∷ writes_in es

    -- the region that wrote
    wrote_fits : Fits ws (wrote k l ts (region_at k rs))
    unfolding wrote lines_written
    wrote_fits n =
        let q : (region_at k rs).key ≡ k = key_at k rs in' in
        let r : Region = with_deps (joined (dependence k l ts) (region_at k rs).deps) (region_at k rs) in
        let z : Counted (lines_written (region_at k rs).key (writes_in es)) r
        = later_counted (lines_written (region_at k rs).key (writes_in es)) (later_deps _ (region_at k rs)) (c (place_of k rs) n) in
        let y : lines_written (region_at k rs).key ws ≡ l ∷ lines_written (region_at k rs).key (writes_in es)
        = rw (eq-eqb (region_in t es) (region_at k rs).key (sym own ∙ sym q)) in
        subst (λ xs. Counted xs (wrote_line l r)) (sym y) (counted_wrote l (lines_written (region_at k rs).key (writes_in es)) r room z)

    -- another one
    other_fits : (i : ℕ) → eqb i (place_of k rs) ≡ false → Fits ws (get_or rs i no_region)
    unfolding lines_written
    other_fits i d n =
        let y : lines_written (get_or rs i no_region).key ws ≡ lines_written (get_or rs i no_region).key (writes_in es)
        = rw (ne_eqb (region_in t es) (get_or rs i no_region).key (λ q. eqb-false i (place_of k rs) d (sym (un i n) ∙ ap (λ x. place_of x rs) (sym q ∙ sym own)))) in
        subst (λ xs. Counted xs (get_or rs i no_region)) (sym y) (c i n)

    stored_counts : Counts ws (set rs (place_of k rs) (wrote k l ts (region_at k rs)))
    stored_counts i =
        subst (Fits ws) (sym (get_or_set rs (place_of k rs) i (wrote k l ts (region_at k rs)) no_region (place_listed k rs in')))
        (go (eqb i (place_of k rs)) refl)
      where
        go : (x : Bool) → eqb i (place_of k rs) ≡ x → Fits ws (cond x (wrote k l ts (region_at k rs)) (get_or rs i no_region))
        go true d = wrote_fits
        go false d = other_fits i d

    written_counts : Counts ws (write t l f b).tables.regions
    unfolding write stored logged
    written_counts =
        test (needs_log k l ts)
        (λ d. rw d (counts_flown ws k _ stored_counts))
        (λ d. rw d (counts_flown ws k _ stored_counts))

  after_write : (t l w mask v : ℕ) → refusal ts (Write t l w mask v) ≡ 0
      → Counts (record { region = region_in t es; line = l; change = stored_in w mask v } ∷ writes_in es) (write t l (stored_in w mask v) b).tables.regions
  unfolding tests_of
  after_write t l w mask v r = go kept.simulated
    where
      deep : depth_of t ts ≢ 0
      deep = eqb-false (depth_of t ts) 0 (passed ts (Write t l w mask v) r 12)

      go : Simulated m b es → Counts (record { region = region_in t es; line = l; change = stored_in w mask v } ∷ writes_in es) (write t l (stored_in w mask v) b).tables.regions
      go (by s h x sim) =
          written_counts t l (stored_in w mask v) (current_is t l (reach x) sim deep) (open_listed (reach x) sim (current t ts) (current_open t l (reach x) sim deep))
          (passed ts (Write t l w mask v) r 20) sim.shape.regions.unique

after : (m : Memory) (b : Board) (es : List Account) (e : Event) → refusal b.tables e ≡ 0 → Kept m b es → Counts (writes_in es) b.tables.regions
    → Counts (writes_in (account_of e ∷ es)) (apply b e).board.tables.regions
unfolding apply writes_in setup note_read
after m b es (Setup n l s) r kept c = c
after m b es (Begin t) r kept c = after_begin m b es kept c t r
after m b es (End t) r kept c =
    test (eqb (depth_of t b.tables) 1)
    (λ d. rw d (counts_settled (writes_in es) (end_region t b) (after_end m b es kept c t)))
    (λ d. rw d c)
after m b es (Read t l w) r kept c = after_read m b es kept c (current t b.tables) l
after m b es (Write t l w mask v) r kept c = after_write m b es kept c t l w mask v r
after m b es (LogAck l) r kept c = counts_settled (writes_in es) (log_ack l b) (after_log m b es kept c l)
after m b es (DataAck l) r kept c = counts_settled (writes_in es) (data_ack l b) (after_data m b es kept c l)
after m b es (Fence t) r kept c = c
after m b es Cut r kept c = c

at_start : (m : Memory) → Counts [] (fresh m).tables.regions
unfolding fresh
at_start m i n = absurd (n (ap (λ (r : Region). r.key) (get_or_same 32 i no_region)))

all_counted : (m : Memory) (rs : List (List ℕ)) → is_byte_memory m ≡ true → Counts (writes_in (accepted_in m rs)) (board_after m rs).tables.regions
unfolding writes_in
all_counted m rs bm = along m (λ b es n. Counts (writes_in es) b.tables.regions) (λ b es n e r kept c. after m b es e r kept c) (at_start m) rs bm

-- ---- the law

counting : (m : Memory) (rs : List (List ℕ)) → Simulated m (board_after m rs) (accepted_in m rs) → Counts (writes_in (accepted_in m rs)) (board_after m rs).tables.regions
    → Counting m rs
counting m rs (by s h x sim) c =
    record {
      waits = λ i j n w. let full : is_empty (slot_is i j b).state ≡ false = rw w in
          let k = kept i j full in
          k.waits (slot_is i j b).line n (state i j full ∙ w) ∙ told i j full;
      flew = λ i j n w. let full : is_empty (slot_is i j b).state ≡ false = rw w in
          let k = kept i j full in
          let z = place_none (eqb (slot_is i j b).line) (region_is i b).recent (k.flew n (slot_is i j b).line (state i j full ∙ w)) in
          sym (told i j full) ∙ z ∙ ap length k.recent ∙ length_padded 4 (different (lines i));
      wrote = λ i j full. (kept i j full).wrote (slot_is i j b).line (ap is_empty (state i j full) ∙ full);
    }
  where
    b : Board
    b = board_after m rs

    lines : ℕ → List ℕ
    lines i = lines_written (region_is i (board_after m rs)).key (writes_in (accepted_in m rs))

    kept : (i j : ℕ) → is_empty (slot_is i j b).state ≡ false → Counted (lines i) (region_is i b)
    kept i j full = c i (slot_held b sim.shape i j full)

    state : (i j : ℕ) → is_empty (slot_is i j b).state ≡ false → state_of (slot_is i j b).line (region_is i b).slots ≡ (slot_is i j b).state
    state i j full = state_at (sim.shape.regions.good i).distinct j full

    told : (i j : ℕ) → is_empty (slot_is i j b).state ≡ false → place (eqb (slot_is i j b).line) (region_is i b).recent ≡ count_of i j m rs
    told i j full =
        ap (place (eqb (slot_is i j b).line)) (kept i j full).recent
        ∙ count_is (slot_is i j b).line (lines i) ((kept i j full).wrote (slot_is i j b).line (ap is_empty (state i j full) ∙ full))

pub four_neighbours : FourNeighbours
four_neighbours =
    record {
      always = λ m rs bm br. counting m rs (every m rs bm).simulated (all_counted m rs bm);
      once = λ k l ws. once l (lines_written k ws);
      order = λ k l ws. order l (lines_written k ws);
    }
