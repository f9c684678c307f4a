-- A write keeps the relation.
use Rattle.undo.specs.Machine as u
use Rattle.undo.specs.History as v
use Rattle.undo.specs.Claim as c
use Rattle.undo.specs.Machine.{act, follows}
use Rattle.undo.specs.History.{note}
use Prim.Native.Nat.{◌<◌, ◌≤◌, suc, ℕ}
use mathlib.Core.Path.{◌∙◌, ◌≡◌, ap, refl, sym}
use mathlib.Core.Logic.{◌≢◌}
use mathlib.Core.Bool.{Bool, ◌&&◌, ◌||◌, cond, false, false≢true, not, true}
use mathlib.Core.List.{List, [], ◌∷◌}
use lib.Dec.{eqb}
use lib.ListN.{get_or, length, set}
use native.Mathlib.Omega.{arith}
use borrow.Author.Tests.{eq-eqb, eqb-false, eqb-true, leb-false, not-false}
use lib.Seq.{set-set}
use Rattle.rules.proofs.Recover.Live.{live_listed}
use Rattle.rules.proofs.Lists.{each_set, get_or_set}
use Rattle.rules.proofs.Places.{entry_at, listed_key, listed_stored, place_stored, region_stored}
use Rattle.rules.proofs.Sim.State.{Finished, Keeps, Kept, Rest, Sim, Simulated, Watched, by}
use Rattle.rules.proofs.Sim.Access.{Joined, current_is, current_open, join, joins, open_undone, owner_ended, rest_read, undone_stays}
use Rattle.rules.proofs.Sim.Base.{lines_256}
use Rattle.rules.proofs.Sim.Flight.{flights, flown_rest}
use Rattle.rules.proofs.Sim.Looks.{reach, watched_write}
use Rattle.rules.proofs.Sim.Parts.{Owner, logged_live, open_listed, owned, owner_is, part_stored, rebuilt, unowned}
use Rattle.rules.proofs.Views.{carry_of, newest, state_of}
use Rattle.rules.specs.Access.{change_line, dependence, is_of, joined, logged, logged_once, needs_log, read, stored, stored_in, write, wrote, wrote_line}
use Rattle.rules.specs.Acknowledge.{kept}
use Rattle.rules.specs.Commit.{commits}
use Rattle.rules.specs.Flight.{flown}
use Rattle.rules.specs.History.{Account, Stores, region_in}
use Rattle.rules.specs.Refusal.{depth_of, is_foreign_open, is_read_elsewhere, is_set_up, tests_of}
use Rattle.rules.specs.Slots.{flown_slots, is_full, slot_for}
use Rattle.rules.specs.Step.{apply}
use Rattle.rules.specs.Tables.{Memory, current, is_placed, line_of, listed, locked, no_region, owner_of, place_of, region_at, start_lines, thread_at, with_deps, with_slots, with_tables}
use Rattle.rules.specs.declared.Board.{Board}
use Rattle.rules.specs.declared.Event.TheVariants.{Write}
use Rattle.rules.specs.declared.Region.{Region}
use Rattle.rules.specs.declared.SlotState.{SlotState}
use Rattle.rules.specs.declared.SlotState.TheVariants.{Empty, InFlight, Waiting}
use Rattle.rules.specs.declared.Tables.{Tables}
use Rattle.rules.specs.declared.Thread.{Thread}
use Rattle.undo.proofs.Laws.{is_same, never, or_right, test}
use Rattle.undo.proofs.Main.{structured}
use Rattle.undo.specs.Claim.{Reach, then}
use Rattle.undo.specs.Recovery.{olds}
use Rattle.undo.specs.Table.{any}
use Rattle.rules.proofs.Tests.{bad_at, passed}
use Rattle.rules.proofs.Sim.Store.{KeepsLine, Ready, ready_again, relogged, slotted, store_sim, word_keeps}
use Rattle.rules.proofs.Sim.Logged.{chain_of, lock_of, logged_old, logged_threads, no_length, ready_first}
use Rattle.rules.specs.Measures.{ripe_count}

-- ---- the write, after the owner has joined the dependences

-- a state of the undo log in which region k goes on
data Going (m : ℕ → List ℕ) (b : Board) (es : List Account) (k : ℕ) : Type 0 where
  going : (s : u.State (List ℕ)) (h : v.History (List ℕ)) → Watched m b es s h → Sim b es s h → u.Open s k → Going m b es k

-- the owner of a line is the region of its newest entry
owner_top : {b : Board} {es : List Account} {s : u.State (List ℕ)} {h : v.History (List ℕ)} (k l : ℕ) → Sim b es s h → listed k b.tables.regions ≡ true
    → get_or b.tables.owner l 0 ≡ k → newest (s.chain l) ≡ k
unfolding owner_of
owner_top k l i in' e = i.top l ∙ rw (e, in')

pub top_owner : {b : Board} {es : List Account} {s : u.State (List ℕ)} {h : v.History (List ℕ)} (k l : ℕ) → Sim b es s h → eqb k 0 ≡ false → newest (s.chain l) ≡ k
    → get_or b.tables.owner l 0 ≡ k
unfolding owner_of
top_owner {b} k l i nz e =
    test (listed (get_or b.tables.owner l 0) b.tables.regions)
    (λ d. rw d at (sym (i.top l) ∙ e))
    (λ d. absurd (eqb-false k 0 nz (sym (rw d at (sym (i.top l) ∙ e)))))

owns_newest : (k : ℕ) (c : List (u.Entry (List ℕ))) → u.owns k c ≡ true → newest c ≡ k
owns_newest k [] e = absurd (false≢true e)
owns_newest k (x ∷ c) e = sym (eqb-true k x.rid e)

newest_owns : (k : ℕ) (c : List (u.Entry (List ℕ))) → eqb k 0 ≡ false → newest c ≡ k → u.owns k c ≡ true
newest_owns k [] nz e = absurd (eqb-false k 0 nz (sym e))
newest_owns k (x ∷ c) nz e = eq-eqb k x.rid (sym e)

module _ {m : ℕ → List ℕ} {b : Board} {es : List Account} {s : u.State (List ℕ)} {h : v.History (List ℕ)} (t l : ℕ) (change : List ℕ → List ℕ) (w : Watched m b es s h) (i : Sim b es s h)
    (unread : is_read_elsewhere t l b.tables ≡ false) (op : u.Open s (region_in t es)) (joined : (u.owns (region_in t es) (s.chain l) || u.follows s.dep (region_in t es) (s.chain l)) ≡ true)
    (setup : is_set_up b.tables ≡ true) (in_t : t < b.tables.size.threads) (in_l : l < b.tables.size.lines) (kl : KeepsLine change)
    (room : is_full (slot_for l (region_at (region_in t es) b.tables.regions).slots) ≡ false) where
  going_in : listed (region_in t es) b.tables.regions ≡ true
  going_in = open_listed (reach w) i (region_in t es) op

  inside : l < 256
  inside = omega (arith, lines_256 b.tables setup)

  still : (a : u.Action (List ℕ)) → (act s a).born ≡ s.born → (act s a).over ≡ s.over → u.Open (act s a) (region_in t es)
  still a p q = record { began = rw p op.began; goes_on = rw q op.goes_on }

  go_again : eqb (get_or b.tables.owner l 0) (region_in t es) ≡ true → Going m (stored (region_in t es) (slotted (region_in t es) l b) l change b) (Stores t l change ∷ es) (region_in t es)
  unfolding act note stored
  go_again own =
      let top : newest (s.chain l) ≡ region_in t es = owner_top (region_in t es) l i going_in (eqb-true (get_or b.tables.owner l 0) (region_in t es) own) in
      going (act s (u.Again (region_in t es) l change)) (note h (u.Again (region_in t es) l change))
      (watched_write w i t l inside unread change (λ x. refl) (u.Again (region_in t es) l change)
      (u.again op (newest_owns (region_in t es) (s.chain l) (listed_key (region_in t es) b.tables.regions going_in) top)) refl)
      (store_sim t l change b.tables.threads b.tables.owner b.tables.lock b.log_lines s.chain s.lock i (ready_again t l change i own top) going_in room
      inside kl op)
      (still (u.Again (region_in t es) l change) refl refl)

  go_first : eqb (get_or b.tables.owner l 0) (region_in t es) ≡ false → get_or b.tables.lock l false ≡ false
      → any (is_of 0) (thread_at t b.tables).log ≡ true → ((q : ℕ) → s.slot l q ≡ u.Waits → ⊥)
      → Going m (stored (region_in t es) (slotted (region_in t es) l b) l change (logged t (region_in t es) l b)) (Stores t l change ∷ es) (region_in t es)
  unfolding act note logged stored
  go_first own unl free calm =
      going (act s (u.First (region_in t es) l change)) (note h (u.First (region_in t es) l change))
      (watched_write w i t l inside unread change ready.reads (u.First (region_in t es) l change) first refl)
      (store_sim t l change (logged_threads t (region_in t es) l b.tables) (set b.tables.owner l (region_in t es)) (set b.tables.lock l true) (logged_old t l b)
      (chain_of (region_in t es) l s) (lock_of l s) i ready going_in room
      inside kl op)
      (still (u.First (region_in t es) l change) refl refl)
    where
      nz : eqb (region_in t es) 0 ≡ false
      nz = listed_key (region_in t es) b.tables.regions going_in

      follows : u.follows s.dep (region_in t es) (s.chain l) ≡ true
      follows =
          test (u.owns (region_in t es) (s.chain l))
          (λ d. never (eq-eqb (get_or b.tables.owner l 0) (region_in t es) (top_owner (region_in t es) l i nz (owns_newest (region_in t es) (s.chain l) d))) own)
          (λ d. rw d at joined)

      first : u.Allowed s (u.First (region_in t es) l change)
      first = u.firsts op follows (i.lock l ∙ unl)

      new : olds (eqb (region_in t es)) (s.chain l) ≡ []
      new =
          no_length (olds (eqb (region_in t es)) (s.chain l))
          (let z = (structured m (act s (u.First (region_in t es) l change)) (note h (u.First (region_in t es) l change)) (then (reach w) (u.First (region_in t es) l change) first)).single l (region_in t es) in
          let z' : suc (length (olds (eqb (region_in t es)) (s.chain l))) ≤ 1 = rw (is_same l, is_same (region_in t es)) at z in
          omega arith)

      live : (q x : ℕ) → c.logged q (s.chain x) ≡ true → listed q b.tables.regions ≡ true
      live q x e = let z = logged_live (reach w) i q x e in live_listed (reach w) i q z.0 z.1

      ready : Ready b es s t l change (logged_threads t (region_in t es) l b.tables) (set b.tables.owner l (region_in t es)) (set b.tables.lock l true)
          (logged_old t l b) (chain_of (region_in t es) l s) (lock_of l s)
      ready = ready_first t l change i going_in unl free setup in_t in_l new (λ q x e. listed_key q b.tables.regions (live q x e)) calm

-- ---- the whole write

-- a write is the join, the log, the store, the flights
module _ (t l k : ℕ) (change : List ℕ → List ℕ) (b : Board) (cur : current t b.tables ≡ k) (in' : listed k b.tables.regions ≡ true) where
  write_regions : set b.tables.regions (place_of k b.tables.regions) (wrote k l b.tables (region_at k b.tables.regions))
      ≡ set (read k l b.tables).regions (place_of k (read k l b.tables).regions) (slotted k l (with_tables (read k l b.tables) b))
  unfolding wrote read
  write_regions =
      let r : Region = with_deps (joined (dependence k l b.tables) (region_at k b.tables.regions).deps) (region_at k b.tables.regions) in
      rw (
        region_stored k b.tables.regions r in' (entry_at k b.tables.regions in') k,
        is_same k,
        place_stored k b.tables.regions r in' (entry_at k b.tables.regions in') k,
      )
      (sym (set-set b.tables.regions (place_of k b.tables.regions) r (wrote_line l r)))

  write_is : write t l change b ≡ flown k (stored k (slotted k l (with_tables (read k l b.tables) b)) l change (logged_once t k l (with_tables (read k l b.tables) b)))
  unfolding write stored logged read
  write_is =
      rw cur
      (ap (flown k)
      (test (eqb (get_or b.tables.owner l 0) k)
      (λ d. rw d (ap (λ x. rebuilt x (change_line l change b.cur) b.med b.car b) write_regions))
      (λ d. rw d (ap (λ x. rebuilt x (change_line l change b.cur) b.med b.car (logged t k l b)) write_regions))))

waits_state : (car : List (List ℕ)) (l : ℕ) (st : SlotState) → carry_of car l st ≡ u.Waits → (n : ℕ) × (st ≡ Waiting n)
waits_state car l Empty e = let z : ◌≡◌ {A = ℕ} 0 1 = cc in absurd (omega arith)
waits_state car l (Waiting n) e = (n, refl)
waits_state car l InFlight e = let z : ◌≡◌ {A = ℕ} 0 1 = cc in absurd (omega arith)

waits_clear : {c : u.Carry (List ℕ)} → c ≡ u.Waits → c ≡ u.Clear → ⊥
waits_clear {c} p q = let z : ◌≡◌ {A = ℕ} 0 1 = cc in omega arith

-- no slot of a line waits that a region may log: it would be of its owner, which has ended, on a line that is not locked
calm_line : {m : ℕ → List ℕ} {b : Board} {es : List Account} {s : u.State (List ℕ)} {h : v.History (List ℕ)} (t l : ℕ) → Reach m s h → Sim b es s h → Rest b
    → depth_of t b.tables ≢ 0 → is_foreign_open t (owner_of l b.tables) b.tables ≡ false → eqb (get_or b.tables.owner l 0) (region_in t es) ≡ false
    → get_or b.tables.lock l false ≡ false → (q : ℕ) → s.slot l q ≡ u.Waits → ⊥
calm_line {m} {b} {es} {s} {h} t l rc i re deep fo own unl q e = go (owner_is rc i l)
  where
    go : Owner b s l → ⊥
    go (unowned z o) = false≢true (rw z at ((structured m s h rc).of_logged l q (waits_clear e)))
    go (owned a c z o bo dn li) =
        let g : a.rid ≡ q = rw z at (i.waits l q e) in
        let k : get_or b.tables.owner l 0 ≡ a.rid = top_owner a.rid l i (listed_key a.rid b.tables.regions li) (rw z) in
        let n : eqb a.rid (current t b.tables) ≡ false = rw (current_is t l rc i deep, ← k) own in
        let ov : s.over a.rid ≡ true = owner_ended t l rc i deep a.rid bo li (rw o at fo) n in
        let st = waits_state b.car l (state_of l (region_at q b.tables.regions).slots) (sym (i.slot l q) ∙ e) in
        never (re.flown q l st.0 (or_right (eqb st.0 ripe_count) (rw (← g) (i.ended a.rid li ∙ ov))) st.1) unl

-- what is left to be done after the store and the flights of a region that goes on
rest_wrote : (k l : ℕ) (change : List ℕ → List ℕ) (b : Board) (ths : List Thread) (ow : List ℕ) (lo : List Bool) (ol : List (List ℕ))
    → ((x : ℕ) → get_or b.tables.lock x false ≡ true → get_or lo x false ≡ true) → listed k b.tables.regions ≡ true
    → (region_at k b.tables.regions).ended ≡ false → (region_at k b.tables.regions).done ≡ false
    → Rest b → Rest (flown k (stored k (slotted k l b) l change (relogged ths ow lo ol b)))
unfolding flown stored
rest_wrote k l change b ths ow lo ol grow in' en dn re =
    record {
      flown = flown_rest k (stored k (slotted k l b) l change (relogged ths ow lo ol b)) (rw (listed_stored k rs r' in' key k) in')
          (λ q x c n e st. grow x (re.flown q x c (rw (at q, n) at e) (rw (at q, n) at st)));
      finished = each_set Finished rs' (place_of k rs') (with_slots (flown_slots lo (region_at k rs').ended (region_at k rs').slots) (region_at k rs')) no_region
          (λ e n. never e (rw (at k, is_same k) en))
          (each_set Finished rs (place_of k rs) r' no_region (λ e n. never e en) re.finished);
      settled = each_set (λ x. commits x ≡ false) rs' (place_of k rs') (with_slots (flown_slots lo (region_at k rs').ended (region_at k rs').slots) (region_at k rs')) no_region
          (undone_stays (with_slots (flown_slots lo (region_at k rs').ended (region_at k rs').slots) (region_at k rs')) (rw (at k, is_same k) dn))
          (each_set (λ x. commits x ≡ false) rs (place_of k rs) r' no_region (undone_stays r' dn) re.settled);
    }
  where
    rs : List Region
    rs = b.tables.regions

    r' : Region
    r' = slotted k l b

    key : is_placed k r' ≡ true
    key = entry_at k rs in'

    rs' : List Region
    rs' = set rs (place_of k rs) r'

    at : (q : ℕ) → region_at q rs' ≡ cond (eqb q k) r' (region_at q rs)
    at q = region_stored k rs r' in' key q

grown : (l : ℕ) (lo : List Bool) → l < length lo → (x : ℕ) → get_or lo x false ≡ true → get_or (set lo l true) x false ≡ true
grown l lo n x e = rw (get_or_set lo l x true false n) (test (eqb x l) (λ d. rw d) (λ d. rw d e))

-- log, store and flights, after the join
write_joined : {m : Memory} {b : Board} {es : List Account} {s : u.State (List ℕ)} {h : v.History (List ℕ)} (t l : ℕ) (change : List ℕ → List ℕ)
    → Watched (λ x. line_of x (start_lines m)) b es s h → Sim b es s h → Rest b → is_read_elsewhere t l b.tables ≡ false → u.Open s (region_in t es)
    → (u.owns (region_in t es) (s.chain l) || u.follows s.dep (region_in t es) (s.chain l)) ≡ true
    → is_set_up b.tables ≡ true → t < b.tables.size.threads → l < b.tables.size.lines → KeepsLine change
    → (needs_log (region_in t es) l b.tables && locked l b.tables) ≡ false
    → is_full (slot_for l (region_at (region_in t es) b.tables.regions).slots) ≡ false
    → (needs_log (region_in t es) l b.tables && not (any (is_of 0) (thread_at t b.tables).log)) ≡ false
    → (eqb (get_or b.tables.owner l 0) (region_in t es) ≡ false → get_or b.tables.lock l false ≡ false → (q : ℕ) → s.slot l q ≡ u.Waits → ⊥)
    → Kept m (flown (region_in t es) (stored (region_in t es) (slotted (region_in t es) l b) l change (logged_once t (region_in t es) l b))) (Stores t l change ∷ es)
unfolding logged
write_joined {m} {b} {es} t l change w i re un op jo su in_t in_l so lo ro fr calm =
    test (eqb (get_or b.tables.owner l 0) (region_in t es))
    (λ d. rw d (finish b.tables.threads b.tables.owner b.tables.lock b.log_lines (λ x e. e)
    (go_again t l change w i un op jo su in_t in_l so ro d)))
    (λ d. let unl : get_or b.tables.lock l false ≡ false = rw d at lo in
    let z : any (is_of 0) (thread_at t b.tables).log ≡ true = not-false (any (is_of 0) (thread_at t b.tables).log) (rw d at fr) in
    rw d (finish (logged_threads t (region_in t es) l b.tables) (set b.tables.owner l (region_in t es)) (set b.tables.lock l true) (logged_old t l b)
    (grown l b.tables.lock (rw i.shape.lock (omega (arith, lines_256 b.tables su))))
    (go_first t l change w i un op jo su in_t in_l so ro d unl z (calm d unl))))
  where
    in' : listed (region_in t es) b.tables.regions ≡ true
    in' = open_listed (reach w) i (region_in t es) op

    finish : (ths : List Thread) (ow : List ℕ) (lo : List Bool) (ol : List (List ℕ)) → ((x : ℕ) → get_or b.tables.lock x false ≡ true → get_or lo x false ≡ true)
        → Going (λ x. line_of x (start_lines m)) (stored (region_in t es) (slotted (region_in t es) l b) l change (relogged ths ow lo ol b)) (Stores t l change ∷ es) (region_in t es)
        → Kept m (flown (region_in t es) (stored (region_in t es) (slotted (region_in t es) l b) l change (relogged ths ow lo ol b))) (Stores t l change ∷ es)
    finish ths ow lo ol grow (going s h w' i' op') =
        record {
          simulated = flights (region_in t es) (open_listed (reach w') i' (region_in t es) op') (by s h w' i');
          rest = rest_wrote (region_in t es) l change b ths ow lo ol grow in' (i.ended (region_in t es) in' ∙ op.goes_on) (open_undone (region_in t es) i op in') re;
        }

-- the slots are as before the join
slots_read : (k l : ℕ) (ts : Tables) → listed k ts.regions ≡ true → (q : ℕ) → (region_at q (read k l ts).regions).slots ≡ (region_at q ts.regions).slots
unfolding read
slots_read k l ts in' q =
    part_stored ts k (with_deps (joined (dependence k l ts) (region_at k ts.regions).deps) (region_at k ts.regions)) in' (entry_at k ts.regions in') (λ x. x.slots) refl q

pub write_keeps : (t l w mask y : ℕ) → Keeps (Write t l w mask y)
unfolding apply tests_of read
write_keeps t l w mask y m b es ref kept = go kept.simulated
  where
    p : (n : ℕ) → bad_at n (tests_of b.tables (Write t l w mask y)) ≡ false
    p = passed b.tables (Write t l w mask y) ref

    deep : depth_of t b.tables ≢ 0
    deep = eqb-false (depth_of t b.tables) 0 (p 12)

    change : List ℕ → List ℕ
    change = stored_in w mask y

    go : Simulated m b es → Kept m (write t l change b) (Stores t l change ∷ es)
    go (by s h watched i) =
        let rc = reach watched in
        let cur : current t b.tables ≡ region_in t es = current_is t l rc i deep in
        let op : u.Open s (region_in t es) = rw (← cur) (current_open t l rc i deep) in
        let in' : listed (region_in t es) b.tables.regions ≡ true = open_listed rc i (region_in t es) op in
        rw (write_is t l (region_in t es) change b cur in')
        (after_join cur op in' (rw cur at (join t l watched i deep (p 17) (p 19))))
      where
        b' : Board
        b' = with_tables (read (region_in t es) l b.tables) b

        after_join : current t b.tables ≡ region_in t es → u.Open s (region_in t es) → listed (region_in t es) b.tables.regions ≡ true
            → Joined (λ x. line_of x (start_lines m)) b' es (region_in t es) l
            → Kept m (flown (region_in t es) (stored (region_in t es) (slotted (region_in t es) l b') l change (logged_once t (region_in t es) l b'))) (Stores t l change ∷ es)
        after_join cur op in' (joins s' h' w' i' op' f) =
            write_joined t l change w' i' (rest_read (region_in t es) l i op in' kept.rest) (p 25) op' f
            (not-false (is_set_up b.tables) (p 6))
            (leb-false b.tables.size.threads t (p 3))
            (leb-false b.tables.size.lines l (p 4))
            (word_keeps w mask y)
            (rw cur at (p 18))
            (rw (slots_read (region_in t es) l b.tables in' (region_in t es)) (rw cur at (p 20)))
            (rw cur at (p 21))
            (λ own unl q e. calm_line t l (reach watched) i kept.rest deep (p 17) own unl q
            (i.slot l q ∙ sym (ap (λ ss. carry_of b.car l (state_of l ss)) (slots_read (region_in t es) l b.tables in' q)) ∙ sym (i'.slot l q) ∙ e))
