-- What a reserve promises: in each channel what is held and what the reserves still lack are never more than 16 together, so that a party below its reserve
-- finds an entry.
use Rattle.std.specs.Prelude.{Ok}
use Rattle.undo.specs.Machine as u
use Rattle.undo.specs.History as v
use Prim.Native.Nat.{◌%◌, ◌+◌, ◌-◌, ◌<◌, ◌≤◌, suc, zero, ℕ}
use mathlib.Core.Path.{◌∙◌, ◌≡◌, ap, refl, sym}
use mathlib.Core.Logic.{◌≢◌}
use mathlib.Core.Bool.{Bool, ◌&&◌, ◌||◌, false, false≢true, not, true}
use mathlib.Core.List.{List, [], ◌∷◌, map}
use lib.Dec.{eqb, leb}
use lib.ListN.{get_or, length, length-map, replicate, set}
use native.Mathlib.Omega.{arith}
use borrow.Author.Tests.{eq-eqb, eqb-false, eqb-true, leb-false, ltb-false, ltb-true, ne_eqb, not-false, not-true}
use Rattle.laws.proofs.Along.{along}
use Rattle.laws.proofs.Counts.{count_at, count_in, count_parts, listed_in}
use Rattle.laws.proofs.Opened.{is_kept, once_kept, opens}
use Rattle.laws.proofs.Shares.{is_fit, no_shares_lem}
use Rattle.laws.proofs.Values.{in_list, uncommitted}
use Rattle.laws.specs.Reserves.{Begins, Fit, Reserved, Reserving, channel_in, holds_in, lives, party_in, reserve_in, shares_in, uncommitted_in, wanted_in}
use Rattle.laws.specs.Words.{opens_in}
use Rattle.rules.proofs.Commits.{CommitsTold, commits_told}
use Rattle.rules.proofs.Cuts.{settled_size}
use Rattle.rules.proofs.Keys.{Keys, board_keys, fewer, gone, held_keys, keys_after, keys_in, more as one_more, same}
use Rattle.rules.proofs.Lists.{count_map, count_mono, count_none, count_put, count_room, count_set, place_lt, place_true}
use Rattle.rules.proofs.Places.{Homes, homes, listed_at, room_left}
use Rattle.rules.proofs.Sim.All.{every}
use Rattle.rules.proofs.Sim.Base.{key_number, key_thread, threads_8}
use Rattle.rules.proofs.Sim.State.{Kept, Sim, Simulated, by}
use Rattle.rules.proofs.Sim.Looks.{reach}
use Rattle.rules.proofs.Tests.{channel_room, passed, setup_passed}
use Rattle.rules.specs.Access.{logged, needs_log, note_read, read, stored, write}
use Rattle.rules.specs.Acknowledge.{data_ack, log_ack, unlocked}
use Rattle.rules.specs.Begin.{begin, opened}
use Rattle.rules.specs.Claim.{board_after, is_byte_memory}
use Rattle.rules.specs.End.{closed, end_region, outside}
use Rattle.rules.specs.Flight.{flown}
use Rattle.rules.specs.History.{Account, accepted_in, account_of, commits_of, committed}
use Rattle.rules.specs.Lists.{count, place}
use Rattle.rules.specs.Measures.{most_in_channel}
use Rattle.rules.specs.Record.{read_record}
use Rattle.rules.specs.Refusal.{Test, depth_of, first_bad, is_of_party, is_set_up, lack, no_room_for, other_party, party_of, refusal, reserve_of, tests_of}
use Rattle.rules.specs.Step.{apply, setup, step, step_by, step_event}
use Rattle.rules.specs.Tables.{Memory, current, fresh, in_channel, is_held, key_of, line_of, listed, no_region, number_of, start_lines, thread_at, thread_of}
use Rattle.rules.specs.declared.Board.{Board}
use Rattle.rules.specs.declared.Event.{Event}
use Rattle.rules.specs.declared.Event.TheVariants.{Begin, Cut, DataAck, End, Fence, LogAck, Read, Setup, Write}
use Rattle.rules.specs.declared.Region.{Region}
use Rattle.rules.specs.declared.Shares.{Shares}
use Rattle.rules.specs.declared.Tables.{Tables}
use Rattle.undo.proofs.Laws.{and_true, is_same, never, or_right, test}
use Rattle.undo.specs.Claim.{Reach}
use Rattle.undo.specs.Table.{any, is_in, keep}

-- ---- the keys of the listed regions, counted

abbrev is_some : ℕ → Bool
is_some k = not (eqb k 0)

-- of the regions in a channel, of those of a party there, of those of neither party
abbrev of_channel : ℕ → ℕ → Bool
of_channel c k = is_some k && lives c k

abbrev of_party : Shares → ℕ → ℕ → ℕ → Bool
of_party s c p k = of_channel c k && eqb (party_of (thread_of k) s) p

abbrev not_first : Shares → ℕ → ℕ → Bool
not_first s c k = of_channel c k && not (eqb (party_of (thread_of k) s) 0)

abbrev neither : Shares → ℕ → ℕ → Bool
neither s c k = not_first s c k && not (eqb (party_of (thread_of k) s) 1)

abbrev held_of : ℕ → List ℕ → ℕ
held_of c ks = count (of_channel c) ks

abbrev holds : Shares → ℕ → ℕ → List ℕ → ℕ
holds s c p ks = count (of_party s c p) ks

abbrev lacks : Shares → ℕ → ℕ → List ℕ → ℕ
lacks s c p ks = reserve_of p s - holds s c p ks

abbrev Room : Shares → ℕ → List ℕ → Type 0
Room s c ks = held_of c ks + lacks s c 0 ks + lacks s c 1 ks ≤ 16

parts : (s : Shares) (c : ℕ) (ks : List ℕ) → held_of c ks ≡ holds s c 0 ks + (holds s c 1 ks + count (neither s c) ks)
parts s c ks =
    count_parts (of_channel c) (of_party s c 0) (not_first s c) ks
    (λ k. test (of_channel c k) (λ e. rw e (test (eqb (party_of (thread_of k) s) 0) (λ f. rw f) (λ f. rw f))) (λ e. rw e))
    ∙ ap (λ n. holds s c 0 ks + n)
    (count_parts (not_first s c) (of_party s c 1) (neither s c) ks
    (λ k. test (of_channel c k)
    (λ e. rw e (test (eqb (party_of (thread_of k) s) 0)
    (λ f. rw (f, eqb-true (party_of (thread_of k) s) 0 f))
    (λ f. rw f (test (eqb (party_of (thread_of k) s) 1) (λ g. rw g) (λ g. rw g)))))
    (λ e. rw e)))

-- some keys taken away
fewer_pass : (q : ℕ → Bool) → q 0 ≡ false → (js ks : List ℕ) → count q (map (gone js) ks) ≤ count q ks
unfolding count
fewer_pass q z js [] = omega arith
fewer_pass q z js (k ∷ ks) =
    let ih = fewer_pass q z js ks in
    test (is_in k js)
    (λ e. rw (e, z) (test (q k) (λ f. rw f (omega arith)) (λ f. rw f ih)))
    (λ e. rw e (test (q k) (λ f. rw f (omega arith)) (λ f. rw f ih)))

room_fewer : (s : Shares) (c : ℕ) (js ks : List ℕ) → Room s c ks → Room s c (map (gone js) ks)
room_fewer s c js ks r =
    let a = parts s c ks in
    let b = parts s c (map (gone js) ks) in
    let x = fewer_pass (of_party s c 0) refl js ks in
    let y = fewer_pass (of_party s c 1) refl js ks in
    let z = fewer_pass (neither s c) refl js ks in
    omega arith

one_left : (p : ℕ) → p ≤ 1 → p ≢ 0 → p ≡ 1
one_left zero l n = absurd (n refl)
one_left (suc p) l n = omega arith

-- one key more, of thread t and number n, at a free place
module _ (s : Shares) (ks : List ℕ) (i k t n : ℕ) (h : i < length ks) (free : get_or ks i 0 ≡ 0) (is : thread_of k ≡ t) (nu : number_of k ≡ n)
    (nz : eqb k 0 ≡ false) where
  -- its channel
  abbrev c : ℕ
  c = n % 2

  held_more : held_of c (set ks i k) ≡ suc (held_of c ks)
  held_more = count_put (of_channel c) ks i k 0 h (rw (nz, nu, is_same c)) (rw free)

  own_more : (p : ℕ) → party_of t s ≡ p → holds s c p (set ks i k) ≡ suc (holds s c p ks)
  own_more p e = count_put (of_party s c p) ks i k 0 h (rw (nz, nu, is_same c, is, e, is_same p)) (rw free)

  other_same : (p : ℕ) → party_of t s ≢ p → holds s c p (set ks i k) ≡ holds s c p ks
  other_same p x = count_set (of_party s c p) ks i k 0 (rw (nz, nu, is_same c, is, ne_eqb (party_of t s) p x, free))

  -- the other channel stays as it is
  room_beside : (d : ℕ) → eqb c d ≡ false → Room s d ks → Room s d (set ks i k)
  room_beside d x r =
      rw (
        count_set (of_channel d) ks i k 0 (rw (nz, nu, x, free)),
        count_set (of_party s d 0) ks i k 0 (rw (nz, nu, x, free)),
        count_set (of_party s d 1) ks i k 0 (rw (nz, nu, x, free)),
      ) r

  room_more : party_of t s ≤ 1 → held_of c ks + 1 + lacks s c (other_party (party_of t s)) ks ≤ 16 → Room s c ks → Room s c (set ks i k)
  room_more low l r =
      test (eqb (party_of t s) 0)
      (λ e. let z : party_of t s ≡ 0 = eqb-true (party_of t s) 0 e in
      let l' : held_of c ks + 1 + lacks s c 1 ks ≤ 16 = rw e at l in
      let x = held_more in
      let y = own_more 0 z in
      let w = other_same 1 (λ q. omega arith) in
      omega arith)
      (λ e. let v : party_of t s ≢ 0 = eqb-false (party_of t s) 0 e in
      let z : party_of t s ≡ 1 = one_left (party_of t s) low v in
      let l' : held_of c ks + 1 + lacks s c 0 ks ≤ 16 = rw e at l in
      let x = held_more in
      let y = own_more 1 z in
      let w = other_same 0 v in
      omega arith)

  room_each : party_of t s ≤ 1 → held_of c ks + 1 + lacks s c (other_party (party_of t s)) ks ≤ 16 → ((d : ℕ) → Room s d ks) → (d : ℕ) → Room s d (set ks i k)
  room_each low l r d =
      test (eqb c d)
      (λ e. rw (← eqb-true c d e) (room_more low l (r c)))
      (λ e. room_beside d e (r d))

-- ---- the board

-- where every entry is in the channel of its number, the keys tell what is in a channel
channel_keys : (c : ℕ) (rs : List Region) → Homes rs → count (in_channel c) rs ≡ held_of c (keys_in rs)
channel_keys c rs h =
    count_at (in_channel c) (λ r. of_channel c r.key) rs no_region (λ j l. rw (h j))
    ∙ sym (count_map (of_channel c) (λ r. of_channel c r.key) (λ r. r.key) rs (λ r. refl))

party_keys : (s : Shares) (c p : ℕ) (rs : List Region) → Homes rs → count (is_of_party s c p) rs ≡ holds s c p (keys_in rs)
party_keys s c p rs h =
    count_at (is_of_party s c p) (λ r. of_party s c p r.key) rs no_region (λ j l. rw (h j))
    ∙ sym (count_map (of_party s c p) (λ r. of_party s c p r.key) (λ r. r.key) rs (λ r. refl))

pub record Roomy (b : Board) (es : List Account) : Type 0 where
  pub shares : b.tables.size.shares ≡ shares_in es
  -- before setup nothing is held
  pub idle : is_set_up b.tables ≡ false → count is_some (board_keys b) ≡ 0
  pub low : (t : ℕ) → t < 8 → party_of t b.tables.size.shares ≤ 1
  pub room : (c : ℕ) → Room b.tables.size.shares c (board_keys b)

after_setup : (b : Board) (es : List Account) (n l : ℕ) (s : Shares) → refusal b.tables (Setup n l s) ≡ 0 → Roomy b es
    → Roomy (apply b (Setup n l s)).board (account_of (Setup n l s) ∷ es)
unfolding apply setup tests_of shares_in
after_setup b es n l s r k =
    let f = setup_passed b.tables n l s r in
    let g : Fit n s = is_fit n s (passed b.tables (Setup n l s) r 24) in
    let z = k.idle f.1 in
    record {
      shares = refl;
      idle = λ e. never f.0 e;
      low = g.low;
      room = λ c. let w = g.room in
          let a = count_mono (of_channel c) is_some (board_keys b) (λ x e. (and_true (is_some x) (lives c x) e).0) in
          omega arith;
    }

-- an event that leaves the numbers of the setup
module _ (m : Memory) (b : Board) (es : List Account) (e : Event) (r : refusal b.tables e ≡ 0) (kept : Kept m b es) (k : Roomy b es)
    (size : (apply b e).board.tables.size ≡ b.tables.size) (told : shares_in (account_of e ∷ es) ≡ shares_in es) where
  abbrev z : Shares
  z = b.tables.size.shares

  -- the number that thread t's next begin opens
  abbrev next : ℕ → ℕ
  next t = (thread_at t b.tables).last + 1

  after_keys : (is_set_up b.tables ≡ false → count is_some (board_keys (apply b e).board) ≡ 0) → ((c : ℕ) → Room z c (board_keys (apply b e).board))
      → Roomy (apply b e).board (account_of e ∷ es)
  after_keys i ro =
      record {
        shares = ap (λ x. x.shares) size ∙ k.shares ∙ sym told;
        idle = λ f. i (rw size at f);
        low = rw size k.low;
        room = rw size ro;
      }

  after_begin : (t : ℕ) → e ≡ Begin t → depth_of t b.tables ≡ 0
      → board_keys (apply b e).board ≡ set (board_keys b) (place (λ x. eqb x 0) (board_keys b)) (key_of t ((thread_at t b.tables).last + 1))
      → Roomy (apply b e).board (account_of e ∷ es)
  unfolding tests_of
  after_begin t q d ks = go kept.simulated
    where
      r' : refusal b.tables (Begin t) ≡ 0
      r' = rw q at r

      d' : eqb (depth_of t b.tables) 0 ≡ true
      d' = eq-eqb (depth_of t b.tables) 0 d

      few : (thread_at t b.tables).last < 65535
      few = leb-false 65535 (thread_at t b.tables).last (rw d' at (passed b.tables (Begin t) r' 14))

      -- the test of 16, by the keys
      sixteen : Homes b.tables.regions → held_of (next t % 2) (board_keys b) + 1 + lacks z (next t % 2) (other_party (party_of t z)) (board_keys b) ≤ 16
      sixteen hs =
          rw (← channel_keys (next t % 2) b.tables.regions hs, ← party_keys z (next t % 2) (other_party (party_of t z)) b.tables.regions hs)
          (ltb-false 16 (count (in_channel (next t % 2)) b.tables.regions + 1 + lack (next t % 2) (other_party (party_of t z)) b.tables)
          (rw d' at (passed b.tables (Begin t) r' 16)))

      go : Simulated m b es → Roomy (apply b e).board (account_of e ∷ es)
      go (by s h w i) =
          let key : ℕ = key_of t ((thread_at t b.tables).last + 1) in
          let long : length (board_keys b) ≡ 32 = length-map b.tables.regions (λ (x : Region). x.key) ∙ i.shape.regions.count in
          let full : count is_held b.tables.regions < 32 = room_left b.tables.regions i.shape.regions (next t) (channel_room b.tables t r' d') in
          let free : any (λ x. eqb x 0) (board_keys b) ≡ true
          = count_room is_some (λ x. eqb x 0) (board_keys b) (λ x f. not-false (eqb x 0) f) (omega (arith, full, held_keys b.tables.regions, long)) in
          let at : ℕ = place (λ x. eqb x 0) (board_keys b) in
          let t8 : t < 8 = omega (arith, threads_8 b.tables i.shape, leb-false b.tables.size.threads t (passed b.tables (Begin t) r' 3)) in
          after_keys
          (λ u. never (not-false (is_set_up b.tables) (passed b.tables (Begin t) r' 6)) u)
          (rw ks
          (room_each z (board_keys b) at key t (next t) (place_lt (λ x. eqb x 0) (board_keys b) free)
          (eqb-true (get_or (board_keys b) at 0) 0 (place_true (λ x. eqb x 0) (board_keys b) 0 free))
          (key_thread t (next t) (omega (arith, few))) (key_number t (next t) (omega (arith, few)))
          (ne_eqb key 0 (λ q. omega arith)) (k.low t t8) (sixteen (homes b.tables.regions i.shape.regions)) k.room))

  after_other : Roomy (apply b e).board (account_of e ∷ es)
  after_other = go (keys_after b e)
    where
      go : Keys b e (board_keys (apply b e).board) → Roomy (apply b e).board (account_of e ∷ es)
      go (same q) = after_keys (λ u. rw q (k.idle u)) (λ c. rw q (k.room c))
      go (one_more t q d ks) = after_begin t q d ks
      go (fewer q) =
          after_keys
          (λ u. rw q (let x = fewer_pass is_some refl (commits_of e b) (board_keys b) in let y = k.idle u in omega arith))
          (λ c. rw q (room_fewer z c (commits_of e b) (board_keys b) (k.room c)))

after : (m : Memory) (b : Board) (es : List Account) (e : Event) → refusal b.tables e ≡ 0 → Kept m b es → Roomy b es
    → Roomy (apply b e).board (account_of e ∷ es)
unfolding shares_in apply begin opened read note_read write stored logged flown log_ack unlocked data_ack end_region closed outside
after m b es (Setup n l s) r kept k = after_setup b es n l s r k
after m b es (Begin t) r kept k =
    after_other m b es (Begin t) r kept k (test (eqb (depth_of t b.tables) 0) (λ d. rw d) (λ d. rw d)) refl
after m b es (End t) r kept k =
    after_other m b es (End t) r kept k (test (eqb (depth_of t b.tables) 1) (λ d. rw d (settled_size (end_region t b))) (λ d. rw d)) refl
after m b es (Read t l w) r kept k = after_other m b es (Read t l w) r kept k refl refl
after m b es (Write t l w mask v) r kept k =
    after_other m b es (Write t l w mask v) r kept k (test (needs_log (current t b.tables) l b.tables) (λ d. rw d) (λ d. rw d)) refl
after m b es (LogAck l) r kept k = after_other m b es (LogAck l) r kept k (settled_size (log_ack l b)) refl
after m b es (DataAck l) r kept k = after_other m b es (DataAck l) r kept k (settled_size (data_ack l b)) refl
after m b es (Fence t) r kept k = after_other m b es (Fence t) r kept k refl refl
after m b es Cut r kept k = after_other m b es Cut r kept k refl refl

-- no place of the fresh list passes
none_kept : (q : ℕ → Bool) → q 0 ≡ false → (n : ℕ) → count q (keys_in (replicate n no_region)) ≡ 0
none_kept q z n = count_map q (λ r. q r.key) (λ r. r.key) (replicate n no_region) (λ r. refl) ∙ count_none (λ (r : Region). q r.key) no_region z n

at_start : (m : Memory) → Roomy (fresh m) []
unfolding fresh shares_in
at_start m =
    record {
      shares = refl;
      idle = λ e. none_kept is_some refl 32;
      low = (no_shares_lem 0).low;
      room = λ c. let h = none_kept (of_channel c) refl 32 in omega arith;
    }

roomy : (m : Memory) (rs : List (List ℕ)) → is_byte_memory m ≡ true → Roomy (board_after m rs) (accepted_in m rs)
roomy m rs bm = along m (λ b es n. Roomy b es) (λ b es n e r kept k. after m b es e r kept k) (at_start m) rs bm

-- ---- what the answers say

abbrev pub said : ℕ → Test → Bool
said n x = eqb x.code n && x.bad

-- a refusal is the number of a test that refuses
pub says : (n : ℕ) (ts : List Test) → n ≢ 0 → first_bad ts ≡ n → any (said n) ts ≡ true
says n [] nz e = absurd (nz (sym e))
says n (x ∷ ts) nz e =
    test x.bad
    (λ f. let q : x.code ≡ n = rw f at e in rw (f, eq-eqb x.code n q))
    (λ f. or_right (said n x) (says n ts nz (rw f at e)))

pub answered : (b : Board) (r : List ℕ) (e : Event) → read_record r ≡ Ok e → (step b r).answer.refusal ≡ refusal b.tables e
unfolding step step_event step_by
answered b r e q = rw q (go (refusal b.tables e))
  where
    go : (n : ℕ) → (step_by n b e).answer.refusal ≡ n
    go zero = refl
    go (suc n) = refl

-- 16 comes from its own test, and after 6 and 3
pub record Full (t : ℕ) (ts : Tables) : Type 0 where
  pub outside : eqb (depth_of t ts) 0 ≡ true
  pub taken : no_room_for t ts ≡ true
  pub below : t < ts.size.threads

full_for : (ts : Tables) (t : ℕ) → refusal ts (Begin t) ≡ 16 → Full t ts
unfolding refusal tests_of
full_for ts t r =
    let z : ((eqb (depth_of t ts) 0 && no_room_for t ts) || false) ≡ true = says 16 (tests_of ts (Begin t)) (λ n. omega arith) r in
    let y : (eqb (depth_of t ts) 0 && no_room_for t ts) ≡ true
    = test (eqb (depth_of t ts) 0 && no_room_for t ts) (λ e. e) (λ e. let w : false ≡ true = rw e at z in absurd (false≢true w)) in
    record {
      outside = (and_true (eqb (depth_of t ts) 0) (no_room_for t ts) y).0;
      taken = (and_true (eqb (depth_of t ts) 0) (no_room_for t ts) y).1;
      below = test (leb ts.size.threads t)
          (λ e. test (is_set_up ts)
          (λ u. let w : ◌≡◌ {A = ℕ} 3 16 = rw (u, e) at r in absurd (omega arith))
          (λ u. let w : ◌≡◌ {A = ℕ} 6 16 = rw u at r in absurd (omega arith)))
          (λ e. leb-false ts.size.threads t e);
    }

-- ---- the regions of a party, by the list

module _ (m : Memory) (rs : List (List ℕ)) (told : CommitsTold m rs) (k : Roomy (board_after m rs) (accepted_in m rs)) {s : u.State (List ℕ)} {h : v.History (List ℕ)}
    (rc : Reach (λ l. line_of l (start_lines m)) s h) (i : Sim (board_after m rs) (accepted_in m rs) s h) where
  abbrev ts : Tables
  ts = (board_after m rs).tables

  abbrev ps : Shares
  ps = shares_in (accepted_in m rs)

  -- the regions listed that a test of their keys picks, and those of the list that it picks
  picked : (q : ℕ → Bool) → count (λ r. is_held r && q r.key) ts.regions ≡ count (λ k. not (committed m rs k)) (keep q (opens_in (accepted_in m rs)))
  picked q =
      let ys : List ℕ = keep q (opens_in (accepted_in m rs)) in
      count_at (λ r. is_held r && q r.key) (λ r. is_held r && is_in r.key ys) ts.regions no_region
      (λ j l. let x = get_or ts.regions j no_region in
      test (is_held x)
      (λ e. rw (
        e,
        is_kept q x.key (opens_in (accepted_in m rs)),
        in_list m rs told rc i x.key (listed_at j ts.regions i.shape.regions.unique (eqb-false x.key 0 (not-true (eqb x.key 0) e)) l),
      ))
      (λ e. rw e))
      ∙ sym (listed_in ts.regions i.shape.regions.unique (once_kept q (opens (accepted_in m rs) i.told.numbers).1))
      ∙ sym (count_in (λ k. not (committed m rs k)) (λ k. listed k ts.regions) ys
      (λ k e. uncommitted m rs told rc i k (and_true (is_in k (opens_in (accepted_in m rs))) (q k) (sym (is_kept q k (opens_in (accepted_in m rs))) ∙ e)).0))

  hs : Homes ts.regions
  hs = homes ts.regions i.shape.regions

  channel_held : (c : ℕ) → count (in_channel c) ts.regions ≡ uncommitted_in m rs c
  channel_held c = count_at (in_channel c) (λ r. is_held r && lives c r.key) ts.regions no_region (λ j l. rw (hs j)) ∙ picked (lives c)

  party_held : (c p : ℕ) → count (is_of_party ps c p) ts.regions ≡ holds_in m rs c p
  party_held c p =
      let q : ℕ → Bool = λ k. lives c k && eqb (party_of (thread_of k) ps) p in
      count_at (is_of_party ps c p) (λ r. is_held r && q r.key) ts.regions no_region
      (λ j l. rw (hs j) (test (is_held (get_or ts.regions j no_region)) (λ e. rw e) (λ e. rw e)))
      ∙ picked q

  abbrev ch : ℕ → ℕ
  ch t = ((thread_at t ts).last + 1) % 2

  -- the entries wanted, by the tables and by the list
  wanted_is : (t : ℕ) → count (in_channel (ch t)) ts.regions + 1 + lack (ch t) (other_party (party_of t ts.size.shares)) ts ≡ wanted_in m rs t
  wanted_is t =
      rw (k.shares, i.told.last t)
      (let c = channel_in t (accepted_in m rs) in rw (party_held c (other_party (party_of t ps)), channel_held c))

  -- what a channel holds and what both reserves lack there
  both : (c : ℕ) → uncommitted_in m rs c + (reserve_in 0 (accepted_in m rs) - holds_in m rs c 0) + (reserve_in 1 (accepted_in m rs) - holds_in m rs c 1) ≤ 16
  both c =
      rw (← party_held c 0, ← party_held c 1, ← channel_held c, party_keys ps c 0 ts.regions hs, party_keys ps c 1 ts.regions hs, channel_keys c ts.regions hs)
      (rw k.shares at (k.room c))

  two : (c : ℕ) → holds_in m rs c 0 + holds_in m rs c 1 ≤ uncommitted_in m rs c
  two c =
      rw (← party_held c 0, ← party_held c 1, ← channel_held c, party_keys ps c 0 ts.regions hs, party_keys ps c 1 ts.regions hs, channel_keys c ts.regions hs)
      (let a = parts ps c (keys_in ts.regions) in omega arith)

  -- a party below its reserve has room in it
  sits : (t : ℕ) → t < ts.size.threads → most_in_channel < wanted_in m rs t
      → holds_in m rs (channel_in t (accepted_in m rs)) (party_in t (accepted_in m rs)) < reserve_in (party_in t (accepted_in m rs)) (accepted_in m rs) → ⊥
  sits t lt w l =
      let c : ℕ = channel_in t (accepted_in m rs) in
      let low : party_of t ps ≤ 1 = rw k.shares at (k.low t (omega (arith, lt, threads_8 ts i.shape))) in
      test (eqb (party_of t ps) 0)
      (λ e. let q : party_of t ps ≡ 0 = eqb-true (party_of t ps) 0 e in
      let l' : holds_in m rs c 0 < reserve_in 0 (accepted_in m rs) = rw q at l in
      let w' : 16 < uncommitted_in m rs c + 1 + (reserve_in 1 (accepted_in m rs) - holds_in m rs c 1) = rw q at w in
      omega (arith, both c))
      (λ e. let q : party_of t ps ≡ 1 = one_left (party_of t ps) low (eqb-false (party_of t ps) 0 e) in
      let l' : holds_in m rs c 1 < reserve_in 1 (accepted_in m rs) = rw q at l in
      let w' : 16 < uncommitted_in m rs c + 1 + (reserve_in 0 (accepted_in m rs) - holds_in m rs c 0) = rw q at w in
      omega (arith, both c))

  begins : (r : List ℕ) (t : ℕ) → read_record r ≡ Ok (Begin t) → Begins m rs r t
  unfolding tests_of
  begins r t q =
      record {
        full = full;
        outside = λ e. sym (i.told.depth t) ∙ eqb-true (depth_of t ts) 0 (full_for ts t (says_it e)).outside;
        room = λ e d. rw (← wanted_is t)
            (ltb-false 16 (count (in_channel (ch t)) ts.regions + 1 + lack (ch t) (other_party (party_of t ts.size.shares)) ts)
            (rw (eq-eqb (depth_of t ts) 0 (i.told.depth t ∙ d)) at (passed ts (Begin t) (says_it e) 16)));
        reserved = λ l e. sits t (full_for ts t (says_it e)).below (full e) l;
      }
    where
      says_it : {n : ℕ} → (step (board_after m rs) r).answer.refusal ≡ n → refusal ts (Begin t) ≡ n
      says_it e = sym (answered (board_after m rs) r (Begin t) q) ∙ e

      full : (step (board_after m rs) r).answer.refusal ≡ 16 → most_in_channel < wanted_in m rs t
      full e =
          rw (← wanted_is t)
          (ltb-true 16 (count (in_channel (ch t)) ts.regions + 1 + lack (ch t) (other_party (party_of t ts.size.shares)) ts) (full_for ts t (says_it e)).taken)

pub reserved : Reserved
reserved m rs bm br = go (every m rs bm).simulated
  where
    go : Simulated m (board_after m rs) (accepted_in m rs) → Reserving m rs
    go (by s h w i) =
        let told = commits_told m rs bm in
        let k = roomy m rs bm in
        record {
          begins = begins m rs told k (reach w) i;
          sum = λ c. let z = both m rs told k (reach w) i c in let a = two m rs told k (reach w) i c in omega arith;
        }
