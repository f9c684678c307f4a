-- The values of cuts, fences, ends and acknowledgements, tied to the list.
use Rattle.undo.specs.Machine as u
use Rattle.undo.specs.History as v
use Prim.Native.Nat.{◌+◌, ◌<◌, suc, ℕ}
use mathlib.Core.Path.{◌∙◌, ◌≡◌, ap, refl, sym}
use mathlib.Core.Bool.{Bool, ◌&&◌, cond, false, false≢true, not, true, true≢false}
use mathlib.Core.List.{List, [], ◌∷◌}
use lib.Dec.{eqb}
use lib.ListN.{get_or, length}
use native.Mathlib.Omega.{arith}
use borrow.Author.Tests.{eqb-false, eqb-true, ne_eqb, not-false, not-true}
use Rattle.laws.proofs.Along.{along}
use Rattle.laws.proofs.Counts.{count_in, count_not, held_count, settled_held}
use Rattle.laws.proofs.Current.{value_is}
use Rattle.laws.proofs.Opened.{opens}
use Rattle.laws.specs.Laws.{CommitsAddUp, CommittedEnded, CutCounts, FenceOutside, FenceTells, value_after}
use Rattle.laws.specs.Words.{is_other_in, open_region_in, opens_in, others_of, told_in, told_of}
use Rattle.rules.proofs.Commits.{CommitsTold, commits_told}
use Rattle.rules.proofs.Recover.Expected.{committed_done, committed_ended}
use Rattle.rules.proofs.Lists.{any_at, count_none, count_put, count_room, place_lt, place_true}
use Rattle.rules.proofs.Places.{key_at, listed_at, listed_key, place_listed, room_left}
use Rattle.rules.proofs.Sim.State.{Kept, Sim, Simulated, by}
use Rattle.rules.proofs.Sim.Looks.{reach}
use Rattle.rules.proofs.Sim.Ack.{log_ack_lem}
use Rattle.rules.proofs.Sim.All.{every}
use Rattle.rules.proofs.Tests.{channel_room}
use Rattle.rules.proofs.Sim.Commit.{unique_regions}
use Rattle.rules.proofs.Sim.Data.{lands}
use Rattle.rules.proofs.Sim.End.{ends_region}
use Rattle.rules.specs.Access.{note_read, read, stored_in, write}
use Rattle.rules.specs.Acknowledge.{data_ack, log_ack}
use Rattle.rules.specs.Begin.{begin, opened}
use Rattle.rules.specs.Claim.{board_after, is_byte_memory}
use Rattle.rules.specs.End.{end_region}
use Rattle.rules.specs.History.{Account, Closes, Nothing, Opens, accepted_in, account_of, committed, ends_in}
use Rattle.rules.specs.Lists.{all, count, place}
use Rattle.rules.specs.Refusal.{depth_of, is_of_thread, refusal, tests_of}
use Rattle.rules.specs.Run.{run}
use Rattle.rules.specs.Step.{apply, fence, is_other, open_region, settled_board, setup}
use Rattle.rules.specs.Tables.{Memory, current, free_place, fresh, is_held, is_key, key_of, line_of, listed, no_region, place_of, region_at, start_lines, thread_at, thread_of, with_tables}
use Rattle.rules.specs.declared.Board.{Board}
use Rattle.rules.specs.declared.Event.{Event}
use Rattle.rules.specs.declared.Event.TheVariants.{Begin, Cut, DataAck, End, Fence, LogAck, Read, Setup, Write}
use Rattle.rules.specs.declared.Region.{Region}
use Rattle.undo.proofs.Laws.{and_true, is_same, never, or_right, test}
use Rattle.undo.specs.Claim.{Reach}
use Rattle.undo.specs.Table.{any, is_in, keep}
use Rattle.rules.proofs.Keys.{board_names, data_names, end_names, held_keys, keys_named, log_names, read_names, write_names}

abbrev held : Board → ℕ
held b = count is_held b.tables.regions

-- ---- what an event does to the number of places that are held

same_held : (b b' : Board) → board_names b' ≡ board_names b → held b' ≡ held b
same_held b b' e =
    held_keys b'.tables.regions
    ∙ ap (count (λ x. not (eqb x 0))) (keys_named b'.tables.regions b.tables.regions e)
    ∙ sym (held_keys b.tables.regions)

-- a begin at depth 0 takes one
open_held : (t : ℕ) (b : Board) → count is_held b.tables.regions < length b.tables.regions → count is_held (opened t b.tables).regions ≡ suc (held b)
unfolding opened
open_held t b h =
    let room : any (is_key 0) b.tables.regions ≡ true = count_room is_held (is_key 0) b.tables.regions (λ r e. not-false (eqb r.key 0) e) h in
    count_put is_held b.tables.regions (free_place b.tables.regions) _ no_region (place_lt (is_key 0) b.tables.regions room)
    (rw (ne_eqb (key_of t ((thread_at t b.tables).last + 1)) 0 (λ z. omega arith)))
    (rw (place_true (is_key 0) b.tables.regions no_region room))

-- ---- the commits told, the places held and the regions opened

abbrev Balance : Board → List Account → ℕ → Type 0
Balance b es n = n + held b ≡ length (opens_in es)

balance_settled : {m : Memory} (b b' : Board) (es es' : List Account) (n : ℕ) → Simulated m b' es' → board_names b' ≡ board_names b → Balance b es n
    → Balance (settled_board b').board es (n + (settled_board b').value)
unfolding settled_board
balance_settled b b' es es' n s e p = let z = settled_held b'.tables (unique_regions s) in let y = same_held b b' e in omega arith

balance_begin : (t : ℕ) (m : Memory) (b : Board) (es : List Account) (n : ℕ) → refusal b.tables (Begin t) ≡ 0 → Kept m b es → Balance b es n
    → Balance (apply b (Begin t)).board (Opens t ∷ es) (n + 0)
unfolding apply begin tests_of opens_in
balance_begin t m b es n r k p = go k.simulated
  where
    go : Simulated m b es → Balance (apply b (Begin t)).board (Opens t ∷ es) (n + 0)
    go (by s h w i) =
        rw (← i.told.depth t)
        (test (eqb (depth_of t b.tables) 0)
        (λ d. let full : held b < 32 = room_left b.tables.regions i.shape.regions ((thread_at t b.tables).last + 1) (channel_room b.tables t r d) in
        let z = open_held t b (rw i.shape.regions.count full) in
        rw (d, z) (omega arith))
        (λ d. rw d (omega arith)))

balance : (m : Memory) (b : Board) (es : List Account) (n : ℕ) (e : Event) → refusal b.tables e ≡ 0 → Kept m b es → Balance b es n
    → Balance (apply b e).board (account_of e ∷ es) (n + told_of e (apply b e).value)
unfolding apply opens_in setup read note_read
balance m b es n (Setup c l s) r k p = omega arith
balance m b es n (Begin t) r k p = balance_begin t m b es n r k p
balance m b es n (End t) r k p =
    test (eqb (depth_of t b.tables) 1)
    (λ d. rw d (balance_settled b (end_region t b) es (Closes t ∷ es) n (ends_region t m b es r d k).0 (end_names t b) p))
    (λ d. rw d (omega arith))
balance m b es n (Read t l w) r k p =
    let z = same_held b (with_tables (read (current t b.tables) l b.tables) b) (read_names (current t b.tables) l b.tables) in omega arith
balance m b es n (Write t l w mask v) r k p = let z = same_held b (write t l (stored_in w mask v) b) (write_names t l (stored_in w mask v) b) in omega arith
balance m b es n (LogAck l) r k p = balance_settled b (log_ack l b) es (Nothing ∷ es) n (log_ack_lem l m b es r k).0 (log_names l b) p
balance m b es n (DataAck l) r k p = balance_settled b (data_ack l b) es (Nothing ∷ es) n (lands l m b es r k).0 (data_names l b) p
balance m b es n (Fence t) r k p = omega arith
balance m b es n Cut r k p = omega arith

fresh_held : (m : Memory) → held (fresh m) ≡ 0
unfolding fresh
fresh_held m = count_none is_held no_region refl 32

balanced : (m : Memory) (rs : List (List ℕ)) → is_byte_memory m ≡ true
    → told_in rs (run (fresh m) rs).answers + held (board_after m rs) ≡ length (opens_in (accepted_in m rs))
unfolding opens_in
balanced m rs bm = along m Balance (λ b es n e r k p. balance m b es n e r k p) (omega (arith, fresh_held m)) rs bm

-- ---- lists of regions

some_fail : (p q : ℕ → Bool) (xs : List ℕ) (k : ℕ) → is_in k xs ≡ true → q k ≡ true → p k ≡ false → all p (keep q xs) ≡ false
some_fail p q [] k e a f = absurd (false≢true e)
some_fail p q (x ∷ xs) k e a f =
    test (eqb k x)
    (λ d. let z : eqb k x ≡ true = d in rw (← eqb-true k x d, a, f))
    (λ d. let ih = some_fail p q xs k (rw d at e) a f in
    test (q x) (λ y. rw (y, ih) (test (p x) (λ w. rw w) (λ w. rw w))) (λ y. rw (y, ih)))

which_fails : (p q : ℕ → Bool) (xs : List ℕ) → all p (keep q xs) ≡ false → (k : ℕ) × (is_in k xs ≡ true) × (q k ≡ true) × (p k ≡ false)
which_fails p q [] e = absurd (true≢false e)
which_fails p q (x ∷ xs) e =
    test (q x)
    (λ y. test (p x)
    (λ w. let z = which_fails p q xs (rw (y, w) at e) in (z.0, or_right (eqb z.0 x) z.1, z.2, z.3))
    (λ w. (x, rw (is_same x), y, w)))
    (λ y. let z = which_fails p q xs (rw y at e) in (z.0, or_right (eqb z.0 x) z.1, z.2, z.3))

-- ---- the board after a list of records

module _ (m : Memory) (rs : List (List ℕ)) (told : CommitsTold m rs) {s : u.State (List ℕ)} {h : v.History (List ℕ)}
    (rc : Reach (λ l. line_of l (start_lines m)) s h) (i : Sim (board_after m rs) (accepted_in m rs) s h) where
  was_opened : (k : ℕ) → is_in k (opens_in (accepted_in m rs)) ≡ s.born k
  was_opened k = (opens (accepted_in m rs) i.told.numbers).0 k ∙ sym (i.told.born k)

  pub in_list : (k : ℕ) → listed k (board_after m rs).tables.regions ≡ true → is_in k (opens_in (accepted_in m rs)) ≡ true
  in_list k e = was_opened k ∙ (and_true (s.born k) (not (s.done k)) (sym (i.live k) ∙ e)).0

  -- an opened region is listed until it commits
  pub uncommitted : (k : ℕ) → is_in k (opens_in (accepted_in m rs)) ≡ true → not (committed m rs k) ≡ listed k (board_after m rs).tables.regions
  uncommitted k e = let bo : s.born k ≡ true = sym (was_opened k) ∙ e in rw (committed_done m rs told rc i k, i.live k, bo)

  held_uncommitted : held (board_after m rs) ≡ count (λ k. not (committed m rs k)) (opens_in (accepted_in m rs))
  held_uncommitted =
      held_count (board_after m rs).tables.regions i.shape.regions.unique (opens (accepted_in m rs) i.told.numbers).1 in_list
      ∙ sym (count_in (λ k. not (committed m rs k)) (λ k. listed k (board_after m rs).tables.regions) (opens_in (accepted_in m rs)) uncommitted)

  same_open : (t : ℕ) → open_region t (board_after m rs).tables ≡ open_region_in t (accepted_in m rs)
  same_open t = rw (i.told.depth t, i.told.last t)

  fence_value : (t : ℕ) → fence t (board_after m rs).tables ≡ cond (all (committed m rs) (others_of t (accepted_in m rs))) 1 0
  unfolding fence
  fence_value t =
      rw (same_open t)
      (let o : ℕ = open_region_in t (accepted_in m rs) in
      let other : ℕ → Bool = is_other_in t (accepted_in m rs) in
      test (any (is_other t o) (board_after m rs).tables.regions)
      (λ a. let j : ℕ = place (is_other t o) (board_after m rs).tables.regions in
      let r : Region = get_or (board_after m rs).tables.regions j no_region in
      let y = and_true (is_of_thread t r) (not (is_key o r)) (place_true (is_other t o) (board_after m rs).tables.regions no_region a) in
      let z = and_true (is_held r) (eqb (thread_of r.key) t) y.0 in
      let li : listed r.key (board_after m rs).tables.regions ≡ true
      = listed_at j (board_after m rs).tables.regions i.shape.regions.unique (eqb-false r.key 0 (not-true (eqb r.key 0) z.0))
      (place_lt (is_other t o) (board_after m rs).tables.regions a) in
      let op = in_list r.key li in
      let nc : committed m rs r.key ≡ false = not-true (committed m rs r.key) (uncommitted r.key op ∙ li) in
      rw (a, some_fail (committed m rs) other (opens_in (accepted_in m rs)) r.key op (rw z.1 y.1) nc))
      (λ a. test (all (committed m rs) (others_of t (accepted_in m rs)))
      (λ c. rw (a, c))
      (λ c. let z = which_fails (committed m rs) other (opens_in (accepted_in m rs)) c in
      let li : listed z.0 (board_after m rs).tables.regions ≡ true = sym (uncommitted z.0 z.1) ∙ rw z.3 in
      let q : is_other t o (region_at z.0 (board_after m rs).tables.regions) ≡ true
      = rw (key_at z.0 (board_after m rs).tables.regions li, listed_key z.0 (board_after m rs).tables.regions li) z.2 in
      never
      (any_at (is_other t o) (board_after m rs).tables.regions (place_of z.0 (board_after m rs).tables.regions) no_region
      (place_listed z.0 (board_after m rs).tables.regions li) q) a)))

pub cut_counts : CutCounts
unfolding apply
cut_counts m rs bm br r a = go (every m rs bm).simulated
  where
    go : Simulated m (board_after m rs) (accepted_in m rs) → value_after m rs r ≡ count (λ k. not (committed m rs k)) (opens_in (accepted_in m rs))
    go (by s h w i) = (value_is (board_after m rs) r Cut a.is a.unrefused).0 ∙ held_uncommitted m rs (commits_told m rs bm) (reach w) i

pub fence_tells : FenceTells
unfolding apply
fence_tells m rs bm br r t a = go (every m rs bm).simulated
  where
    go : Simulated m (board_after m rs) (accepted_in m rs) → value_after m rs r ≡ cond (all (committed m rs) (others_of t (accepted_in m rs))) 1 0
    go (by s h w i) = (value_is (board_after m rs) r (Fence t) a.is a.unrefused).0 ∙ fence_value m rs (commits_told m rs bm) (reach w) i t

-- no region has the key 0, so at depth 0 none is left out
any_of_thread : (t : ℕ) (rs : List Region) → any (is_other t 0) rs ≡ any (is_of_thread t) rs
any_of_thread t [] = refl
any_of_thread t (r ∷ rs) =
    test (eqb r.key 0)
    (λ e. rw (e, any_of_thread t rs))
    (λ e. test (eqb (thread_of r.key) t) (λ o. rw (e, o)) (λ o. rw (e, o, any_of_thread t rs)))

pub fence_outside : FenceOutside
unfolding fence
fence_outside t ts e = rw (e, any_of_thread t ts.regions)

pub commits_add_up : CommitsAddUp
commits_add_up m rs bm br = go (every m rs bm).simulated
  where
    go : Simulated m (board_after m rs) (accepted_in m rs) → told_in rs (run (fresh m) rs).answers ≡ count (committed m rs) (opens_in (accepted_in m rs))
    go (by s h w i) =
        let x = balanced m rs bm in
        let y = held_uncommitted m rs (commits_told m rs bm) (reach w) i in
        let z = count_not (committed m rs) (opens_in (accepted_in m rs)) in
        omega arith

pub committed_is_ended : CommittedEnded
committed_is_ended m rs bm br k = go (every m rs bm).simulated
  where
    go : Simulated m (board_after m rs) (accepted_in m rs)
        → committed m rs k ≡ (is_in k (ends_in (accepted_in m rs)) && not (listed k (board_after m rs).tables.regions))
    go (by s h w i) = committed_ended m rs (commits_told m rs bm) (reach w) i k
