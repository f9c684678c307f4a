-- Fence, cut, setup, and begin and end at other depths than 0 and 1 keep the relation.
use Prim.Native.Nat.{◌-◌, ◌+◌, ◌<◌, ℕ}
use mathlib.Core.Path.{◌∙◌, ◌≡◌, ap, refl}
use mathlib.Core.Logic.{◌≢◌}
use mathlib.Core.Bool.{cond, false, true}
use mathlib.Core.List.{List, ◌∷◌}
use lib.Dec.{eqb, ltb}
use lib.ListN.{get_or-eq_default, get_or-replicate, replicate}
use native.Mathlib.Omega.{arith}
use borrow.Author.Tests.{eqb-false, eqb-true, ltb-false, ltb-true, ne_eqb, not-false}
use Rattle.rules.proofs.Sim.State.{Keeps, Kept, Shape, Simulated, by, depth_of_lem, other}
use Rattle.rules.proofs.Sim.Base.{Alike, alter, logs_same, rest_alter, shape_thread, sim_alter, thread_stored, threads_8, told_alike}
use Rattle.rules.proofs.Sim.Looks.{alike}
use Rattle.rules.proofs.Sim.OneMore.{depth_closes, depth_opens, opened_closes, opened_opens, read_closes, read_opens}
use Rattle.rules.proofs.Views.{entry_at}
use Rattle.rules.specs.Begin.{deeper}
use Rattle.rules.specs.End.{shallower}
use Rattle.rules.specs.History.{Account, Closes, Cuts, Nothing, Opens, Sets, depth_in, ends_in, has_read_in, lines_in, opened_in, read_in, region_in, uses_in, writes_in}
use Rattle.rules.specs.Refusal.{depth_of, in_range, is_set_up, tests_of}
use Rattle.rules.specs.Step.{apply, setup}
use Rattle.rules.specs.Tables.{Memory, no_entry, no_thread, thread_at, with_cut, with_depth, with_numbers, with_tables, with_thread}
use Rattle.rules.specs.declared.Board.{Board}
use Rattle.rules.specs.declared.Entry.{Entry}
use Rattle.rules.specs.declared.Event.TheVariants.{Cut, Fence, Setup}
use Rattle.rules.specs.declared.Shares.{Shares}
use Rattle.rules.specs.declared.Size.{Size}
use Rattle.rules.specs.declared.Tables.{Tables}
use Rattle.undo.proofs.Laws.{flip, is_same, never, test}
use Rattle.rules.proofs.Tests.{passed, setup_passed}

-- an event that says nothing of regions and lines
pub alike_cut : (es : List Account) → Alike es (Cuts ∷ es)
unfolding opened_in depth_in ends_in writes_in uses_in has_read_in
alike_cut es =
    record { opened = λ t. refl; inside = λ t n. n; outside = λ t n. n; ends = refl; writes = refl; uses = refl; reads = λ t l. refl; looks = λ ks x. other refl x }

pub alike_fence : (t : ℕ) (es : List Account) → Alike es (Nothing ∷ es)
unfolding opened_in depth_in ends_in writes_in uses_in has_read_in
alike_fence t es =
    record { opened = λ t. refl; inside = λ t n. n; outside = λ t n. n; ends = refl; writes = refl; uses = refl; reads = λ t l. refl; looks = λ ks x. other refl x }

pub alike_setup : (l : ℕ) (s : Shares) (es : List Account) → Alike es (Sets l s ∷ es)
unfolding opened_in depth_in ends_in writes_in uses_in has_read_in
alike_setup l s es =
    record { opened = λ t. refl; inside = λ t n. n; outside = λ t n. n; ends = refl; writes = refl; uses = refl; reads = λ t l. refl; looks = λ ks x. other refl x }

-- ---- fence, cut

pub keeps_fence : (t : ℕ) → Keeps (Fence t)
unfolding apply depth_in lines_in
keeps_fence t m b es r k = record { simulated = go k.simulated; rest = k.rest }
  where
    go : Simulated m b es → Simulated m b (Nothing ∷ es)
    go (by s h w i) =
        by s h (alike (alike_fence t es) (λ u. refl) w)
        (sim_alter {b = b} b.tables.size b.tables.cut b.tables.clock b.tables.threads i.shape i.logs
        (told_alike (alike_fence t es) i.told.depth (λ u. refl) i.told.lines refl i.told) i)

pub keeps_cut : Keeps Cut
unfolding apply tests_of depth_in lines_in
keeps_cut m b es r k =
    record {
      simulated = go k.simulated;
      rest = rest_alter {b = b} b.tables.size true b.tables.clock b.tables.threads k.rest;
    }
  where
    set_up : is_set_up b.tables ≡ true
    set_up = not-false (is_set_up b.tables) (passed b.tables Cut r 6)

    go : Simulated m b es → Simulated m (with_tables (with_cut true b.tables) b) (Cuts ∷ es)
    go (by s h w i) =
        let sh : Shape b.tables = i.shape in
        by s h (alike (alike_cut es) (λ t. refl) w)
        (sim_alter {b = b} b.tables.size true b.tables.clock b.tables.threads
        (record { regions = sh.regions; threads = sh.threads; owner = sh.owner; lock = sh.lock; size = sh.size; cut_setup = λ e. set_up })
        (logs_same {b = b} (λ t. refl) refl refl i.logs)
        (told_alike {b = b} (alike_cut es) i.told.depth (λ t. refl) i.told.lines refl i.told) i)

-- ---- setup

abbrev size' : ℕ → ℕ → Shares → Board → Size
size' n l s b = with_numbers n l s b.tables.size

pub keeps_setup : (n l : ℕ) (s : Shares) → Keeps (Setup n l s)
unfolding apply setup tests_of depth_in lines_in
keeps_setup n l shares m b es r k =
    record {
      simulated = go k.simulated;
      rest = rest_alter {b = b} (size' n l shares b) b.tables.cut b.tables.clock b.tables.threads k.rest;
    }
  where
    facts : (in_range n l ≡ true) × (is_set_up b.tables ≡ false)
    facts = setup_passed b.tables n l shares r

    go : Simulated m b es → Simulated m (with_tables (alter (size' n l shares b) b.tables.cut b.tables.clock b.tables.threads b.tables) b) (Sets l shares ∷ es)
    go (by s h w i) =
        let sh : Shape b.tables = i.shape in
        let none' : (t : ℕ) → thread_at t b.tables ≡ no_thread = λ t. sh.threads.range t (rw (sh.size facts.1) (omega arith)) in
        let nothing : (t j : ℕ) → (entry_at t j b.tables).key ≡ 0
        = λ t j. rw (none' t) (test (ltb j 32)
        (λ e. ap {A = Entry} (λ x. x.key) (get_or-replicate 32 j no_entry no_entry (ltb-true j 32 e)))
        (λ e. ap {A = Entry} (λ x. x.key) (get_or-eq_default (replicate 32 no_entry) no_entry (ltb-false j 32 e)))) in
        by s h (alike (alike_setup l shares es) (λ t. refl) w)
        (sim_alter {b = b} (size' n l shares b) b.tables.cut b.tables.clock b.tables.threads
        (record {
          regions = sh.regions;
          threads = record { count = sh.threads.count; logs = sh.threads.logs; range = λ t g. none' t };
          owner = sh.owner;
          lock = sh.lock;
          size = λ e. never facts.0 e;
          cut_setup = λ e. facts.0;
        })
        (record {
          entry = λ t j n. absurd (n (nothing t j));
          empty = i.logs.empty;
          present = i.logs.present;
          once = i.logs.once;
          ranks = i.logs.ranks;
        })
        (told_alike {b = b} (alike_setup l shares es) i.told.depth (λ t. refl) (λ e. refl) refl i.told) i)

-- ---- nested begin and end: a thread gets another depth, and nothing else changes

abbrev deep : ℕ → ℕ → Tables → Tables
deep t d ts = with_thread t (with_depth d (thread_at t ts)) ts

kept_depth : (m : Memory) (b : Board) (es : List Account) (e : Account) (t d : ℕ) → t < b.tables.size.threads → Alike es (e ∷ es)
    → ((k : ℕ) → depth_in k (e ∷ es) ≡ cond (eqb k t) d (depth_in k es)) → lines_in (e ∷ es) ≡ lines_in es → Kept m b es
    → Kept m (with_tables (deep t d b.tables) b) (e ∷ es)
kept_depth m b es e t d lt a f g k =
    record {
      simulated = go k.simulated;
      rest = rest_alter {b = b} b.tables.size b.tables.cut b.tables.clock (deep t d b.tables).threads k.rest;
    }
  where
    go : Simulated m b es → Simulated m (with_tables (deep t d b.tables) b) (e ∷ es)
    go (by s h w i) =
        let at : (k : ℕ) → thread_at k (deep t d b.tables) ≡ cond (eqb k t) (with_depth d (thread_at t b.tables)) (thread_at k b.tables)
        = thread_stored t (with_depth d (thread_at t b.tables)) b.tables (omega (arith, threads_8 b.tables i.shape, i.shape.threads.count)) in
        by s h (alike a (λ k. rw (at k) (test (eqb k t) (λ y. rw (y, eqb-true k t y)) (λ y. rw y))) w)
        (sim_alter {b = b} b.tables.size b.tables.cut b.tables.clock (deep t d b.tables).threads
        (shape_thread t (with_depth d (thread_at t b.tables)) b.tables lt (i.shape.threads.logs t) i.shape)
        (logs_same {b = b} (λ k. rw (at k) (test (eqb k t) (λ y. rw (y, eqb-true k t y)) (λ y. rw y))) refl refl i.logs)
        (told_alike {b = b} a
        (λ k. rw (at k, f k) (test (eqb k t) (λ y. rw y) (λ y. rw y (i.told.depth k))))
        (λ k. rw (at k) (test (eqb k t) (λ y. rw (y, eqb-true k t y)) (λ y. rw y)))
        (λ y. g ∙ i.told.lines y) refl i.told) i)

pub keeps_deeper : (t : ℕ) (m : Memory) (b : Board) (es : List Account) → t < b.tables.size.threads → eqb (depth_of t b.tables) 0 ≡ false
    → Kept m b es → Kept m (with_tables (deeper t b.tables) b) (Opens t ∷ es)
unfolding opened_in depth_in ends_in writes_in uses_in lines_in has_read_in
keeps_deeper t m b es lt n k =
    kept_depth m b es (Opens t) t (depth_of t b.tables + 1) lt
    (record {
      opened = opened';
      inside = λ j p. rw (depth_opens t j es) (test (eqb t j) (λ d. rw d (λ y. omega arith)) (λ d. rw d p));
      outside = λ j p. test (eqb t j) (λ d. outside' j d) (λ d. rw (depth_opens t j es, d) at p);
      ends = refl;
      writes = refl;
      uses = rw z;
      reads = reads';
      looks = λ ks x. other refl x;
    })
    depth' refl k
  where
    z : eqb (depth_in t es) 0 ≡ false
    z = rw (depth_of_lem k.simulated t) at n

    opened' : (j : ℕ) → opened_in j (Opens t ∷ es) ≡ opened_in j es
    opened' j = rw (opened_opens t j es) (test (eqb t j) (λ d. rw (d, ← eqb-true t j d, z)) (λ d. rw d))

    outside' : (j : ℕ) → eqb t j ≡ true → depth_in j es ≢ 0
    outside' j d = rw (← eqb-true t j d) (eqb-false (depth_in t es) 0 z)

    reads' : (j l : ℕ) → read_in j l (Opens t ∷ es) ≡ read_in j l es
    reads' j l =
        rw (read_opens t (region_in j (Opens t ∷ es)) l es, depth_opens t j es, opened' j)
        (test (eqb t j) (λ d. rw (d, ← eqb-true t j d, z, ne_eqb (depth_in t es + 1) 0 (λ q. omega arith))) (λ d. rw d))

    depth' : (j : ℕ) → depth_in j (Opens t ∷ es) ≡ cond (eqb j t) (depth_of t b.tables + 1) (depth_in j es)
    depth' j =
        rw (depth_opens t j es)
        (test (eqb t j)
        (λ d. rw (d, ← eqb-true t j d, is_same t, depth_of_lem k.simulated t))
        (λ d. rw (d, flip t j d)))

pub keeps_shallower : (t : ℕ) (m : Memory) (b : Board) (es : List Account) → t < b.tables.size.threads → eqb (depth_of t b.tables) 0 ≡ false
    → eqb (depth_of t b.tables) 1 ≡ false → Kept m b es → Kept m (with_tables (shallower t b.tables) b) (Closes t ∷ es)
unfolding opened_in depth_in ends_in writes_in uses_in lines_in has_read_in
keeps_shallower t m b es lt n n1 k =
    kept_depth m b es (Closes t) t (depth_of t b.tables - 1) lt
    (record {
      opened = λ j. refl;
      inside = inside';
      outside = λ j p. test (eqb t j) (λ d. outside' j d) (λ d. rw (depth_closes t j es, d) at p);
      ends = rw z1;
      writes = refl;
      uses = refl;
      reads = reads';
      looks = λ ks x. other refl x;
    })
    depth' refl k
  where
    z : eqb (depth_in t es) 0 ≡ false
    z = rw (depth_of_lem k.simulated t) at n

    z1 : eqb (depth_in t es) 1 ≡ false
    z1 = rw (depth_of_lem k.simulated t) at n1

    inside' : (j : ℕ) → depth_in j es ≢ 0 → depth_in j (Closes t ∷ es) ≢ 0
    inside' j p =
        rw (depth_closes t j es)
        (test (eqb t j)
        (λ d. rw (d, ← eqb-true t j d) (λ y. omega (arith, eqb-false (depth_in t es) 0 z, eqb-false (depth_in t es) 1 z1)))
        (λ d. rw d p))

    outside' : (j : ℕ) → eqb t j ≡ true → depth_in j es ≢ 0
    outside' j d = rw (← eqb-true t j d) (eqb-false (depth_in t es) 0 z)

    reads' : (j l : ℕ) → read_in j l (Closes t ∷ es) ≡ read_in j l es
    reads' j l =
        rw (read_closes t (region_in j (Closes t ∷ es)) l es, depth_closes t j es, opened_closes t j es)
        (test (eqb t j)
        (λ d. rw (d, ← eqb-true t j d, z, ne_eqb (depth_in t es - 1) 0 (λ q. omega (arith, eqb-false (depth_in t es) 0 z, eqb-false (depth_in t es) 1 z1))))
        (λ d. rw d))

    depth' : (j : ℕ) → depth_in j (Closes t ∷ es) ≡ cond (eqb j t) (depth_of t b.tables - 1) (depth_in j es)
    depth' j =
        rw (depth_closes t j es)
        (test (eqb t j)
        (λ d. rw (d, ← eqb-true t j d, is_same t, depth_of_lem k.simulated t))
        (λ d. rw (d, flip t j d)))
