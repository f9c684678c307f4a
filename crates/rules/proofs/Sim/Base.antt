-- What the proofs of all events share: accepted events have passed their tests, keys, threads, the parts of the relation that an event leaves alone.
use Rattle.undo.specs.Machine as u
use Rattle.undo.specs.History as v
use Rattle.undo.specs.Claim as c
use mathlib.Core.Option as o
use Rattle.undo.proofs.Inv as n
use Prim.Native.Nat.{◌<◌, ◌≤◌, ℕ}
use mathlib.Core.Path.{◌∙◌, ◌≡◌, refl}
use mathlib.Core.Logic.{◌≢◌, ◌⊎◌, inl, inr}
use mathlib.Core.Bool.{Bool, ◌&&◌, cond, true}
use mathlib.Core.List.{List, [], ◌∷◌}
use lib.Dec.{eqb, leb}
use lib.ListN.{get_or, length, length-set, set}
use native.Mathlib.Omega.{arith}
use borrow.Author.Tests.{leb-true, ne_eqb}
use Rattle.rules.proofs.Places.{eqb_swap}
use Rattle.rules.proofs.Lists.{get_or_set}
use Rattle.rules.proofs.Sim.State.{GoodEntry, GoodRegions, GoodThreads, Logs, Looks, Memories, Rest, Shape, Sim, Told, conv}
use Rattle.rules.proofs.Views.{entry_at}
use Rattle.rules.specs.History.{Account, Change, depth_in, ends_in, last_writer, lines_in, opened_in, read_in, uses_in, writes_in}
use Rattle.rules.specs.Refusal.{is_set_up}
use Rattle.rules.specs.Tables.{key_of, no_thread, number_of, owner_of, thread_at, thread_of, with_clock, with_cut, with_size, with_tables, with_thread, with_threads}
use Rattle.rules.specs.declared.Board.{Board}
use Rattle.rules.specs.declared.Entry.{Entry}
use Rattle.rules.specs.declared.Size.{Size}
use Rattle.rules.specs.declared.Tables.{Tables}
use Rattle.rules.specs.declared.Thread.{Thread}
use Rattle.serial.specs.Looks.{Look}
use Rattle.undo.proofs.Inv.{owner}
use Rattle.undo.proofs.Laws.{and_true, is_same, test}
use Rattle.undo.proofs.Steps.{reached}
use Rattle.undo.specs.Claim.{Reach}

-- ---- keys

pub key_thread : (t n : ℕ) → n < 65536 → thread_of (key_of t n) ≡ t
key_thread t n h = omega arith

pub key_number : (t n : ℕ) → n < 65536 → number_of (key_of t n) ≡ n
key_number t n h = omega arith

pub key_split : (k : ℕ) → key_of (thread_of k) (number_of k) ≡ k
key_split k = omega arith

-- ---- threads

-- at most 8 threads
pub threads_8 : (ts : Tables) → Shape ts → ts.size.threads ≤ 8
threads_8 ts sh =
    test (is_set_up ts)
    (λ e. let z = and_true (leb 1 ts.size.threads && leb ts.size.threads 8) (leb 1 ts.size.lines && leb ts.size.lines 256) e in
    leb-true ts.size.threads 8 (and_true (leb 1 ts.size.threads) (leb ts.size.threads 8) z.0).1)
    (λ e. rw (sh.size e) (omega arith))

-- at most 256 lines once set up
pub lines_256 : (ts : Tables) → is_set_up ts ≡ true → ts.size.lines ≤ 256
lines_256 ts e =
    let z = and_true (leb 1 ts.size.threads && leb ts.size.threads 8) (leb 1 ts.size.lines && leb ts.size.lines 256) e in
    leb-true ts.size.lines 256 (and_true (leb 1 ts.size.lines) (leb ts.size.lines 256) z.1).1

pub thread_stored : (t : ℕ) (th : Thread) (ts : Tables) → t < length ts.threads → (k : ℕ) → thread_at k (with_thread t th ts) ≡ cond (eqb k t) th (thread_at k ts)
thread_stored t th ts h k = get_or_set ts.threads t k th no_thread h

-- ---- the tables with other sizes, clock and threads

abbrev pub alter : Size → Bool → ℕ → List Thread → Tables → Tables
alter z c n ths ts = with_size z (with_cut c (with_clock n (with_threads ths ts)))

pub memories_same : {b : Board} (ts : Tables) → Memories b → Memories (with_tables ts b)
memories_same ts m =
    record {
      cur = m.cur;
      med = m.med;
      old = m.old;
      car = m.car;
      cur_lines = m.cur_lines;
      med_lines = m.med_lines;
      old_lines = m.old_lines;
      car_lines = m.car_lines;
    }

-- the log is as it was
pub logs_same : {b b' : Board} {s : u.State (List ℕ)} → ((t : ℕ) → (thread_at t b'.tables).log ≡ (thread_at t b.tables).log) → b'.log_lines ≡ b.log_lines
    → b'.tables.size.lines ≡ b.tables.size.lines → Logs b s → Logs b' s
logs_same {b} {b'} {s} f o z g =
    record {
      entry = λ t i n. rw (f t) (good t i (entry_at t i b.tables) (g.entry t i (rw (f t) at n)));
      empty = λ t i e. rw (f t) (g.empty t i (rw (f t) at e));
      present = λ k l e. rw (f (thread_of k)) (g.present k l e);
      once = λ t i j n e d. g.once t i j (rw (f t) at n) (rw (f t) at e) (rw (f t) at d);
      ranks = λ t i j n e d. g.ranks t i j (rw (f t) at n) (rw (f t) at e) (rw (f t) at d);
    }
  where
    good : (t i : ℕ) (e : Entry) → GoodEntry b s t i e → GoodEntry b' s t i e
    good t i e x =
        record { thread = x.thread; line = rw z x.line; rank = rw (f t) x.rank; old = rw o x.old; flight = x.flight }

-- thread t, which is in use, is stored anew
pub threads_stored : (t : ℕ) (th : Thread) (ts : Tables) → t < ts.size.threads → length th.log ≡ 32 → Shape ts
    → GoodThreads ts.size.threads (set ts.threads t th)
threads_stored t th ts h e sh =
    record {
      count = length-set ts.threads t th ∙ sh.threads.count;
      logs = λ k. rw (at k) (test (eqb k t) (λ d. rw d e) (λ d. rw d (sh.threads.logs k)));
      range = λ k g. rw (at k, ne_eqb k t (λ q. omega arith)) (sh.threads.range k g);
    }
  where
    at : (k : ℕ) → thread_at k (with_thread t th ts) ≡ cond (eqb k t) th (thread_at k ts)
    at = thread_stored t th ts (omega (arith, threads_8 ts sh, sh.threads.count))

-- the tables after an event that is neither setup nor cut: what its regions, threads, owners and locks are to be
pub shape_kept : (ts ts' : Tables) → ts'.size ≡ ts.size → ts'.cut ≡ ts.cut → GoodRegions ts'.regions → GoodThreads ts.size.threads ts'.threads
    → length ts'.owner ≡ 256 → length ts'.lock ≡ 256 → Shape ts → Shape ts'
shape_kept ts ts' z c rs ths ow lo sh =
    record {
      regions = rs;
      threads = rw z ths;
      owner = ow;
      lock = lo;
      size = rw z sh.size;
      cut_setup = rw (z, c) sh.cut_setup;
    }

pub shape_thread : (t : ℕ) (th : Thread) (ts : Tables) → t < ts.size.threads → length th.log ≡ 32 → Shape ts → Shape (with_thread t th ts)
shape_thread t th ts h e sh = shape_kept ts _ refl refl sh.regions (threads_stored t th ts h e sh) sh.owner sh.lock sh

-- ---- the history

-- one event more that opens no region, ends none, reads and writes nothing
pub record Alike (es es' : List Account) : Type 0 where
  pub opened : (t : ℕ) → opened_in t es' ≡ opened_in t es
  pub inside : (t : ℕ) → depth_in t es ≢ 0 → depth_in t es' ≢ 0
  pub outside : (t : ℕ) → depth_in t es' ≢ 0 → depth_in t es ≢ 0
  pub ends : ends_in es' ≡ ends_in es
  pub writes : writes_in es' ≡ writes_in es
  pub uses : uses_in es' ≡ uses_in es
  pub reads : (t l : ℕ) → read_in t l es' ≡ read_in t l es
  pub looks : (ks : List (Look (List ℕ))) → Looks es ks → Looks es' ks

-- no event
pub no_change : (es : List Account) → Alike es es
no_change es =
    record { opened = λ t. refl; inside = λ t n. n; outside = λ t n. n; ends = refl; writes = refl; uses = refl; reads = λ t l. refl; looks = λ ks x. x }

pub told_alike : {b b' : Board} {es es' : List Account} {s : u.State (List ℕ)} {h : v.History (List ℕ)} → Alike es es'
    → ((t : ℕ) → (thread_at t b'.tables).depth ≡ depth_in t es') → ((t : ℕ) → (thread_at t b'.tables).last ≡ (thread_at t b.tables).last)
    → (is_set_up b'.tables ≡ true → lines_in es' ≡ b'.tables.size.lines) → b'.tables.owner ≡ b.tables.owner → Told b es s h → Told b' es' s h
told_alike {b} {b'} {es} {es'} {s} {h} a f g n o i =
    record {
      depth = f;
      last = λ t. rw (g t, a.opened t) (i.last t);
      numbers = λ t. rw (a.opened t) (i.numbers t);
      lines = n;
      born = λ k. rw (a.opened (thread_of k)) (i.born k);
      ends = rw a.ends i.ends;
      writes = rw a.writes i.writes;
      uses = λ k q d. i.uses k q (rw a.uses at d);
      open_last = λ k p. let z = i.open_last k p in (rw (a.opened (thread_of k)) z.0, a.inside (thread_of k) z.1);
      last_open = λ t p. rw (a.opened t) (i.last_open t (a.outside t p));
      owner = λ l. rw (o, a.writes) (i.owner l);
    }

-- ---- the relation when regions, owners and locks stay

pub sim_alter : {b : Board} {es es' : List Account} {s : u.State (List ℕ)} {h : v.History (List ℕ)} (z : Size) (c : Bool) (n : ℕ) (ths : List Thread)
    → Shape (alter z c n ths b.tables) → Logs (with_tables (alter z c n ths b.tables) b) s → Told (with_tables (alter z c n ths b.tables) b) es' s h
    → Sim b es s h → Sim (with_tables (alter z c n ths b.tables) b) es' s h
unfolding owner_of
sim_alter {b} z c n ths sh lg tl i =
    record {
      shape = sh;
      memories = memories_same (alter z c n ths b.tables) i.memories;
      logs = lg;
      told = tl;
      cur = i.cur;
      med = i.med;
      lock = i.lock;
      slot = i.slot;
      dep = i.dep;
      live = i.live;
      ended = i.ended;
      top = i.top;
      waits = i.waits;
    }

pub rest_alter : {b : Board} (z : Size) (c : Bool) (n : ℕ) (ths : List Thread) → Rest b → Rest (with_tables (alter z c n ths b.tables) b)
rest_alter z c n ths r = record { flown = r.flown; finished = r.finished; settled = r.settled }

-- ---- a line's last writer, in both histories

abbrev pub or_zero : o.Option ℕ → ℕ
or_zero o.none = 0
or_zero (o.some k) = k

pub writer_same : (l : ℕ) (ws : List Change) → last_writer l ws ≡ or_zero (v.last_writer l (conv ws))
unfolding last_writer
writer_same l [] = refl
writer_same l (w ∷ ws) =
    let ih = writer_same l ws in
    test (eqb l w.line) (λ d. rw (d, eqb_swap w.line l, d)) (λ d. rw (d, eqb_swap w.line l, d) ih)

module _ {m : ℕ → List ℕ} {b : Board} {es : List Account} {s : u.State (List ℕ)} {h : v.History (List ℕ)} (rc : Reach m s h) (i : Sim b es s h) where
  -- a line's owner has begun, if it has one
  pub owner_born : (l : ℕ) → (get_or b.tables.owner l 0 ≡ 0) ⊎ (s.born (get_or b.tables.owner l 0) ≡ true)
  owner_born l = rw (i.told.owner l, writer_same l (writes_in es), ← i.told.writes) (go ((reached rc).last l) (λ r e. ((reached rc).listed l r e).0))
    where
      go : {w : o.Option ℕ} {es : List (u.Entry (List ℕ))} → n.Last s.done w es → ((r : ℕ) → c.logged r es ≡ true → s.born r ≡ true)
          → (or_zero w ≡ 0) ⊎ (s.born (or_zero w) ≡ true)
      go n.unwritten f = inl refl
      go (n.safe {q = q} d) f = inr ((reached rc).begun q ((reached rc).commits q d))
      go (n.owner {q = q} {e = e} e') f = inr (f q (rw (e', is_same e.rid)))

-- the log of a state with the same chains and locks
pub logs_over : {b : Board} {s s' : u.State (List ℕ)} → ((l : ℕ) → s'.chain l ≡ s.chain l) → ((l : ℕ) → s'.lock l ≡ s.lock l) → Logs b s → Logs b s'
logs_over {b} {s} {s'} f g lg =
    record {
      entry = λ t i n. good t i (entry_at t i b.tables) (lg.entry t i n);
      empty = lg.empty;
      present = λ k l e. lg.present k l (rw (f l) at e);
      once = lg.once;
      ranks = lg.ranks;
    }
  where
    good : (t i : ℕ) (e : Entry) → GoodEntry b s t i e → GoodEntry b s' t i e
    good t i e x =
        record {
          thread = x.thread;
          line = x.line;
          rank = x.rank;
          old = rw (f e.line) x.old;
          flight = rw (f e.line, g e.line) x.flight;
        }

-- a slot that is clear does not wait
pub clear_waits : ◌≡◌ {A = u.Carry (List ℕ)} u.Clear u.Waits → ⊥
clear_waits e = let z : ◌≡◌ {A = ℕ} 0 1 = cc in omega arith
