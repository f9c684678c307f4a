-- The parts of the relation that an event leaves alone, and the list of regions with one region stored anew.
use Rattle.undo.specs.Machine as u
use Rattle.undo.specs.History as v
use Rattle.undo.specs.Claim as c
use Prim.Native.Nat.{ℕ}
use mathlib.Core.Path.{◌∙◌, ◌≡◌, refl, sym}
use mathlib.Core.Logic.{◌≢◌, ◌⊎◌}
use mathlib.Core.Bool.{◌||◌, false, true}
use mathlib.Core.List.{List, [], ◌∷◌}
use lib.Dec.{eqb}
use lib.ListN.{get_or, set}
use borrow.Author.Tests.{eqb-true}
use Rattle.rules.proofs.Places.{Once, listed_stored, region_stored, regions_stored}
use Rattle.rules.proofs.Sim.State.{GoodRegion, Logs, Shape, Sim, Told, conv}
use Rattle.rules.proofs.Views.{state_of}
use Rattle.rules.specs.History.{Account, depth_in, draws_on, ends_in, last_writer, lines_in, opened_in, region_in, uses_in, writes_in}
use Rattle.rules.specs.Tables.{is_placed, listed, owner_of, place_of, region_at, thread_at, thread_of, with_car, with_cur, with_med, with_regions, with_tables}
use Rattle.rules.specs.declared.Board.{Board}
use Rattle.rules.specs.declared.Region.{Region}
use Rattle.rules.specs.declared.SlotState.TheVariants.{Waiting}
use Rattle.rules.specs.declared.Tables.{Tables}
use Rattle.undo.proofs.Laws.{is_same, never, test}
use Rattle.undo.proofs.Main.{structured}
use Rattle.undo.specs.Claim.{Reach}
use Rattle.rules.proofs.Sim.Base.{shape_kept}
use Rattle.rules.specs.Measures.{ripe_count}
use Rattle.rules.proofs.Recover.Live.{live_listed}

-- between two events no slot that could fly waits
abbrev pub Flown : Board → Type 0
Flown b = (k l c : ℕ) → (eqb c ripe_count || (region_at k b.tables.regions).ended) ≡ true → state_of l (region_at k b.tables.regions).slots ≡ Waiting c
    → get_or b.tables.lock l false ≡ true

-- the board with other regions and other lines in current memory, the medium and the flights
abbrev pub rebuilt : List Region → List (List ℕ) → List (List ℕ) → List (List ℕ) → Board → Board
rebuilt rs cu me ca b = with_tables (with_regions rs b.tables) (with_cur cu (with_med me (with_car ca b)))

-- an event that opens and ends no region
pub record Quiet (es es' : List Account) : Type 0 where
  pub depth : (t : ℕ) → depth_in t es' ≡ depth_in t es
  pub opened : (t : ℕ) → opened_in t es' ≡ opened_in t es
  pub lines : lines_in es' ≡ lines_in es
  pub ends : ends_in es' ≡ ends_in es

pub no_event : (es : List Account) → Quiet es es
no_event es = record { depth = λ t. refl; opened = λ t. refl; lines = refl; ends = refl }

-- depths, numbers and the lives of regions stay; writes, uses and owners are as told
module _ {b b' : Board} {es es' : List Account} {s s' : u.State (List ℕ)} {h h' : v.History (List ℕ)} where
  pub told_kept : ((t : ℕ) → (thread_at t b'.tables).depth ≡ (thread_at t b.tables).depth)
      → ((t : ℕ) → (thread_at t b'.tables).last ≡ (thread_at t b.tables).last) → b'.tables.size ≡ b.tables.size → Quiet es es'
      → s'.born ≡ s.born → s'.over ≡ s.over → h'.ends ≡ h.ends
      → h'.writes ≡ conv (writes_in es')
      → ((k q : ℕ) → draws_on k q (uses_in es') ≡ true → q ≢ 0 → (v.used k q h'.uses ≡ true) ⊎ (s'.done q ≡ true))
      → ((l : ℕ) → get_or b'.tables.owner l 0 ≡ last_writer l (writes_in es'))
      → Told b es s h → Told b' es' s' h'
  told_kept dp la sz q bo ov en wr us ow i =
      record {
        depth = λ t. dp t ∙ i.depth t ∙ sym (q.depth t);
        last = λ t. la t ∙ i.last t ∙ sym (q.opened t);
        numbers = λ t. rw (q.opened t) (i.numbers t);
        lines = λ e. rw (q.lines, sz) (i.lines (rw sz at e));
        born = λ k. rw (bo, q.opened (thread_of k)) (i.born k);
        ends = en ∙ i.ends ∙ sym q.ends;
        writes = wr;
        uses = us;
        open_last = λ k o. rw (q.opened (thread_of k), q.depth (thread_of k))
            (i.open_last k (record { began = rw bo at o.began; goes_on = rw ov at o.goes_on }));
        last_open = λ t n. let o : u.Open s (region_in t es) = i.last_open t (rw (q.depth t) at n) in
            rw (q.opened t) (record { began = rw bo o.began; goes_on = rw ov o.goes_on });
        owner = ow;
      }

-- the log stays
pub logs_kept : {b : Board} {s s' : u.State (List ℕ)} (rs : List Region) (cu me ca : List (List ℕ)) → s'.chain ≡ s.chain → s'.lock ≡ s.lock
    → Logs b s → Logs (rebuilt rs cu me ca b) s'
logs_kept {b} {s} {s'} rs cu me ca ch lo i =
    record {
      entry = λ t j n. let g = i.entry t j n in
          record {
            thread = g.thread;
            line = g.line;
            rank = g.rank;
            old = rw ch g.old;
            flight = rw (ch, lo) g.flight;
          };
      empty = i.empty;
      present = λ k l e. i.present k l (rw ch at e);
      once = i.once;
      ranks = i.ranks;
    }

-- ---- the regions, one of them stored anew

module _ (ts : Tables) (k : ℕ) (r : Region) (in' : listed k ts.regions ≡ true) (e : is_placed k r ≡ true) where
  pub shape_stored : GoodRegion r → Once r.deps → Shape ts → Shape (with_regions (set ts.regions (place_of k ts.regions) r) ts)
  shape_stored g o i = shape_kept ts _ refl refl (regions_stored k ts.regions r in' e g o i.regions) i.threads i.owner i.lock i

  pub owner_stored : (l : ℕ) → owner_of l (with_regions (set ts.regions (place_of k ts.regions) r) ts) ≡ owner_of l ts
  unfolding owner_of
  owner_stored l = rw (listed_stored k ts.regions r in' e (get_or ts.owner l 0))

  -- what is left alone of region k is left alone of each
  pub part_stored : {A : Type 0} (f : Region → A) → f r ≡ f (region_at k ts.regions)
      → (q : ℕ) → f (region_at q (set ts.regions (place_of k ts.regions) r)) ≡ f (region_at q ts.regions)
  part_stored f d q = rw (region_stored k ts.regions r in' e q) (test (eqb q k) (λ g. rw (g, eqb-true q k g) d) (λ g. rw g))

-- a region's dependences are a set
pub once_at : {ts : Tables} (k : ℕ) → Shape ts → Once (region_at k ts.regions).deps
once_at {ts} k i = i.regions.deps_once (place_of k ts.regions)

-- ---- a line's owner

-- a line has no entries and no owner, or its newest entry is its owner's, which is uncommitted
pub data Owner (b : Board) (s : u.State (List ℕ)) (l : ℕ) : Type 0 where
  unowned : s.chain l ≡ [] → owner_of l b.tables ≡ 0 → Owner b s l
  owned : (e : u.Entry (List ℕ)) (c : List (u.Entry (List ℕ))) → s.chain l ≡ e ∷ c → owner_of l b.tables ≡ e.rid → s.born e.rid ≡ true
      → s.done e.rid ≡ false → listed e.rid b.tables.regions ≡ true → Owner b s l

module _ {m : ℕ → List ℕ} {b : Board} {es : List Account} {s : u.State (List ℕ)} {h : v.History (List ℕ)} (rc : Reach m s h) (i : Sim b es s h) where
  pub logged_live : (k l : ℕ) → c.logged k (s.chain l) ≡ true → (s.born k ≡ true) × (s.done k ≡ false)
  logged_live k l e = (structured m s h rc).of_live l k e

  pub open_listed : (k : ℕ) → u.Open s k → listed k b.tables.regions ≡ true
  open_listed k o =
      live_listed rc i k o.began (test (s.done k) (λ d. never ((structured m s h rc).committed k d) o.goes_on) (λ d. d))

  pub owner_is : (l : ℕ) → Owner b s l
  owner_is l = go (s.chain l) refl
    where
      go : (c : List (u.Entry (List ℕ))) → s.chain l ≡ c → Owner b s l
      go [] q = unowned q (sym (i.top l) ∙ rw q)
      go (e ∷ c) q =
          let z = logged_live e.rid l (rw (q, is_same e.rid)) in
          owned e c q (sym (i.top l) ∙ rw q) z.0 z.1 (live_listed rc i e.rid z.0 z.1)
