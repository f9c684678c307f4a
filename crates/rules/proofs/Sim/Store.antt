-- The change of a line by a region keeps the relation.
use Rattle.undo.specs.Machine as u
use Rattle.undo.specs.History as v
use Prim.Native.Nat.{◌<◌, ℕ}
use mathlib.Core.Path.{◌∙◌, ◌≡◌, refl, sym}
use mathlib.Core.Logic.{◌⊎◌, inl, inr, ⊎_elim}
use mathlib.Core.Bool.{Bool, ◌&&◌, cond, false, true}
use mathlib.Core.List.{List, [], ◌∷◌}
use lib.Dec.{eqb}
use lib.ListN.{get_or, length, length-set, set}
use borrow.Author.Tests.{eqb-false, eqb-true}
use Rattle.rules.proofs.Codec.Bytes.{is_line}
use Rattle.rules.proofs.Lists.{get_or_set}
use Rattle.rules.proofs.Places.{entry_at, key_at, listed_key, listed_stored, region_stored}
use Rattle.rules.proofs.Sim.State.{GoodRegion, Logs, Memories, Shape, Sim, Told}
use Rattle.rules.proofs.Sim.Access.{open_undone, uses_access}
use Rattle.rules.proofs.Sim.Parts.{logs_kept, once_at, owner_stored, part_stored, shape_stored, told_kept}
use Rattle.rules.proofs.SlotLaws.{counted_view}
use Rattle.rules.proofs.SlotWrites.{distinct_written, length_written, state_written, state_written_other}
use Rattle.rules.proofs.Words.{line_set, word_small}
use Rattle.rules.proofs.Views.{carry_of, newest, state_of}
use Rattle.rules.specs.Access.{change_line, stored, stored_in, word_after, wrote_line}
use Rattle.rules.specs.History.{Account, Stores, depth_in, ends_in, last_writer, lines_in, opened_in, region_in, uses_in, writes_in}
use Rattle.rules.specs.Slots.{is_full, renewed, slot_for}
use Rattle.rules.specs.Tables.{is_placed, line_of, listed, owner_of, place_of, region_at, thread_at, with_locks, with_old, with_owners, with_tables, with_threads}
use Rattle.rules.specs.declared.Board.{Board}
use Rattle.rules.specs.declared.Region.{Region}
use Rattle.rules.specs.declared.Thread.{Thread}
use Rattle.undo.proofs.Laws.{and_true, never, test}

-- ---- the line is changed

-- a change that leaves a line a line
abbrev pub KeepsLine : (List ℕ → List ℕ) → Type 0
KeepsLine change = (x : List ℕ) → is_line x ≡ true → is_line (change x) ≡ true

pub word_keeps : (w mask v : ℕ) → KeepsLine (stored_in w mask v)
word_keeps w mask v x k = line_set x w (word_after mask v (get_or x w 0)) (word_small mask v (get_or x w 0)) k

-- the board with other logs, owners, locks and old lines
abbrev pub relogged : List Thread → List ℕ → List Bool → List (List ℕ) → Board → Board
relogged ths ow lo ol b =
    with_old ol (with_tables (with_threads ths (with_owners ow (with_locks lo b.tables))) b)

-- region k's record with its last lines and its slots after a write of line l
abbrev pub slotted : ℕ → ℕ → Board → Region
slotted k l b = wrote_line l (region_at k b.tables.regions)

-- the state of the undo log after a write: chains and locks are as they are given
abbrev pub after : (ℕ → List (u.Entry (List ℕ))) → (ℕ → Bool) → ℕ → ℕ → (List ℕ → List ℕ) → u.State (List ℕ) → u.State (List ℕ)
after ch lk k l change s = u.with_chain ch (u.with_lock lk (u.stored k l change s))

-- what logging leaves for the store of the word
pub record Ready (b : Board) (es : List Account) (s : u.State (List ℕ)) (t l : ℕ) (change : List ℕ → List ℕ) (ths : List Thread) (ow : List ℕ) (lo : List Bool)
    (ol : List (List ℕ)) (ch : ℕ → List (u.Entry (List ℕ))) (lk : ℕ → Bool) : Type 0 where
  pub shape : Shape (relogged ths ow lo ol b).tables
  pub logs : Logs (relogged ths ow lo ol b) (after ch lk (region_in t es) l change s)
  pub depth : (x : ℕ) → (thread_at x (relogged ths ow lo ol b).tables).depth ≡ (thread_at x b.tables).depth
  pub last : (x : ℕ) → (thread_at x (relogged ths ow lo ol b).tables).last ≡ (thread_at x b.tables).last
  pub reads : (x : ℕ) → (thread_at x (relogged ths ow lo ol b).tables).reads ≡ (thread_at x b.tables).reads
  pub old : length ol ≡ 256
  pub old_lines : (x : ℕ) → x < 256 → is_line (line_of x ol) ≡ true
  pub lock : (x : ℕ) → lk x ≡ get_or lo x false
  pub top : (x : ℕ) → newest (ch x) ≡ owner_of x (relogged ths ow lo ol b).tables
  pub owner : (x : ℕ) → get_or ow x 0 ≡ cond (eqb l x) (region_in t es) (last_writer x (writes_in es))
  pub waits : (x q : ℕ) → (after ch lk (region_in t es) l change s).slot x q ≡ u.Waits → newest (ch x) ≡ q

module _ {b : Board} {es : List Account} {s : u.State (List ℕ)} {h : v.History (List ℕ)} (t l : ℕ) (change : List ℕ → List ℕ) (ths : List Thread) (ow : List ℕ) (lo : List Bool)
    (ol : List (List ℕ)) (ch : ℕ → List (u.Entry (List ℕ))) (lk : ℕ → Bool) (i : Sim b es s h) (re : Ready b es s t l change ths ow lo ol ch lk)
    (in' : listed (region_in t es) b.tables.regions ≡ true)
    (room : is_full (slot_for l (region_at (region_in t es) b.tables.regions).slots) ≡ false) (inside : l < 256) (kl : KeepsLine change)
    (op : u.Open s (region_in t es)) where
  -- the region's last lines after the write
  abbrev last : List ℕ
  last = renewed l (region_at (region_in t es) b.tables.regions).recent

  store_told : Told (stored (region_in t es) (slotted (region_in t es) l b) l change (relogged ths ow lo ol b)) (Stores t l change ∷ es)
      (after ch lk (region_in t es) l change s) (v.wrote (region_in t es) l change h)
  unfolding stored depth_in opened_in lines_in ends_in writes_in uses_in last_writer
  store_told =
      told_kept re.depth re.last refl (record { depth = λ t. refl; opened = λ t. refl; lines = refl; ends = refl }) refl refl refl
      (rw i.told.writes) (λ x q d n. uses_access (region_in t es) l i.told x q n d) re.owner i.told

  store_good : GoodRegion (slotted (region_in t es) l b)
  store_good =
      let g : GoodRegion (region_at (region_in t es) b.tables.regions) = i.shape.regions.good (place_of (region_in t es) b.tables.regions) in
      record {
        free = λ e. absurd (eqb-false (region_in t es) 0 (listed_key (region_in t es) b.tables.regions in')
            (sym (key_at (region_in t es) b.tables.regions in') ∙ e));
        deps = g.deps;
        slots = length_written last l (region_at (region_in t es) b.tables.regions).slots ∙ g.slots;
        distinct = distinct_written last (region_at (region_in t es) b.tables.regions).slots l room inside g.distinct;
        finished = λ d. never d (open_undone (region_in t es) i op in');
      }

  store_memories : Memories (stored (region_in t es) (slotted (region_in t es) l b) l change (relogged ths ow lo ol b))
  unfolding stored
  store_memories =
      record {
        cur = length-set b.cur l (change (line_of l b.cur)) ∙ i.memories.cur;
        med = i.memories.med;
        old = re.old;
        car = i.memories.car;
        cur_lines = λ x n. rw (get_or_set b.cur l x (change (line_of l b.cur)) [] within)
            (test (eqb x l)
            (λ d. rw d (kl (line_of l b.cur) (i.memories.cur_lines l inside)))
            (λ d. rw d (i.memories.cur_lines x n)));
        med_lines = i.memories.med_lines;
        old_lines = re.old_lines;
        car_lines = i.memories.car_lines;
      }
    where
      within : l < length b.cur
      within = rw i.memories.cur inside

  store_slot : (x q : ℕ) → (after ch lk (region_in t es) l change s).slot x q
      ≡ carry_of b.car x (state_of x (region_at q (set b.tables.regions (place_of (region_in t es) b.tables.regions) (slotted (region_in t es) l b))).slots)
  store_slot x q =
      rw (region_stored (region_in t es) b.tables.regions (slotted (region_in t es) l b) in' (entry_at (region_in t es) b.tables.regions in') q)
      (test (eqb q (region_in t es))
      (λ d. test (eqb x l)
      (λ f. rw (f, d, eqb-true x l f, state_written last (region_at (region_in t es) b.tables.regions).slots l room))
      (λ f. rw (f, d, eqb-true q (region_in t es) d, state_written_other last (region_at (region_in t es) b.tables.regions).slots l room x f)
      (i.slot x (region_in t es) ∙ sym (counted_view last b.car x (state_of x (region_at (region_in t es) b.tables.regions).slots)))))
      (λ d. test (eqb x l)
      (λ f. rw (f, d, eqb-true x l f) (i.slot l q))
      (λ f. rw (f, d) (i.slot x q))))

  pub store_sim : Sim (stored (region_in t es) (slotted (region_in t es) l b) l change (relogged ths ow lo ol b)) (Stores t l change ∷ es)
      (after ch lk (region_in t es) l change s) (v.wrote (region_in t es) l change h)
  unfolding stored
  store_sim =
      record {
        shape = shape_stored (relogged ths ow lo ol b).tables k r' in' key store_good (once_at k i.shape) re.shape;
        memories = store_memories;
        logs = logs_kept (set b.tables.regions (place_of k b.tables.regions) r') (change_line l change b.cur) b.med b.car refl refl re.logs;
        told = store_told;
        cur = λ x. rw (get_or_set b.cur l x (change (line_of l b.cur)) [] (rw i.memories.cur inside))
            (test (eqb x l) (λ d. rw (d, i.cur l)) (λ d. rw d (i.cur x)));
        med = i.med;
        lock = re.lock;
        slot = store_slot;
        dep = λ a d. i.dep a d ∙ sym (rw (part_stored b.tables k r' in' key (λ x. x.deps) refl a));
        live = λ q. listed_stored k b.tables.regions r' in' key q ∙ i.live q;
        ended = λ q e. part_stored b.tables k r' in' key (λ x. x.ended) refl q ∙ i.ended q (sym (listed_stored k b.tables.regions r' in' key q) ∙ e);
        top = λ x. re.top x ∙ sym (owner_stored (relogged ths ow lo ol b).tables k r' in' key x);
        waits = re.waits;
      }
    where
      k : ℕ
      k = region_in t es

      r' : Region
      r' = slotted (region_in t es) l b

      key : is_placed k r' ≡ true
      key = entry_at k b.tables.regions in'

-- a slot that waits after the write is the one written, or waited before
pub after_waits : (ch : ℕ → List (u.Entry (List ℕ))) (lk : ℕ → Bool) (k l : ℕ) (change : List ℕ → List ℕ) (s : u.State (List ℕ)) (x q : ℕ) → (after ch lk k l change s).slot x q ≡ u.Waits
    → ((eqb x l && eqb q k) ≡ true) ⊎ (s.slot x q ≡ u.Waits)
after_waits ch lk k l change s x q e =
    test (eqb x l)
    (λ d. test (eqb q k) (λ f. inl (rw (d, f))) (λ f. inr (rw (eqb-true x l d) (rw (d, f) at e))))
    (λ d. inr (rw d at e))

-- ---- a write of a line that the region owns

module _ {b : Board} {es : List Account} {s : u.State (List ℕ)} {h : v.History (List ℕ)} (t l : ℕ) (change : List ℕ → List ℕ) (i : Sim b es s h)
    (own : eqb (get_or b.tables.owner l 0) (region_in t es) ≡ true) (top : newest (s.chain l) ≡ region_in t es) where
  pub ready_again : Ready b es s t l change b.tables.threads b.tables.owner b.tables.lock b.log_lines s.chain s.lock
  ready_again =
      record {
        shape = i.shape;
        logs = logs_kept b.tables.regions b.cur b.med b.car refl refl i.logs;
        depth = λ x. refl;
        last = λ x. refl;
        reads = λ x. refl;
        old = i.memories.old;
        old_lines = i.memories.old_lines;
        lock = i.lock;
        top = i.top;
        owner = λ x. test (eqb l x)
            (λ d. rw (d, ← eqb-true l x d) (eqb-true (get_or b.tables.owner l 0) (region_in t es) own))
            (λ d. rw d (i.told.owner x));
        waits = λ x q e. ⊎_elim
            (λ d. let z = and_true (eqb x l) (eqb q (region_in t es)) d in rw (eqb-true x l z.0, eqb-true q (region_in t es) z.1) top)
            (λ d. i.waits x q d) (after_waits s.chain s.lock (region_in t es) l change s x q e);
      }
