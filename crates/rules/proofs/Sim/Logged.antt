-- The log entry of a line that a region has not logged yet.
use Rattle.undo.specs.Machine as u
use Rattle.undo.specs.History as v
use Rattle.undo.specs.Claim as c
use Prim.Native.Nat.{◌*◌, ◌+◌, ◌<◌, ◌≤◌, ℕ}
use mathlib.Core.Path.{◌∙◌, ◌≡◌, ap, refl, sym}
use mathlib.Core.Logic.{◌≢◌, ⊎_elim}
use mathlib.Core.Bool.{Bool, ◌&&◌, cond, false, not, true}
use mathlib.Core.List.{List, [], ◌∷◌}
use lib.Dec.{eqb, ltb}
use lib.ListN.{get_or-eq_default, get_or, length, length-set, set}
use native.Mathlib.Omega.{arith}
use borrow.Author.Tests.{eq-eqb, eqb-false, eqb-true, ltb-false, ltb-true, ne_eqb}
use lib.Seq.{get_or-set_other, get_or-set_same}
use Rattle.rules.proofs.Lists.{any_put, any_set, count_put, count_set, get_or_set, place_lt, place_true}
use Rattle.rules.proofs.Places.{eqb_swap, listed_key}
use Rattle.rules.proofs.Sim.State.{GoodEntry, Logs, Shape, Sim}
use Rattle.rules.proofs.Sim.Base.{key_thread, lines_256, shape_kept, threads_8, threads_stored}
use Rattle.rules.proofs.Views.{entry_at}
use Rattle.rules.specs.Access.{free_entry, fresh_entry, is_of}
use Rattle.rules.specs.Acknowledge.{is_entry}
use Rattle.rules.specs.History.{Account, opened_in, region_in}
use Rattle.rules.specs.Lists.{count}
use Rattle.rules.specs.Refusal.{is_set_up}
use Rattle.rules.specs.Tables.{line_of, listed, no_entry, no_thread, owner_of, thread_at, thread_of, with_log}
use Rattle.rules.specs.declared.Board.{Board}
use Rattle.rules.specs.declared.Entry.{Entry}
use Rattle.rules.specs.declared.Tables.{Tables}
use Rattle.rules.specs.declared.Thread.{Thread}
use Rattle.undo.proofs.Laws.{and_true, cons_nil, flip, is_same, never, or_true, test}
use Rattle.undo.specs.Recovery.{olds}
use Rattle.undo.specs.Table.{any, put}
use Rattle.rules.proofs.Sim.Store.{Ready, after, after_waits, relogged}

-- ---- a write of a line that the region has to log

abbrev pub logged_threads : ℕ → ℕ → ℕ → Tables → List Thread
logged_threads t k l ts =
    set ts.threads t (with_log (set (thread_at t ts).log (free_entry t ts) (fresh_entry t k l ts)) (thread_at t ts))

abbrev pub logged_old : ℕ → ℕ → Board → List (List ℕ)
logged_old t l b = set b.log_lines (32 * t + free_entry t b.tables) (line_of l b.cur)

-- the board with the line logged
abbrev new_log : ℕ → ℕ → ℕ → Board → Board
new_log t k l b = relogged (logged_threads t k l b.tables) (set b.tables.owner l k) (set b.tables.lock l true) (logged_old t l b) b

abbrev pub chain_of : ℕ → ℕ → u.State (List ℕ) → ℕ → List (u.Entry (List ℕ))
chain_of k l s = put l (record { rid = k; old = s.cur l } ∷ s.chain l) s.chain

abbrev pub lock_of : ℕ → u.State (List ℕ) → ℕ → Bool
lock_of l s = put l true s.lock

-- the log with one entry more, at a free place
module _ (t k l : ℕ) (b : Board) (in_t : t < length b.tables.threads) (room : any (is_of 0) (thread_at t b.tables).log ≡ true)
    (nz : eqb k 0 ≡ false) where
  free_key : (entry_at t (free_entry t b.tables) b.tables).key ≡ 0
  free_key = eqb-true (entry_at t (free_entry t b.tables) b.tables).key 0 (place_true (is_of 0) (thread_at t b.tables).log no_entry room)

  free_lt : free_entry t b.tables < length (thread_at t b.tables).log
  free_lt = place_lt (is_of 0) (thread_at t b.tables).log room

  thread_logged : (x : ℕ) → thread_at x (new_log t k l b).tables
      ≡ cond (eqb x t) (with_log (set (thread_at t b.tables).log (free_entry t b.tables) (fresh_entry t k l b.tables)) (thread_at t b.tables)) (thread_at x b.tables)
  thread_logged x = get_or_set b.tables.threads t x _ no_thread in_t

  entry_logged : (x j : ℕ) → entry_at x j (new_log t k l b).tables ≡ cond (eqb x t && eqb j (free_entry t b.tables)) (fresh_entry t k l b.tables) (entry_at x j b.tables)
  entry_logged x j =
      rw (thread_logged x)
      (test (eqb x t)
      (λ d. rw (d, eqb-true x t d) (get_or_set (thread_at t b.tables).log (free_entry t b.tables) j (fresh_entry t k l b.tables) no_entry free_lt))
      (λ d. rw d))

  count_logged : (x q : ℕ) → eqb q 0 ≡ false → count (is_of q) (thread_at x b.tables).log ≤ count (is_of q) (thread_at x (new_log t k l b).tables).log
  count_logged x q z =
      rw (thread_logged x)
      (test (eqb x t)
      (λ d. rw (d, eqb-true x t d)
      (test (eqb k q)
      (λ e. rw (count_put (is_of q) (thread_at t b.tables).log (free_entry t b.tables) (fresh_entry t k l b.tables) no_entry free_lt e (rw free_key (flip q 0 z)))
      (omega arith))
      (λ e. rw (count_set (is_of q) (thread_at t b.tables).log (free_entry t b.tables) (fresh_entry t k l b.tables) no_entry (rw (free_key, e, flip q 0 z)))
      (omega arith))))
      (λ d. rw d (omega arith)))

  count_new : count (is_of k) (thread_at t b.tables).log < count (is_of k) (thread_at t (new_log t k l b).tables).log
  count_new =
      rw (thread_logged t, is_same t, count_put (is_of k) (thread_at t b.tables).log (free_entry t b.tables) (fresh_entry t k l b.tables) no_entry free_lt (is_same k) (rw free_key (flip k 0 nz)))
      (omega arith)

  any_logged : (x q z : ℕ) → eqb q 0 ≡ false → any (is_entry q z) (thread_at x b.tables).log ≡ true → any (is_entry q z) (thread_at x (new_log t k l b).tables).log ≡ true
  any_logged x q z nq e =
      rw (thread_logged x)
      (test (eqb x t)
      (λ d. rw (d)
      (test (is_entry q z (fresh_entry t k l b.tables))
      (λ f. any_put (is_entry q z) (thread_at t b.tables).log (free_entry t b.tables) (fresh_entry t k l b.tables) free_lt f)
      (λ f. any_set (is_entry q z) (thread_at t b.tables).log (free_entry t b.tables) (fresh_entry t k l b.tables) no_entry (rw (f, free_key, flip q 0 nq))
      ∙ (rw (eqb-true x t d) at e))))
      (λ d. rw d e))

pub no_length : {A : Type 0} (xs : List A) → length xs ≤ 0 → xs ≡ []
no_length [] e = refl
no_length (x ∷ xs) e = absurd (omega arith)

module _ {b : Board} {es : List Account} {s : u.State (List ℕ)} {h : v.History (List ℕ)} (t l : ℕ) (change : List ℕ → List ℕ) (i : Sim b es s h)
    (in' : listed (region_in t es) b.tables.regions ≡ true) (unl : get_or b.tables.lock l false ≡ false)
    (room : any (is_of 0) (thread_at t b.tables).log ≡ true) (setup : is_set_up b.tables ≡ true) (in_t : t < b.tables.size.threads)
    (in_l : l < b.tables.size.lines) (new : olds (eqb (region_in t es)) (s.chain l) ≡ []) (lives : (q x : ℕ) → c.logged q (s.chain x) ≡ true → eqb q 0 ≡ false)
    (calm : (q : ℕ) → s.slot l q ≡ u.Waits → ⊥) where
  inside_thread : t < length b.tables.threads
  inside_thread = omega (arith, threads_8 b.tables i.shape, i.shape.threads.count)

  inside_line : l < 256
  inside_line = omega (arith, lines_256 b.tables setup)

  key_nz : eqb (region_in t es) 0 ≡ false
  key_nz = listed_key (region_in t es) b.tables.regions in'

  free_32 : free_entry t b.tables < 32
  free_32 = rw (i.shape.threads.logs t) at (free_lt t (region_in t es) l b inside_thread room key_nz)

  -- a place of the log that is not free is another one
  not_free : (x j : ℕ) → (entry_at x j b.tables).key ≢ 0 → (eqb x t && eqb j (free_entry t b.tables)) ≡ false
  not_free x j n =
      test (eqb x t && eqb j (free_entry t b.tables))
      (λ d. let z = and_true (eqb x t) (eqb j (free_entry t b.tables)) d in
      absurd (n (rw (eqb-true x t z.0, eqb-true j (free_entry t b.tables) z.1) (free_key t (region_in t es) l b inside_thread room key_nz))))
      (λ d. d)

  entry_32 : (x j : ℕ) → (entry_at x j b.tables).key ≢ 0 → j < 32
  entry_32 x j n =
      test (ltb j 32) (λ d. ltb-true j 32 d)
      (λ d. let z : 32 ≤ j = ltb-false j 32 d in
      absurd (n (ap {A = Entry} (λ e. e.key) (get_or-eq_default (thread_at x b.tables).log no_entry (rw (i.shape.threads.logs x) z)))))

  -- an entry's region is not the one that logs its line now
  other_key : (x j : ℕ) → (entry_at x j b.tables).key ≢ 0 → (entry_at x j b.tables).line ≡ l → eqb (entry_at x j b.tables).key (region_in t es) ≡ false
  other_key x j n e =
      test (eqb (entry_at x j b.tables).key (region_in t es))
      (λ d. absurd (cons_nil (sym (i.logs.entry x j n).old ∙ rw (e, eqb-true (entry_at x j b.tables).key (region_in t es) d) new)))
      (λ d. d)

  good_fresh : GoodEntry (new_log t (region_in t es) l b) (after (chain_of (region_in t es) l s) (lock_of l s) (region_in t es) l change s) t (free_entry t b.tables)
      (fresh_entry t (region_in t es) l b.tables)
  good_fresh =
      record {
        thread = key_thread t (opened_in t es) (omega (arith, i.told.numbers t));
        line = in_l;
        rank = count_new t (region_in t es) l b inside_thread room key_nz;
        old = rw (is_same l, is_same (region_in t es), new, get_or-set_same b.log_lines (32 * t + free_entry t b.tables) (line_of l b.cur) [] place_256) (ap (λ z. z ∷ []) (i.cur l));
        flight = rw (is_same l, is_same (region_in t es));
      }
    where
      place_256 : 32 * t + free_entry t b.tables < length b.log_lines
      place_256 = omega (arith, i.memories.old, free_32, threads_8 b.tables i.shape)

  good_older : (x j : ℕ) → (entry_at x j b.tables).key ≢ 0
      → GoodEntry (new_log t (region_in t es) l b) (after (chain_of (region_in t es) l s) (lock_of l s) (region_in t es) l change s) x j (entry_at x j b.tables)
  good_older x j n =
      let g = i.logs.entry x j n in
      record {
        thread = g.thread;
        line = g.line;
        rank = omega (arith, g.rank, count_logged t (region_in t es) l b inside_thread room key_nz x (entry_at x j b.tables).key (ne_eqb (entry_at x j b.tables).key 0 n));
        old = rw (get_or-set_other b.log_lines (32 * t + free_entry t b.tables) (32 * x + j) (line_of l b.cur) [] apart) (old g.old);
        flight = flight g.flight;
      }
    where
      apart : 32 * x + j ≢ 32 * t + free_entry t b.tables
      apart q =
          let a : j < 32 = entry_32 x j n in
          let f : free_entry t b.tables < 32 = free_32 in
          let z : x ≡ t = omega arith in
          let z' : j ≡ free_entry t b.tables = omega arith in
          never (rw (eq-eqb x t z, eq-eqb j (free_entry t b.tables) z')) (not_free x j n)

      old : olds (eqb (entry_at x j b.tables).key) (s.chain (entry_at x j b.tables).line) ≡ line_of (32 * x + j) b.log_lines ∷ []
          → olds (eqb (entry_at x j b.tables).key) (chain_of (region_in t es) l s (entry_at x j b.tables).line) ≡ line_of (32 * x + j) b.log_lines ∷ []
      old e =
          test (eqb (entry_at x j b.tables).line l)
          (λ d. let q : (entry_at x j b.tables).line ≡ l = eqb-true (entry_at x j b.tables).line l d in
          let p : olds (eqb (entry_at x j b.tables).key) (s.chain l) ≡ line_of (32 * x + j) b.log_lines ∷ [] = rw (← q) e in
          rw (d, other_key x j n q) p)
          (λ d. rw d e)

      flight : (entry_at x j b.tables).persistent
          ≡ not (s.lock (entry_at x j b.tables).line && u.owns (entry_at x j b.tables).key (s.chain (entry_at x j b.tables).line))
          → (entry_at x j b.tables).persistent
          ≡ not (lock_of l s (entry_at x j b.tables).line && u.owns (entry_at x j b.tables).key (chain_of (region_in t es) l s (entry_at x j b.tables).line))
      flight e =
          test (eqb (entry_at x j b.tables).line l)
          (λ d. let q : (entry_at x j b.tables).line ≡ l = eqb-true (entry_at x j b.tables).line l d in
          let o : s.lock (entry_at x j b.tables).line ≡ false = rw q (i.lock l ∙ unl) in
          rw (d, other_key x j n q) (e ∙ rw o))
          (λ d. rw d e)

  logs_first : Logs (new_log t (region_in t es) l b) (after (chain_of (region_in t es) l s) (lock_of l s) (region_in t es) l change s)
  logs_first =
      record {
        entry = λ x j n. test (eqb x t && eqb j (free_entry t b.tables))
            (λ d. let z = and_true (eqb x t) (eqb j (free_entry t b.tables)) d in
            rw (at x j, d) (rw (eqb-true x t z.0, eqb-true j (free_entry t b.tables) z.1) good_fresh))
            (λ d. rw (at x j, d) (good_older x j (rw (at x j, d) at n)));
        empty = λ x j e. test (eqb x t && eqb j (free_entry t b.tables))
            (λ d. absurd (eqb-false (region_in t es) 0 key_nz (rw (at x j, d) at e)))
            (λ d. rw (at x j, d) (i.logs.empty x j (rw (at x j, d) at e)));
        present = present;
        once = λ x j j' n e d. once x j j' n e d;
        ranks = λ x j j' n e d. ranks x j j' n e d;
      }
    where
      at : (x j : ℕ) → entry_at x j (new_log t (region_in t es) l b).tables
          ≡ cond (eqb x t && eqb j (free_entry t b.tables)) (fresh_entry t (region_in t es) l b.tables) (entry_at x j b.tables)
      at = entry_logged t (region_in t es) l b inside_thread room key_nz

      before : (q x : ℕ) → c.logged q (s.chain x) ≡ true → any (is_entry q x) (thread_at (thread_of q) (new_log t (region_in t es) l b).tables).log ≡ true
      before q x e = any_logged t (region_in t es) l b inside_thread room key_nz (thread_of q) q x (lives q x e) (i.logs.present q x e)

      present : (q x : ℕ) → c.logged q (chain_of (region_in t es) l s x) ≡ true
          → any (is_entry q x) (thread_at (thread_of q) (new_log t (region_in t es) l b).tables).log ≡ true
      present q x e =
          test (eqb x l)
          (λ d. ⊎_elim
          (λ z. rw (
            eqb-true q (region_in t es) z,
            eqb-true x l d,
            key_thread t (opened_in t es) (omega (arith, i.told.numbers t)),
            thread_logged t (region_in t es) l b inside_thread room key_nz t,
            is_same t,
          )
          (any_put (is_entry (region_in t es) l) (thread_at t b.tables).log (free_entry t b.tables) (fresh_entry t (region_in t es) l b.tables)
          (free_lt t (region_in t es) l b inside_thread room key_nz) (rw (is_same (region_in t es), is_same l))))
          (λ z. before q x (rw (eqb-true x l d) z))
          (or_true (eqb q (region_in t es)) (c.logged q (s.chain l)) (rw d at e)))
          (λ d. before q x (rw d at e))

      both : (x j j' : ℕ) → (eqb x t && eqb j (free_entry t b.tables)) ≡ true → (eqb x t && eqb j' (free_entry t b.tables)) ≡ true → j ≡ j'
      both x j j' p q =
          eqb-true j (free_entry t b.tables) (and_true (eqb x t) (eqb j (free_entry t b.tables)) p).1
          ∙ sym (eqb-true j' (free_entry t b.tables) (and_true (eqb x t) (eqb j' (free_entry t b.tables)) q).1)

      held : (x j : ℕ) → (entry_at x j b.tables).key ≡ region_in t es → (entry_at x j b.tables).key ≢ 0
      held x j e z = eqb-false (region_in t es) 0 key_nz (sym e ∙ z)

      twice : (x j : ℕ) → (entry_at x j b.tables).key ≡ region_in t es → (entry_at x j b.tables).line ≡ l → ⊥
      twice x j e d = eqb-false (entry_at x j b.tables).key (region_in t es) (other_key x j (held x j e) d) e

      once : (x j j' : ℕ) → (entry_at x j (new_log t (region_in t es) l b).tables).key ≢ 0
          → (entry_at x j (new_log t (region_in t es) l b).tables).key ≡ (entry_at x j' (new_log t (region_in t es) l b).tables).key
          → (entry_at x j (new_log t (region_in t es) l b).tables).line ≡ (entry_at x j' (new_log t (region_in t es) l b).tables).line → j ≡ j'
      once x j j' n e d =
          test (eqb x t && eqb j (free_entry t b.tables))
          (λ p. test (eqb x t && eqb j' (free_entry t b.tables))
          (λ q. both x j j' p q)
          (λ q. absurd (twice x j' (sym (rw (at x j, at x j', p, q) at e)) (sym (rw (at x j, at x j', p, q) at d)))))
          (λ p. test (eqb x t && eqb j' (free_entry t b.tables))
          (λ q. absurd (twice x j (rw (at x j, at x j', p, q) at e) (rw (at x j, at x j', p, q) at d)))
          (λ q. i.logs.once x j j' (rw (at x j, p) at n) (rw (at x j, at x j', p, q) at e) (rw (at x j, at x j', p, q) at d)))

      -- the new entry's rank is above those of its region
      fewer : (x j : ℕ) → eqb x t ≡ true → (entry_at x j b.tables).key ≡ region_in t es
          → (entry_at x j b.tables).rank ≡ count (is_of (region_in t es)) (thread_at t b.tables).log → ⊥
      fewer x j xt e d =
          let z : (entry_at x j b.tables).rank < count (is_of (entry_at x j b.tables).key) (thread_at x b.tables).log = (i.logs.entry x j (held x j e)).rank in
          let z' : count (is_of (entry_at x j b.tables).key) (thread_at x b.tables).log ≡ count (is_of (region_in t es)) (thread_at t b.tables).log
          = ap (λ q. count (is_of q) (thread_at x b.tables).log) e ∙ ap (λ q. count (is_of (region_in t es)) (thread_at q b.tables).log) (eqb-true x t xt) in
          omega arith

      ranks : (x j j' : ℕ) → (entry_at x j (new_log t (region_in t es) l b).tables).key ≢ 0
          → (entry_at x j (new_log t (region_in t es) l b).tables).key ≡ (entry_at x j' (new_log t (region_in t es) l b).tables).key
          → (entry_at x j (new_log t (region_in t es) l b).tables).rank ≡ (entry_at x j' (new_log t (region_in t es) l b).tables).rank → j ≡ j'
      ranks x j j' n e d =
          test (eqb x t && eqb j (free_entry t b.tables))
          (λ p. test (eqb x t && eqb j' (free_entry t b.tables))
          (λ q. both x j j' p q)
          (λ q. absurd (fewer x j' (and_true (eqb x t) (eqb j (free_entry t b.tables)) p).0
          (sym (rw (at x j, at x j', p, q) at e)) (sym (rw (at x j, at x j', p, q) at d)))))
          (λ p. test (eqb x t && eqb j' (free_entry t b.tables))
          (λ q. absurd (fewer x j (and_true (eqb x t) (eqb j' (free_entry t b.tables)) q).0
          (rw (at x j, at x j', p, q) at e) (rw (at x j, at x j', p, q) at d)))
          (λ q. i.logs.ranks x j j' (rw (at x j, p) at n) (rw (at x j, at x j', p, q) at e) (rw (at x j, at x j', p, q) at d)))

  shape_first : Shape (new_log t (region_in t es) l b).tables
  shape_first =
      shape_kept b.tables _ refl refl i.shape.regions
      (threads_stored t _ b.tables in_t
      (length-set (thread_at t b.tables).log (free_entry t b.tables) (fresh_entry t (region_in t es) l b.tables) ∙ i.shape.threads.logs t) i.shape)
      (length-set b.tables.owner l (region_in t es) ∙ i.shape.owner) (length-set b.tables.lock l true ∙ i.shape.lock) i.shape

  pub ready_first : Ready b es s t l change (logged_threads t (region_in t es) l b.tables) (set b.tables.owner l (region_in t es)) (set b.tables.lock l true)
      (logged_old t l b) (chain_of (region_in t es) l s) (lock_of l s)
  unfolding owner_of
  ready_first =
      record {
        shape = shape_first;
        logs = logs_first;
        depth = λ x. rw (thread_logged t (region_in t es) l b inside_thread room key_nz x) (test (eqb x t) (λ d. rw (d, eqb-true x t d)) (λ d. rw d));
        last = λ x. rw (thread_logged t (region_in t es) l b inside_thread room key_nz x) (test (eqb x t) (λ d. rw (d, eqb-true x t d)) (λ d. rw d));
        reads = λ x. rw (thread_logged t (region_in t es) l b inside_thread room key_nz x) (test (eqb x t) (λ d. rw (d, eqb-true x t d)) (λ d. rw d));
        old = length-set b.log_lines (32 * t + free_entry t b.tables) (line_of l b.cur) ∙ i.memories.old;
        old_lines = λ x n. rw (get_or_set b.log_lines (32 * t + free_entry t b.tables) x (line_of l b.cur) [] place_256)
            (test (eqb x (32 * t + free_entry t b.tables)) (λ d. rw d (i.memories.cur_lines l inside_line)) (λ d. rw d (i.memories.old_lines x n)));
        lock = λ x. rw (get_or_set b.tables.lock l x true false (rw i.shape.lock inside_line)) (test (eqb x l) (λ d. rw d) (λ d. rw d (i.lock x)));
        top = λ x. rw (owner_at x) (test (eqb x l) (λ d. rw (d, in')) (λ d. rw d (i.top x)));
        owner = λ x. rw (owner_at x, eqb_swap l x) (test (eqb x l) (λ d. rw d) (λ d. rw d (i.told.owner x)));
        waits = λ x q e. ⊎_elim
            (λ d. let z = and_true (eqb x l) (eqb q (region_in t es)) d in rw z.0 (sym (eqb-true q (region_in t es) z.1)))
            (λ d. test (eqb x l) (λ f. absurd (calm q (rw (eqb-true x l f) at d))) (λ f. rw f (i.waits x q d)))
            (after_waits (chain_of (region_in t es) l s) (lock_of l s) (region_in t es) l change s x q e);
      }
    where
      place_256 : 32 * t + free_entry t b.tables < length b.log_lines
      place_256 = omega (arith, i.memories.old, free_32, threads_8 b.tables i.shape)

      owner_at : (x : ℕ) → get_or (set b.tables.owner l (region_in t es)) x 0 ≡ cond (eqb x l) (region_in t es) (get_or b.tables.owner x 0)
      owner_at x = get_or_set b.tables.owner l x (region_in t es) 0 (rw i.shape.owner inside_line)
