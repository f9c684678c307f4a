-- The log as an image holds it: every persistent entry once, by thread, in the order in which its thread wrote.
use Rattle.undo.specs.Machine as u
use Rattle.undo.specs.History as v
use Rattle.undo.specs.Claim as claim
use Rattle.undo.specs.Claim.{Reach, start}
use Rattle.undo.specs.Recovery.{persistent, olds}
use Prim.Native.Nat.{◌*◌, ◌+◌, ◌/◌, ◌<◌, ◌≤◌, suc, zero, ℕ}
use mathlib.Core.Path.{◌∙◌, ◌≡◌, ap, refl, sym}
use mathlib.Core.Logic.{◌≢◌, ◌⊎◌, inl, inr, ⊎_elim}
use mathlib.Core.Bool.{Bool, ◌&&◌, false, not, true, true≢false}
use mathlib.Core.List.{List, [], ◌++◌, ◌∷◌, append-nil, map}
use lib.Dec.{eqb, ltb}
use lib.ListN.{get_or-eq_default, length, length-map}
use native.Mathlib.Omega.{arith}
use borrow.Author.Tests.{eq-eqb, eqb-false, eqb-true, le-leb, ltb-false, ltb-true, ne_eqb, not-false, not-true}
use Rattle.rules.proofs.Codec.Turns.{size_threads}
use Rattle.rules.proofs.Codec.Valid.{count_append, key_of_logged, rises}
use Rattle.rules.proofs.Recover.Live.{live_listed, threaded, whole}
use Rattle.rules.proofs.Recover.Rising.{Rises, higher, no_more, rises_above, rising_is, rising_length, rising_rises}
use Rattle.rules.proofs.Lists.{any_at, any_map, count_le, eq_both, place_only, place_true}
use Rattle.rules.proofs.Places.{eqb_swap, listed_key}
use Rattle.rules.proofs.Sim.State.{Sim}
use Rattle.rules.proofs.Views.{entry_at}
use Rattle.rules.specs.Access.{is_of}
use Rattle.rules.specs.Acknowledge.{is_entry}
use Rattle.rules.specs.Image.{order_of, saved_entry, saved_log, saved_thread}
use Rattle.rules.specs.Lists.{count, place}
use Rattle.rules.specs.Reader.{is_logged_by}
use Rattle.rules.specs.Refusal.{is_set_up}
use Rattle.rules.specs.Tables.{line_of, listed, no_entry, thread_at, thread_of}
use Rattle.rules.specs.declared.Board.{Board}
use Rattle.rules.specs.declared.Entry.{Entry}
use Rattle.undo.proofs.Laws.{and_true, is_same, never, or_right, test}
use Rattle.undo.specs.Table.{any, is_in}
use Rattle.rules.specs.History.{Account}
use Rattle.rules.proofs.Recover.Olds.{Each, GoodSaved, Spotted, chosen, chosen_append, chosen_none, chosen_one, each_append, each_in, entry_of, is_chosen, no_element, older_gone, older_kept, older_length, older_none, olds_logged, olds_none, order_parts, orders_of, spot}

module _ {start : ℕ → List ℕ} {b : Board} {es : List Account} {s : u.State (List ℕ)} {h : v.History (List ℕ)} (rc : Reach start s h) (i : Sim b es s h) where
  small_rank : (t j : ℕ) → (entry_at t j b.tables).key ≢ 0 → (entry_at t j b.tables).rank < 256
  small_rank t j n =
      let g = (i.logs.entry t j n).rank in
      let l = count_le (is_of (entry_at t j b.tables).key) (thread_at t b.tables).log in
      let q = i.shape.threads.logs t in
      omega arith

  index_small : (t j : ℕ) → (entry_at t j b.tables).key ≢ 0 → j < 32
  index_small t j n =
      test (ltb j 32)
      (λ a. ltb-true j 32 a)
      (λ a. let g = ltb-false j 32 a in
      let q : length (thread_at t b.tables).log ≤ j = rw (i.shape.threads.logs t) g in
      absurd (n (ap (λ e. e.key) (get_or-eq_default (thread_at t b.tables).log no_entry q))))

  spotted : (t o : ℕ) → is_in o (orders_of b t) ≡ true → Spotted b s t o
  spotted t o e =
      let log = (thread_at t b.tables).log in
      let z = and_true (not (eqb o 0)) (is_in o (map order_of log)) (sym (rising_is (map order_of log) o) ∙ e) in
      let a : any (λ e. eqb (order_of e) o) log ≡ true = sym (any_map (eqb o) (λ e. eqb (order_of e) o) order_of log (λ x. eqb_swap o (order_of x))) ∙ z.1 in
      let q : order_of (entry_at t (spot b t o) b.tables) ≡ o = eqb-true (order_of (entry_at t (spot b t o) b.tables)) o (place_true (λ e. eqb (order_of e) o) log no_entry a) in
      let n : o ≢ 0 = eqb-false o 0 (not-true (eqb o 0) z.0) in
      let p = order_parts (entry_at t (spot b t o) b.tables) (λ w. n (sym q ∙ w)) in
      record {
        order = q;
        persistent = p.0;
        key = p.1;
        parts = sym q ∙ p.2;
        index = index_small t (spot b t o) p.1;
        small = small_rank t (spot b t o) p.1;
        good = i.logs.entry t (spot b t o) p.1;
      }

  -- an order belongs to one entry
  spot_is : (t j : ℕ) → order_of (entry_at t j b.tables) ≢ 0 → spot b t (order_of (entry_at t j b.tables)) ≡ j
  spot_is t j n =
      let log = (thread_at t b.tables).log in
      let p = order_parts (entry_at t j b.tables) n in
      let r = small_rank t j p.1 in
      let l : j < length log = rw (i.shape.threads.logs t) (index_small t j p.1) in
      place_only (λ e. eqb (order_of e) (order_of (entry_at t j b.tables))) log j no_entry l (is_same (order_of (entry_at t j b.tables)))
      (λ k e. let q : order_of (entry_at t k b.tables) ≡ order_of (entry_at t j b.tables) = eqb-true (order_of (entry_at t k b.tables)) (order_of (entry_at t j b.tables)) e in
      let w = order_parts (entry_at t k b.tables) (λ x. n (sym q ∙ x)) in
      let y = small_rank t k w.1 in
      let p2 = p.2 in
      let w2 = w.2 in
      i.logs.ranks t k j w.1 (omega arith) (omega arith))

  -- the entry's own fields
  entry_key : (t o : ℕ) → (entry_of b t o).key ≡ (entry_at t (spot b t o) b.tables).key
  unfolding saved_entry
  entry_key t o = refl

  entry_line : (t o : ℕ) → (entry_of b t o).line ≡ (entry_at t (spot b t o) b.tables).line
  unfolding saved_entry
  entry_line t o = refl

  entry_old : (t o : ℕ) → (entry_of b t o).old ≡ line_of (32 * t + spot b t o) b.log_lines
  unfolding saved_entry
  entry_old t o = refl

  pub entry_thread : (t o : ℕ) → is_in o (orders_of b t) ≡ true → thread_of (entry_of b t o).key ≡ t
  entry_thread t o e = rw (entry_key t o) (spotted t o e).good.thread

  -- ---- every saved entry

  pub good_saved : (t o : ℕ) → t < 8 → is_in o (orders_of b t) ≡ true → GoodSaved b s (entry_of b t o)
  unfolding saved_entry
  good_saved t o k e =
      let x = spotted t o e in
      let g = x.good in
      let ix = x.index in
      let lg : claim.logged (entry_at t (spot b t o) b.tables).key (s.chain (entry_at t (spot b t o) b.tables).line) ≡ true
      = olds_logged (entry_at t (spot b t o) b.tables).key (s.chain (entry_at t (spot b t o) b.tables).line) (line_of (32 * t + spot b t o) b.log_lines) g.old in
      let lv = (whole rc i).of_live (entry_at t (spot b t o) b.tables).line (entry_at t (spot b t o) b.tables).key lg in
      record {
        known = live_listed rc i (entry_at t (spot b t o) b.tables).key lv.0 lv.1;
        line = g.line;
        old = i.memories.old_lines (32 * t + spot b t o) (omega arith);
        logged = lg;
      }

  -- ---- the entries of one region and line

  other_thread : (r l t : ℕ) → eqb (thread_of r) t ≡ false → chosen r l (saved_thread t b) ≡ []
  unfolding saved_thread
  other_thread r l t n =
      chosen_none r l (entry_of b t) (orders_of b t)
      (λ o e. test (is_chosen r l (entry_of b t o))
      (λ a. let q : (entry_of b t o).key ≡ r = eqb-true (entry_of b t o).key r (and_true (eqb (entry_of b t o).key r) (eqb l (entry_of b t o).line) a).0 in
      absurd (eqb-false (thread_of r) t n (ap thread_of (sym q) ∙ entry_thread t o e)))
      (λ a. a))

  -- the entry with a key and a line
  is_entry_lem : (k l j : ℕ) → is_entry k l (entry_at (thread_of k) j b.tables) ≡ true
      → ((entry_at (thread_of k) j b.tables).key ≡ k) × ((entry_at (thread_of k) j b.tables).line ≡ l)
  is_entry_lem k l j e =
      let x = entry_at (thread_of k) j b.tables in
      let z = and_true (eqb x.key k) (eqb x.line l) e in
      (eqb-true x.key k z.0, eqb-true x.line l z.1)

  -- the saved entry that is meant
  chosen_spot : (r l o : ℕ) → is_chosen r l (entry_of b (thread_of r) o) ≡ true
      → ((entry_at (thread_of r) (spot b (thread_of r) o) b.tables).key ≡ r) × ((entry_at (thread_of r) (spot b (thread_of r) o) b.tables).line ≡ l)
  unfolding saved_entry
  chosen_spot r l o e =
      let x = entry_at (thread_of r) (spot b (thread_of r) o) b.tables in
      let z = and_true (eqb x.key r) (eqb l x.line) e in
      (eqb-true x.key r z.0, sym (eqb-true l x.line z.1))

  -- entry j is persistent
  chosen_here : (r l j : ℕ) → r ≢ 0 → is_entry r l (entry_at (thread_of r) j b.tables) ≡ true → (entry_at (thread_of r) j b.tables).persistent ≡ true
      → chosen r l (saved_thread (thread_of r) b) ≡ olds (eqb r) (persistent s l)
  unfolding saved_thread
  chosen_here r l j n e p =
      let t = thread_of r in
      let log = (thread_at t b.tables).log in
      let x = entry_at t j b.tables in
      let o = order_of x in
      let k = is_entry_lem r l j e in
      let kn : x.key ≢ 0 = λ w. n (sym k.0 ∙ w) in
      let pos : order_of x ≡ 256 * x.key + x.rank = rw (p, ne_eqb x.key 0 kn) in
      let on : o ≢ 0 = omega arith in
      let sp : spot b t o ≡ j = spot_is t j on in
      let lt : j < length log = rw (i.shape.threads.logs t) (index_small t j kn) in
      let within : is_in o (orders_of b t) ≡ true
      = rising_is (map order_of log) o ∙ rw (ne_eqb o 0 on) (any_map (eqb o) (λ y. eqb o (order_of y)) order_of log (λ y. refl) ∙ any_at (λ y. eqb o (order_of y)) log j no_entry lt (is_same o)) in
      let g = i.logs.entry t j kn in
      let gold : olds (eqb r) (s.chain l) ≡ line_of (32 * t + j) b.log_lines ∷ [] = rw (k.0, k.1) at g.old in
      let fl : (s.lock l && u.owns r (s.chain l)) ≡ false = not-true (s.lock l && u.owns r (s.chain l)) (rw (k.0, k.1, p) at (sym g.flight)) in
      let out : (entry_of b t o).old ≡ line_of (32 * t + j) b.log_lines = entry_old t o ∙ ap (λ q. line_of (32 * t + q) b.log_lines) sp in
      chosen_one r l (entry_of b t) o (rising_rises 0 (length (map order_of log)) (map order_of log)) within
      (λ o' e'. eq_both (is_chosen r l (entry_of b t o')) (eqb o' o)
      (λ a. let z = chosen_spot r l o' a in
      let y : spot b t o' ≡ j = i.logs.once t (spot b t o') j (spotted t o' e').key (z.0 ∙ sym k.0) (z.1 ∙ sym k.1) in
      eq-eqb o' o (sym (spotted t o' e').order ∙ ap (λ q. order_of (entry_at t q b.tables)) y))
      (λ a. let q : spot b t o' ≡ j = ap (spot b t) (eqb-true o' o a) ∙ sp in
      rw (entry_key t o', entry_line t o', q, k.0, k.1, is_same r) (is_same l)))
      ∙ rw out (sym gold ∙ sym (older_kept r (s.lock l) (s.chain l) fl))

  -- no such entry is persistent
  chosen_nowhere : (r l : ℕ) → r ≢ 0 → any (λ e. is_entry r l e && e.persistent) (thread_at (thread_of r) b.tables).log ≡ false
      → chosen r l (saved_thread (thread_of r) b) ≡ olds (eqb r) (persistent s l)
  unfolding saved_thread
  chosen_nowhere r l n e =
      let t = thread_of r in
      let log = (thread_at t b.tables).log in
      let not_kept : (j : ℕ) → is_entry r l (entry_at t j b.tables) ≡ true → (entry_at t j b.tables).persistent ≡ true → ⊥
      = λ j f p. let kn : (entry_at t j b.tables).key ≢ 0 = λ w. n (sym (is_entry_lem r l j f).0 ∙ w) in
      let lt : j < length log = rw (i.shape.threads.logs t) (index_small t j kn) in
      true≢false (sym (any_at (λ e. is_entry r l e && e.persistent) log j no_entry lt (rw (f, p))) ∙ e) in
      chosen_none r l (entry_of b t) (orders_of b t)
      (λ o f. test (is_chosen r l (entry_of b t o))
      (λ a. let z = chosen_spot r l o a in
      absurd (not_kept (spot b t o) (rw (z.0, z.1, is_same r) (is_same l)) (spotted t o f).persistent))
      (λ a. a))
      ∙ sym (test (claim.logged r (s.chain l))
      (λ a. let w : any (is_entry r l) log ≡ true = i.logs.present r l a in
      let j = place (is_entry r l) log in
      let f : is_entry r l (entry_at t j b.tables) ≡ true = place_true (is_entry r l) log no_entry w in
      let k = is_entry_lem r l j f in
      let kn : (entry_at t j b.tables).key ≢ 0 = λ w. n (sym k.0 ∙ w) in
      let g = i.logs.entry t j kn in
      let np : (entry_at t j b.tables).persistent ≡ false
      = test (entry_at t j b.tables).persistent (λ p. absurd (not_kept j f p)) (λ p. p) in
      let fl : (s.lock l && u.owns r (s.chain l)) ≡ true = not-false (s.lock l && u.owns r (s.chain l)) (rw (k.0, k.1, np) at (sym g.flight)) in
      older_gone r (s.lock l) (s.chain l) (line_of (32 * t + j) b.log_lines) fl (rw (k.0, k.1) at g.old))
      (λ a. older_none r (s.lock l) (s.chain l) (olds_none r (s.chain l) a)))

  chosen_thread : (r l : ℕ) → r ≢ 0 → chosen r l (saved_thread (thread_of r) b) ≡ olds (eqb r) (persistent s l)
  chosen_thread r l n =
      let log = (thread_at (thread_of r) b.tables).log in
      let p : Entry → Bool = λ e. is_entry r l e && e.persistent in
      test (any p log)
      (λ a. let z = and_true (is_entry r l (entry_at (thread_of r) (place p log) b.tables)) (entry_at (thread_of r) (place p log) b.tables).persistent (place_true p log no_entry a) in
      chosen_here r l (place p log) n z.0 z.1)
      (λ a. chosen_nowhere r l n a)

  -- ---- the whole log

  outside : (r l t n : ℕ) → (thread_of r < t) ⊎ (t + n ≤ thread_of r) → chosen r l (saved_log t n b) ≡ []
  unfolding saved_log
  outside r l t zero w = refl
  outside r l t (suc n) w =
      let d : eqb (thread_of r) t ≡ false = ne_eqb (thread_of r) t (λ q. ⊎_elim (λ a. omega arith) (λ a. omega arith) w) in
      rw (chosen_append r l (saved_thread t b) (saved_log (suc t) n b), other_thread r l t d)
      (outside r l (suc t) n (⊎_elim (λ a. inl (omega arith)) (λ a. inr (omega arith)) w))

  inside : (r l t n : ℕ) → t ≤ thread_of r → thread_of r < t + n → chosen r l (saved_log t n b) ≡ chosen r l (saved_thread (thread_of r) b)
  unfolding saved_log
  inside r l t zero f g = absurd (omega arith)
  inside r l t (suc n) f g =
      test (eqb (thread_of r) t)
      (λ a. let q : thread_of r ≡ t = eqb-true (thread_of r) t a in
      rw (chosen_append r l (saved_thread t b) (saved_log (suc t) n b), outside r l (suc t) n (inl (omega arith)), append-nil (chosen r l (saved_thread t b)), ← q))
      (λ a. let d = eqb-false (thread_of r) t a in
      rw (chosen_append r l (saved_thread t b) (saved_log (suc t) n b), other_thread r l t a)
      (inside r l (suc t) n (omega arith) (omega arith)))

  -- at most eight threads
  pub eight : b.tables.size.threads ≤ 8
  eight =
      test (is_set_up b.tables)
      (λ a. (size_threads b.tables.size.threads b.tables.size.lines a).1)
      (λ a. let z = i.shape.size a in omega arith)

  unlogged : (r l : ℕ) → (listed r b.tables.regions ≡ true → ⊥) → olds (eqb r) (persistent s l) ≡ []
  unlogged r l f =
      older_none r (s.lock l) (s.chain l)
      (olds_none r (s.chain l)
      (test (claim.logged r (s.chain l))
      (λ a. let z = (whole rc i).of_live l r a in absurd (f (live_listed rc i r z.0 z.1)))
      (λ a. a)))

  no_zero : (l : ℕ) → chosen 0 l (saved_thread 0 b) ≡ []
  unfolding saved_thread
  no_zero l =
      chosen_none 0 l (entry_of b 0) (orders_of b 0)
      (λ o e. test (is_chosen 0 l (entry_of b 0 o)) (λ a. absurd ((spotted 0 o e).key (chosen_spot 0 l o a).0)) (λ a. a))

  -- the saved entries of a region and a line are the persistent ones
  pub log_chosen : (r l : ℕ) → chosen r l (saved_log 0 8 b) ≡ olds (eqb r) (persistent s l)
  log_chosen r l =
      test (eqb r 0)
      (λ a. let z : r ≡ 0 = eqb-true r 0 a in
      rw z (inside 0 l 0 8 (omega arith) (omega arith) ∙ (no_zero l ∙ sym (unlogged 0 l (λ e. never refl (listed_key 0 b.tables.regions e))))))
      (λ a. test (ltb (thread_of r) 8)
      (λ d. let g = ltb-true (thread_of r) 8 d in
      inside r l 0 8 (omega arith) (omega arith) ∙ chosen_thread r l (eqb-false r 0 a))
      (λ d. let g = ltb-false (thread_of r) 8 d in
      outside r l 0 8 (inr (omega arith)) ∙ sym (unlogged r l (λ e. let t = threaded rc i r e in let m = eight in omega arith))))

  pub each_saved : (t n : ℕ) → t + n ≤ 8 → Each (GoodSaved b s) (saved_log t n b)
  unfolding saved_log saved_thread
  each_saved t zero f = no_element
  each_saved t (suc n) f =
      each_append (each_in (entry_of b t) (orders_of b t) (λ o e. good_saved t o (omega arith) e)) (each_saved (suc t) n (omega arith))

  -- ---- at most 32 entries of a thread

  thread_few : (t : ℕ) → length (saved_thread t b) ≤ 32
  unfolding saved_thread
  thread_few t =
      let log = (thread_at t b.tables).log in
      let l = rising_length 0 (length (map order_of log)) (map order_of log) in
      let q = length-map log order_of in
      let z = i.shape.threads.logs t in
      let w = length-map (orders_of b t) (entry_of b t) in
      omega arith

  other_count : (t k : ℕ) → eqb k t ≡ false → count (is_logged_by k) (saved_thread t b) ≡ 0
  unfolding saved_thread count
  other_count t k n = counted (orders_of b t) (λ o e. ne_eqb (thread_of (entry_of b t o).key) k (λ q. eqb-false k t n (sym q ∙ entry_thread t o e)))
    where
      counted : (os : List ℕ) → ((o : ℕ) → is_in o os ≡ true → is_logged_by k (entry_of b t o) ≡ false) → count (is_logged_by k) (map (entry_of b t) os) ≡ 0
      counted [] f = refl
      counted (o ∷ os) f = rw (f o (rw (is_same o))) (counted os (λ x e. f x (or_right (eqb x o) e)))

  later_count : (t n k : ℕ) → k < t → count (is_logged_by k) (saved_log t n b) ≡ 0
  unfolding saved_log count
  later_count t zero k f = refl
  later_count t (suc n) k f =
      rw (count_append (is_logged_by k) (saved_thread t b) (saved_log (suc t) n b), other_count t k (ne_eqb k t (λ q. omega arith)), later_count (suc t) n k (omega arith))

  pub log_few : (t n k : ℕ) → count (is_logged_by k) (saved_log t n b) ≤ 32
  unfolding saved_log
  log_few t zero k = omega (arith, count_le (is_logged_by k) [])
  log_few t (suc n) k =
      let c = count_append (is_logged_by k) (saved_thread t b) (saved_log (suc t) n b) in
      test (eqb k t)
      (λ a. let q : k ≡ t = eqb-true k t a in
      let z = later_count (suc t) n k (omega arith) in
      let w = count_le (is_logged_by k) (saved_thread t b) in
      let l = thread_few t in
      omega arith)
      (λ a. let z = other_count t k a in
      let w = log_few (suc t) n k in
      omega arith)

  -- ---- keys that do not fall

  pub log_climbs : (t n k : ℕ) → k ≤ 65536 * t → rises key_of_logged 0 k (saved_log t n b) ≡ true
  unfolding saved_log saved_thread
  log_climbs t zero k f = refl
  log_climbs t (suc n) k f =
      climb (orders_of b t) (rising_rises 0 (length (map order_of (thread_at t b.tables).log)) (map order_of (thread_at t b.tables).log)) k (omega arith)
      (λ o e. let z = low o e in let w = thread o e in (z, w))
      (λ o e. let w = thread o e in omega arith) (λ k' g. log_climbs (suc t) n k' (omega arith))
    where
      low : (o : ℕ) → is_in o (orders_of b t) ≡ true → (entry_of b t o).key ≡ o / 256
      low o e =
          let x = spotted t o e in
          let p = x.parts in
          let q = x.small in
          rw (entry_key t o) (omega arith)

      thread : (o : ℕ) → is_in o (orders_of b t) ≡ true → (65536 * t ≤ (entry_of b t o).key) × ((entry_of b t o).key < 65536 * suc t)
      thread o e = let z = entry_thread t o e in (omega arith, omega arith)

      climb : {j : ℕ} (os : List ℕ) → Rises j os → (k : ℕ) → k < 65536 * suc t
          → ((o : ℕ) → is_in o os ≡ true → ((entry_of b t o).key ≡ o / 256) × ((65536 * t ≤ (entry_of b t o).key) × ((entry_of b t o).key < 65536 * suc t)))
          → ((o : ℕ) → is_in o os ≡ true → k ≤ (entry_of b t o).key)
          → ((k : ℕ) → k < 65536 * suc t → rises key_of_logged 0 k (saved_log (suc t) n b) ≡ true)
          → rises key_of_logged 0 k (map (entry_of b t) os ++ saved_log (suc t) n b) ≡ true
      climb os no_more k f g a tail = tail k f
      climb os (higher {x = o} {xs = os'} p q) k f g a tail =
          let z = g o (rw (is_same o)) in
          let z1 = z.1.1 in
          rw (le-leb k (entry_of b t o).key (a o (rw (is_same o))))
          (climb os' q (0 + (entry_of b t o).key) (omega arith) (λ x e. g x (or_right (eqb x o) e))
          (λ x e. let y = (g x (or_right (eqb x o) e)).0 in let y0 = z.0 in let w = rises_above q x e in omega arith) tail)

  pub single_chosen : (r l : ℕ) → length (chosen r l (saved_log 0 8 b)) ≤ 1
  single_chosen r l =
      let a = older_length r (s.lock l) (s.chain l) in
      let c = (whole rc i).single l r in
      rw (log_chosen r l) (omega arith)
