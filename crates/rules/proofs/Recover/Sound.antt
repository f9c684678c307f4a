-- What an accepted cut saves does not contradict itself.
use Rattle.undo.specs.Machine as u
use Rattle.undo.specs.History as v
use Rattle.undo.specs.Claim.{Reach, age, Path, direct, through}
use Prim.Native.Nat.{◌+◌, ◌<◌, ◌≤◌, suc, zero, ℕ}
use mathlib.Core.Path.{◌∙◌, ◌≡◌, refl, sym}
use mathlib.Core.Logic.{⊎_elim}
use mathlib.Core.Bool.{Bool, ◌&&◌, ◌||◌, false, false≢true, not, true}
use mathlib.Core.List.{List, [], ◌∷◌, map}
use lib.Dec.{eqb, ltb}
use lib.ListN.{get_or, length, length-map}
use native.Mathlib.Omega.{arith}
use borrow.Author.Tests.{eq-eqb, eqb-true, le-leb, le-ltb, lt-ltb, ltb-true, ne_eqb, not-true}
use native.Mathlib.Nat.{le_refl}
use Rattle.rules.proofs.Recover.Live.{dep_listed, dep_same, deps_listed, four, listed_live, live_listed, numbered, on_predecessor, successor, was_opened, whole}
use Rattle.rules.proofs.Recover.Olds.{Each, GoodSaved, chosen, each_none, element, is_chosen, no_element}
use Rattle.rules.proofs.Recover.Log.{each_saved, single_chosen}
use Rattle.rules.proofs.Recover.Rising.{Rises, higher, no_more, rises_above}
use Rattle.rules.proofs.Recover.Saved.{any_of, deps_in, deps_none, deps_at, keys_in, keys_listed, keys_rise, keys_of, none_in, none_of, padded_in, padded_order, padded_zeros, saved_regions_lem, saved_at, state_at}
use Rattle.rules.proofs.Recover.Walk.{at_in}
use Rattle.rules.proofs.Lists.{count_fewer, count_le, place_lt, place_true}
use Rattle.rules.proofs.Places.{eqb_swap, homes, key_at, listed_key}
use Rattle.rules.proofs.Sim.State.{Rest, Sim}
use Rattle.rules.specs.Commit.{commits}
use Rattle.rules.specs.Contradiction.{any_broken, any_clash, broken_before, clash, contradicts, in_order, is_astray, is_circle, is_left_over, is_listed, is_unknown_state, is_unnumbered, reaches, reaches_in}
use Rattle.rules.specs.History.{Account, opened_in}
use Rattle.rules.specs.Image.{Logged, saved, saved_log}
use Rattle.rules.specs.Lists.{all, count, place}
use Rattle.rules.specs.Tables.{is_held, listed, number_of, place_of, region_at, thread_of}
use Rattle.rules.specs.declared.Board.{Board}
use Rattle.rules.specs.declared.Listed.{Listed}
use Rattle.undo.proofs.Laws.{and_true, cons_nil, is_same, never, or_right, or_true, test}
use Rattle.undo.proofs.Shape.{rest}
use Rattle.undo.specs.Table.{any, is_in}

module _ {start : ℕ → List ℕ} {b : Board} {es : List Account} {s : u.State (List ℕ)} {h : v.History (List ℕ)} (rc : Reach start s h) (i : Sim b es s h) where
  -- the regions of the image
  abbrev entries : List Listed
  entries = map (saved_at b.tables.regions) (keys_of b.tables.regions)

  in_keys : (k : ℕ) → listed k b.tables.regions ≡ true → is_in k (keys_of b.tables.regions) ≡ true
  in_keys k e = keys_listed b.tables.regions (homes b.tables.regions i.shape.regions) k ∙ e

  of_keys : (k : ℕ) → is_in k (keys_of b.tables.regions) ≡ true → listed k b.tables.regions ≡ true
  of_keys k e = sym (keys_listed b.tables.regions (homes b.tables.regions i.shape.regions) k) ∙ e

  is_listed_lem : (k : ℕ) → is_listed k entries ≡ listed k b.tables.regions
  is_listed_lem k = keys_in (state_at b.tables.regions) (deps_at b.tables.regions) k (keys_of b.tables.regions) ∙ keys_listed b.tables.regions (homes b.tables.regions i.shape.regions) k

  -- ---- reaching

  -- the test of a dependence on the way to region q
  abbrev hop : ℕ → ℕ → ℕ → Bool
  hop n q d = not (eqb d 0) && (eqb d q || reaches_in n entries d q)

  -- what a region reaches ended before
  reach_age : (n a q : ℕ) → reaches_in n entries a q ≡ true → age h.ends a < age h.ends q
  unfolding reaches_in
  reach_age zero a q e = absurd (false≢true e)
  reach_age (suc n) a q e =
      test (is_in a (keys_of b.tables.regions))
      (λ k. let g : any (hop n q) (deps_at b.tables.regions a) ≡ true
      = rw (deps_in (state_at b.tables.regions) (deps_at b.tables.regions) a (keys_of b.tables.regions) k) at e in
      go g (λ d. reach_age n d q))
      (λ k. let g : any (hop n q) [] ≡ true
      = rw (deps_none (state_at b.tables.regions) (deps_at b.tables.regions) a (keys_of b.tables.regions) k) at e in
      absurd (false≢true g))
    where
      go : any (hop n q) (deps_at b.tables.regions a) ≡ true → ((d : ℕ) → reaches_in n entries d q ≡ true → age h.ends d < age h.ends q)
          → age h.ends a < age h.ends q
      go g ih =
          let ds = deps_at b.tables.regions a in
          let d = get_or ds (place (hop n q) ds) 0 in
          let within : is_in d ds ≡ true = at_in ds (place (hop n q) ds) (place_lt (hop n q) ds g) in
          let z = and_true (not (eqb d 0)) (eqb d q || reaches_in n entries d q) (place_true (hop n q) ds 0 g) in
          let dp : s.dep a d ≡ true = sym (dep_same rc i a d (not-true (eqb d 0) z.0)) ∙ within in
          let l = (whole rc i).acyclic a d dp in
          ⊎_elim
          (λ p. rw (← eqb-true d q p) l)
          (λ p. let y = ih d p in omega arith)
          (or_true (eqb d q) (reaches_in n entries d q) z.1)

  -- how many regions ended before region x
  abbrev older_than : ℕ → ℕ
  older_than x = count (λ k. ltb (age h.ends x) (age h.ends k)) (keys_of b.tables.regions)

  one_hop : (n x d q : ℕ) → s.dep x d ≡ true → (eqb d q || reaches_in n entries d q) ≡ true → reaches_in (suc n) entries x q ≡ true
  unfolding reaches_in
  one_hop n x d q e g =
      let o = (whole rc i).of_uncommitted x d e in
      let k : is_in x (keys_of b.tables.regions) ≡ true = in_keys x (live_listed rc i x o.0 o.1) in
      let n0 : eqb d 0 ≡ false = listed_key d b.tables.regions (dep_listed rc i x d e) in
      rw (deps_in (state_at b.tables.regions) (deps_at b.tables.regions) x (keys_of b.tables.regions) k)
      (any_of (hop n q) (deps_at b.tables.regions x) d (dep_same rc i x d n0 ∙ e) (rw n0 g))

  fewer : (x d : ℕ) → s.dep x d ≡ true → older_than d < older_than x
  fewer x d e =
      let l = (whole rc i).acyclic x d e in
      let n = age h.ends in
      count_fewer (λ k. ltb (n d) (n k)) (λ k. ltb (n x) (n k)) (eqb d) (keys_of b.tables.regions)
      (λ k a. let y = ltb-true (n d) (n k) a in lt-ltb (n x) (n k) (omega arith))
      (λ k a. rw (← eqb-true d k a) (le-ltb (n d) (n d) (le_refl _)))
      (λ k a. rw (← eqb-true d k a) (lt-ltb (n x) (n d) l))
      (in_keys d (dep_listed rc i x d e))

  hops : (n x d q : ℕ) → older_than x ≤ n → s.dep x d ≡ true
      → ((m : ℕ) → older_than d ≤ m → (eqb d q || reaches_in m entries d q) ≡ true) → reaches_in n entries x q ≡ true
  hops zero x d q l e f = let z = fewer x d e in absurd (omega arith)
  hops (suc n) x d q l e f = let z = fewer x d e in one_hop n x d q e (f n (omega arith))

  -- a path is no longer than there are regions
  path_reaches : {x q : ℕ} (n : ℕ) → Path s.dep x q → older_than x ≤ n → reaches_in n entries x q ≡ true
  path_reaches n (direct {a = x} {b = q} e) l = hops n x q q l e (λ m k. rw (is_same q))
  path_reaches n (through {a = x} {b = d} {c = q} e p) l = hops n x d q l e (λ m k. or_right (eqb d q) (path_reaches m p k))

  reached_by : {x q : ℕ} → Path s.dep x q → reaches entries x q ≡ true
  unfolding reaches
  reached_by {x} p = path_reaches (length entries) p (rw (length-map (keys_of b.tables.regions) (saved_at b.tables.regions)) (count_le (λ k. ltb (age h.ends x) (age h.ends k)) (keys_of b.tables.regions)))

  -- ---- the tests, one by one

  no_unnumbered : any is_unnumbered entries ≡ false
  no_unnumbered =
      none_in is_unnumbered (saved_at b.tables.regions) (keys_of b.tables.regions) (λ k e. numbered rc i k (of_keys k e))

  no_unknown : any is_unknown_state entries ≡ false
  no_unknown =
      none_in is_unknown_state (saved_at b.tables.regions) (keys_of b.tables.regions)
      (λ k e. test (region_at k b.tables.regions).done (λ a. rw a) (λ a. rw a))

  in_order_lem : any (λ r. not (in_order r.deps)) entries ≡ false
  in_order_lem =
      none_in (λ r. not (in_order r.deps)) (saved_at b.tables.regions) (keys_of b.tables.regions)
      (λ k e. rw (padded_order (region_at k b.tables.regions).deps (four rc i k)
      (λ d n f. numbered rc i d (deps_listed rc i k d n (padded_in (region_at k b.tables.regions).deps d (four rc i k) n ∙ f)))))

  none_astray : any (λ r. any (is_astray entries) r.deps) entries ≡ false
  none_astray =
      none_in (λ r. any (is_astray entries) r.deps) (saved_at b.tables.regions) (keys_of b.tables.regions)
      (λ k e. none_of (is_astray entries) (deps_at b.tables.regions k)
      (λ d f. test (eqb d 0) (λ a. rw a) (λ a. rw (a, is_listed_lem d, deps_listed rc i k d a f))))

  no_stray_entry : any (λ e. not (is_listed e.key entries)) (saved_log 0 8 b) ≡ false
  no_stray_entry = each_none (λ e. not (is_listed e.key entries)) (λ e g. rw (is_listed_lem e.key, g.known)) (each_saved rc i 0 8 (omega arith))

  no_circle : any (is_circle entries) entries ≡ false
  unfolding reaches
  no_circle =
      none_in (is_circle entries) (saved_at b.tables.regions) (keys_of b.tables.regions)
      (λ k e. test (reaches entries k k) (λ a. let z = reach_age (length entries) k k a in absurd (omega arith)) (λ a. a))

  none_left_over : Rest b → any is_left_over entries ≡ false
  unfolding commits
  none_left_over rest =
      none_in is_left_over (saved_at b.tables.regions) (keys_of b.tables.regions)
      (λ k e. test (region_at k b.tables.regions).done
      (λ a. rw a (test (all (eqb 0) (deps_at b.tables.regions k))
      (λ z. let r = region_at k b.tables.regions in
      let held : is_held r ≡ true = rw (key_at k b.tables.regions (of_keys k e), listed_key k b.tables.regions (of_keys k e)) in
      let c : commits r ≡ true = rw (held, a) (padded_zeros r.deps (four rc i k) z) in
      never c (rest.settled (place_of k b.tables.regions)))
      (λ z. z)))
      (λ a. rw a))

  -- ---- consecutive numbers, each with its predecessor

  -- two listed regions of a thread with none between them
  follow : (x y : ℕ) → x < y → listed x b.tables.regions ≡ true → listed y b.tables.regions ≡ true → thread_of x ≡ thread_of y
      → (listed (suc x) b.tables.regions ≡ true → y ≤ suc x) → (y ≡ suc x) × (is_in x (deps_at b.tables.regions y) ≡ true)
  follow x y l e f t g =
      let n : eqb x 0 ≡ false = listed_key x b.tables.regions e in
      let nx = numbered rc i x e in
      let o = was_opened rc i y (listed_live rc i y f).0 in
      let ny : number_of y ≤ opened_in (thread_of y) es = o.1 in
      let tx : thread_of (suc x) ≡ thread_of y = omega arith in
      let a : number_of (suc x) ≡ suc (number_of x) = omega arith in
      let c : number_of (suc x) ≤ number_of y = omega arith in
      let w : number_of (suc x) ≤ opened_in (thread_of (suc x)) es = rw tx (omega arith) in
      let born : s.born (suc x) ≡ true
      = i.told.born (suc x) ∙ rw (ne_eqb (number_of (suc x)) 0 (λ z. omega arith), le-leb (number_of (suc x)) (opened_in (thread_of (suc x)) es) w) in
      let y' = g (successor rc i x e born (tx ∙ sym t)) in
      let q : y ≡ suc x = omega arith in
      (q, dep_same rc i y x n ∙ rw q (on_predecessor rc i x e (rw q at f) (tx ∙ sym t)))

  before : {x : ℕ} {ks : List ℕ} → Rises x ks → listed x b.tables.regions ≡ true → ((k : ℕ) → is_in k ks ≡ true → listed k b.tables.regions ≡ true)
      → ((k : ℕ) → listed k b.tables.regions ≡ true → x < k → is_in k ks ≡ true)
      → broken_before (saved_at b.tables.regions x) (map (saved_at b.tables.regions) ks) ≡ false
  before no_more e f g = refl
  before (higher {k = x} {x = y} {xs = ks} p q) e f g =
      test (eqb (thread_of x) (thread_of y))
      (λ a. let z = follow x y p e (f y (rw (is_same y))) (eqb-true (thread_of x) (thread_of y) a) (λ w. near w (g (suc x) w (omega arith))) in
      let z0 = z.0 in
      rw (a, eq-eqb y (x + 1) (omega arith), z.1))
      (λ a. rw a)
    where
      near : listed (suc x) b.tables.regions ≡ true → is_in (suc x) (y ∷ ks) ≡ true → y ≤ suc x
      near w m =
          ⊎_elim (λ d. let z = eqb-true (suc x) y d in omega arith) (λ d. let z = rises_above q (suc x) d in omega arith)
          (or_true (eqb (suc x) y) (is_in (suc x) ks) m)

  unbroken : {j : ℕ} {ks : List ℕ} → Rises j ks → ((k : ℕ) → is_in k ks ≡ true → listed k b.tables.regions ≡ true)
      → ((k : ℕ) → listed k b.tables.regions ≡ true → j < k → is_in k ks ≡ true)
      → any_broken (map (saved_at b.tables.regions) ks) ≡ false
  unfolding any_broken
  unbroken no_more f g = refl
  unbroken (higher {k = j} {x = x} {xs = ks} p q) f g =
      rw (before q (f x (rw (is_same x))) (λ k e. f k (or_right (eqb k x) e)) rest) (unbroken q (λ k e. f k (or_right (eqb k x) e)) rest)
    where
      rest : (k : ℕ) → listed k b.tables.regions ≡ true → x < k → is_in k ks ≡ true
      rest k e l =
          let z : is_in k (x ∷ ks) ≡ true = g k e (omega arith) in
          rw (ne_eqb k x (λ w. omega arith)) at z

  -- ---- lines logged twice

  no_clash : (e : Logged) → GoodSaved b s e → {fs : List Logged} → Each (GoodSaved b s) fs → chosen e.key e.line fs ≡ [] → any (clash entries e) fs ≡ false
  no_clash e g no_element c = refl
  no_clash e g (element {x = f} {xs = fs} k ks) c =
      test (is_chosen e.key e.line f)
      (λ a. absurd (cons_nil (rw a at c)))
      (λ a. rw (apart a) (no_clash e g ks (rw a at c)))
    where
      reach : eqb e.line f.line ≡ true → eqb e.key f.key ≡ false → (reaches entries e.key f.key || reaches entries f.key e.key) ≡ true
      reach l n =
          ⊎_elim
          (λ p. rw (reached_by {x = e.key} {q = f.key} p))
          (λ p. or_right (reaches entries e.key f.key) (reached_by p))
          ((whole rc i).connected e.line e.key f.key g.logged (rw (← eqb-true e.line f.line l) at k.logged) n)

      apart : is_chosen e.key e.line f ≡ false → clash entries e f ≡ false
      apart a =
          test (eqb e.line f.line)
          (λ l. test (eqb e.key f.key)
          (λ n. never (rw (eqb_swap f.key e.key, n, l)) a)
          (λ n. rw (l, n, reach l n)))
          (λ l. rw l)

  none_clash : {fs : List Logged} → Each (GoodSaved b s) fs → ((r l : ℕ) → length (chosen r l fs) ≤ 1) → any_clash entries fs ≡ false
  unfolding any_clash
  none_clash no_element c = refl
  none_clash (element {x = e} {xs = fs} k ks) c =
      rw (no_clash e k ks alone) (none_clash ks fewer_left)
    where
      alone : chosen e.key e.line fs ≡ []
      alone =
          let z : length (e.old ∷ chosen e.key e.line fs) ≤ 1 = rw (is_same e.key, is_same e.line) at (c e.key e.line) in
          nil (chosen e.key e.line fs) (omega arith)
        where
          nil : (xs : List (List ℕ)) → length xs ≤ 0 → xs ≡ []
          nil [] h = refl
          nil (x ∷ xs) h = absurd (omega arith)

      fewer_left : (r l : ℕ) → length (chosen r l fs) ≤ 1
      fewer_left r l =
          test (is_chosen r l e)
          (λ a. let z : length (e.old ∷ chosen r l fs) ≤ 1 = rw a at (c r l) in omega arith)
          (λ a. rw a at (c r l))

  -- ---- all of them

  pub sound : Rest b → contradicts (saved b) ≡ false
  unfolding contradicts saved
  sound rest =
      rw (
        saved_regions_lem b.tables.regions (homes b.tables.regions i.shape.regions),
        no_unnumbered,
        no_unknown,
        in_order_lem,
        none_astray,
        no_stray_entry,
        unbroken (keys_rise b.tables.regions) of_keys (λ k e l. in_keys k e),
        no_circle,
        none_left_over rest,
        none_clash (each_saved rc i 0 8 (omega arith)) (single_chosen rc i),
      )
