-- The listed regions of a board that the undo log simulates: their keys, their dependences, their predecessors.
use Rattle.undo.specs.Machine as u
use Rattle.undo.specs.History as v
use Rattle.undo.proofs.Inv.{Inv}
use Rattle.undo.specs.Claim.{Reach, Structure}
use Prim.Native.Nat.{◌+◌, ◌<◌, ◌≤◌, suc, ℕ}
use mathlib.Core.Path.{◌∙◌, ◌≡◌, ap, sym}
use mathlib.Core.Logic.{◌≢◌, ◌⊎◌, ⊎_elim}
use mathlib.Core.Bool.{◌&&◌, false, not, true}
use mathlib.Core.List.{List, [], ◌∷◌}
use lib.Dec.{eqb, leb, ltb}
use lib.ListN.{length}
use native.Mathlib.Omega.{arith}
use native.Mathlib.Numerals.{add-one}
use borrow.Author.Tests.{eqb-false, eqb-true, leb-true, lt-ltb, ltb-false, ltb-true, not-true}
use Rattle.rules.proofs.Recover.Saved.{deps_at, padded_in}
use Rattle.rules.proofs.Sim.State.{Sim}
use Rattle.rules.specs.History.{Account, Closes, Cuts, Nothing, Opens, Sets, Stores, Use, Uses, depth_in, draws_on, opened_in, region_in, uses_in}
use Rattle.rules.specs.Tables.{key_of, listed, no_thread, number_of, place_of, region_at, thread_at, thread_of}
use Rattle.rules.specs.declared.Board.{Board}
use Rattle.undo.proofs.Laws.{and_true, is_same, never, or_right, test}
use Rattle.undo.proofs.Main.{closes, structured}
use Rattle.undo.proofs.Steps.{reached}
use Rattle.undo.specs.Table.{is_in}

-- ---- a region that was opened drew on its predecessor

more_draws : (k q : ℕ) (u : Use) (us : List Use) → draws_on k q us ≡ true → draws_on k q (u ∷ us) ≡ true
more_draws k q u us e = or_right (eqb u.of k && eqb u.on q) e

pub drew : (t n : ℕ) (es : List Account) → n ≢ 0 → suc n ≤ opened_in t es → draws_on (key_of t (suc n)) (key_of t n) (uses_in es) ≡ true
unfolding opened_in uses_in
drew t n [] z h = absurd (omega arith)
drew t n (Sets l s ∷ es) z h = drew t n es z h
drew t n (Opens u ∷ es) z h = go (drew t n es z)
  where
    kept : draws_on (key_of t (suc n)) (key_of t n) (uses_in es) ≡ true → draws_on (key_of t (suc n)) (key_of t n) (uses_in (Opens u ∷ es)) ≡ true
    kept e =
        test (eqb (depth_in u es) 0 && ltb 0 (opened_in u es))
        (λ a. rw a (more_draws (key_of t (suc n)) (key_of t n) (record { of = key_of u (opened_in u es + 1); on = region_in u es }) (uses_in es) e))
        (λ a. rw a e)

    new : u ≡ t → eqb (depth_in t es) 0 ≡ true → opened_in t es ≡ n → draws_on (key_of t (suc n)) (key_of t n) (uses_in (Opens u ∷ es)) ≡ true
    new p d q =
        let k : key_of t (n + 1) ≡ key_of t (suc n) = ap (key_of t) (add-one n) in
        rw (p, d, q, lt-ltb 0 n (omega arith), k, is_same (key_of t (suc n)), is_same (key_of t n))

    go : (suc n ≤ opened_in t es → draws_on (key_of t (suc n)) (key_of t n) (uses_in es) ≡ true) → draws_on (key_of t (suc n)) (key_of t n) (uses_in (Opens u ∷ es)) ≡ true
    go ih =
        test (eqb u t && eqb (depth_in t es) 0)
        (λ a. let y = and_true (eqb u t) (eqb (depth_in t es) 0) a in
        let g : suc n ≤ opened_in t es + 1 = rw a at h in
        test (ltb n (opened_in t es))
        (λ c. kept (ih (ltb-true n (opened_in t es) c)))
        (λ c. let e = ltb-false n (opened_in t es) c in new (eqb-true u t y.0) y.1 (omega arith)))
        (λ a. kept (ih (rw a at h)))
drew t n (Closes u ∷ es) z h = drew t n es z h
drew t n (Uses u l ∷ es) z h = more_draws (key_of t (suc n)) (key_of t n) _ (uses_in es) (drew t n es z h)
drew t n (Stores u l f ∷ es) z h = more_draws (key_of t (suc n)) (key_of t n) _ (uses_in es) (drew t n es z h)
drew t n (Cuts ∷ es) z h = drew t n es z h
drew t n (Nothing ∷ es) z h = drew t n es z h

module _ {start : ℕ → List ℕ} {b : Board} {es : List Account} {s : u.State (List ℕ)} {h : v.History (List ℕ)} (rc : Reach start s h) (i : Sim b es s h) where
  pub whole : Structure s h
  whole = structured start s h rc

  pub live_listed : (k : ℕ) → s.born k ≡ true → s.done k ≡ false → listed k b.tables.regions ≡ true
  live_listed k p q = i.live k ∙ rw (p, q)

  pub listed_live : (k : ℕ) → listed k b.tables.regions ≡ true → (s.born k ≡ true) × (s.done k ≡ false)
  listed_live k e =
      let z = and_true (s.born k) (not (s.done k)) (sym (i.live k) ∙ e) in
      (z.0, not-true (s.done k) z.1)

  -- a region that was opened has a number, and its thread is one of the board's
  pub was_opened : (k : ℕ) → s.born k ≡ true → (eqb (number_of k) 0 ≡ false) × (number_of k ≤ opened_in (thread_of k) es)
  was_opened k e =
      let z = and_true (not (eqb (number_of k) 0)) (leb (number_of k) (opened_in (thread_of k) es)) (sym (i.told.born k) ∙ e) in
      (not-true (eqb (number_of k) 0) z.0, leb-true (number_of k) (opened_in (thread_of k) es) z.1)

  pub numbered : (k : ℕ) → listed k b.tables.regions ≡ true → eqb (number_of k) 0 ≡ false
  numbered k e = (was_opened k (listed_live k e).0).0

  pub threaded : (k : ℕ) → listed k b.tables.regions ≡ true → thread_of k < b.tables.size.threads
  threaded k e =
      test (ltb (thread_of k) b.tables.size.threads)
      (λ a. ltb-true (thread_of k) b.tables.size.threads a)
      (λ a. let z = was_opened k (listed_live k e).0 in
      let f : thread_at (thread_of k) b.tables ≡ no_thread = i.shape.threads.range (thread_of k) (ltb-false (thread_of k) b.tables.size.threads a) in
      let g : opened_in (thread_of k) es ≡ 0 = sym (i.told.last (thread_of k)) ∙ ap (λ th. th.last) f in
      let n = eqb-false (number_of k) 0 z.0 in
      let o = z.1 in
      absurd (omega arith))

  -- ---- dependences

  pub four : (k : ℕ) → length (region_at k b.tables.regions).deps ≡ 4
  four k = (i.shape.regions.good (place_of k b.tables.regions)).deps

  pub dep_same : (k d : ℕ) → eqb d 0 ≡ false → is_in d (deps_at b.tables.regions k) ≡ s.dep k d
  dep_same k d n = padded_in (region_at k b.tables.regions).deps d (four k) n ∙ sym (i.dep k d ∙ rw n)

  pub dep_listed : (k d : ℕ) → s.dep k d ≡ true → listed d b.tables.regions ≡ true
  dep_listed k d e = let z = whole.on_ended k d e in live_listed d (whole.begun d z.0) z.1

  pub deps_listed : (k d : ℕ) → eqb d 0 ≡ false → is_in d (deps_at b.tables.regions k) ≡ true → listed d b.tables.regions ≡ true
  deps_listed k d n e = dep_listed k d (sym (dep_same k d n) ∙ e)

  -- ---- predecessors

  -- the next region of the thread
  below : (k : ℕ) → s.born (suc k) ≡ true → eqb (number_of k) 0 ≡ false → thread_of (suc k) ≡ thread_of k → (v.used (suc k) k h.uses ≡ true) ⊎ (s.done k ≡ true)
  below k e n t =
      let z = was_opened (suc k) e in
      let n' = eqb-false (number_of k) 0 n in
      let a : suc (number_of k) ≡ number_of (suc k) = omega arith in
      let c : suc (number_of k) ≤ opened_in (thread_of k) es = rw (a, ← t) z.1 in
      let q : key_of (thread_of k) (number_of k) ≡ k = omega arith in
      let r : key_of (thread_of k) (suc (number_of k)) ≡ suc k = omega arith in
      let d : draws_on (suc k) k (uses_in es) ≡ true = rw (q, r) at (drew (thread_of k) (number_of k) es n' c) in
      i.told.uses (suc k) k d (λ x. omega arith)

  -- between two listed regions of a thread every one is listed
  pub successor : (k : ℕ) → listed k b.tables.regions ≡ true → s.born (suc k) ≡ true → thread_of (suc k) ≡ thread_of k → listed (suc k) b.tables.regions ≡ true
  successor k e o t =
      test (s.done (suc k))
      (λ d. never (⊎_elim (λ p. closes start s h rc (suc k) k p d) (λ p. p) (below k o (numbered k e) t)) (listed_live k e).1)
      (λ d. live_listed (suc k) o d)

  -- and depends on its predecessor
  pub on_predecessor : (k : ℕ) → listed k b.tables.regions ≡ true → listed (suc k) b.tables.regions ≡ true → thread_of (suc k) ≡ thread_of k → s.dep (suc k) k ≡ true
  on_predecessor k e f t =
      let g : s.done k ≡ false = (listed_live k e).1 in
      let inv : Inv start s h = reached rc in
      ⊎_elim
      (λ p. ⊎_elim
      (λ q. let w : suc k ≡ k = eqb-true (suc k) k q in absurd (omega arith))
      (λ q. ⊎_elim (λ d. never d g) (λ d. d) q)
      (inv.covered (suc k) k p))
      (λ p. never p g)
      (below k (listed_live (suc k) f).0 (numbered k e) t)
