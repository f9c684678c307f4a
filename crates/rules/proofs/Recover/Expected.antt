-- The expected memory of the event list is that of the undo log's history.
use Rattle.undo.specs.Machine as u
use Rattle.undo.specs.History as v
use Rattle.undo.specs.Claim.{Reach}
use Rattle.rules.specs.History.{Change, applied, effects, committed, expected, accepted_in, ends_in, writes_in}
use Prim.Native.Nat.{◌<◌, ℕ}
use mathlib.Core.Path.{◌∙◌, ◌≡◌, refl, sym}
use mathlib.Core.Bool.{Bool, ◌&&◌, false, not, true}
use mathlib.Core.List.{List, [], ◌∷◌}
use lib.Dec.{eqb}
use lib.ListN.{length, length-set}
use native.Mathlib.Omega.{arith}
use borrow.Author.Tests.{eqb-false, eqb-true}
use lib.Seq.{get_or-set_other, get_or-set_same}
use Rattle.rules.proofs.Commits.{CommitsTold}
use Rattle.rules.proofs.Recover.Live.{whole}
use Rattle.rules.proofs.Places.{eqb_swap}
use Rattle.rules.proofs.Sim.State.{Sim, conv}
use Rattle.rules.proofs.Start.{start_length}
use Rattle.rules.specs.Claim.{board_after}
use Rattle.rules.specs.Tables.{Memory, line_of, listed, start_lines}
use Rattle.undo.proofs.Laws.{is_same, or_right, test}
use Rattle.undo.specs.Table.{is_in}

-- ---- lengths

pub applied_length : (k : ℕ) (ws : List Change) (m : List (List ℕ)) → length (applied k ws m) ≡ length m
unfolding applied
applied_length k [] m = refl
applied_length k (w ∷ ws) m =
    test (eqb w.region k)
    (λ a. rw a (length-set (applied k ws m) w.line (w.change (line_of w.line (applied k ws m))) ∙ applied_length k ws m))
    (λ a. rw a (applied_length k ws m))

pub effects_length : (done : ℕ → Bool) (ws : List Change) (m : List (List ℕ)) (ks : List ℕ) → length (effects done ws m ks) ≡ length m
unfolding effects
effects_length done ws m [] = refl
effects_length done ws m (k ∷ ks) =
    test (done k)
    (λ a. rw a (applied_length k ws (effects done ws m ks) ∙ effects_length done ws m ks))
    (λ a. rw a (effects_length done ws m ks))

pub expected_length : (m : Memory) (rs : List (List ℕ)) → length (expected m rs) ≡ 256
unfolding expected
expected_length m rs = effects_length (committed m rs) (writes_in (accepted_in m rs)) (start_lines m) (ends_in (accepted_in m rs)) ∙ start_length m

-- ---- values: two memories that agree below n lines

abbrev pub Same : ℕ → List (List ℕ) → (ℕ → List ℕ) → Type 0
Same n m f = (l : ℕ) → l < n → line_of l m ≡ f l

pub applied_same : (n k : ℕ) (ws : List Change) (m : List (List ℕ)) (f : ℕ → List ℕ) → length m ≡ n → Same n m f → Same n (applied k ws m) (v.applied k (conv ws) f)
unfolding applied v.applied
applied_same n k [] m f e g l h = g l h
applied_same n k (w ∷ ws) m f e g l h =
    let ih = applied_same n k ws m f e g in
    let len : length (applied k ws m) ≡ n = applied_length k ws m ∙ e in
    test (eqb w.region k)
    (λ a. let a' : eqb k w.region ≡ true = eqb_swap k w.region ∙ a in
    rw (a, a') (test (eqb l w.line)
    (λ d. let q : l ≡ w.line = eqb-true l w.line d in
    rw (d, ← q) (get_or-set_same (applied k ws m) l (w.change (line_of l (applied k ws m))) [] (omega arith) ∙ rw (ih l h)))
    (λ d. rw d (get_or-set_other (applied k ws m) w.line l (w.change (line_of w.line (applied k ws m))) [] (eqb-false l w.line d) ∙ ih l h))))
    (λ a. let a' : eqb k w.region ≡ false = eqb_swap k w.region ∙ a in rw (a, a') (ih l h))

pub effects_same : (n : ℕ) (p q : ℕ → Bool) (ws : List Change) (m : List (List ℕ)) (f : ℕ → List ℕ) (ks : List ℕ) → length m ≡ n → Same n m f
    → ((k : ℕ) → is_in k ks ≡ true → p k ≡ q k) → Same n (effects p ws m ks) (v.effects q (conv ws) f ks)
unfolding effects v.effects
effects_same n p q ws m f [] e g t l h = g l h
effects_same n p q ws m f (k ∷ ks) e g t l h =
    let ih : Same n (effects p ws m ks) (v.effects q (conv ws) f ks) = effects_same n p q ws m f ks e g (λ j d. t j (or_right (eqb j k) d)) in
    let s : p k ≡ q k = t k (rw (is_same k)) in
    test (q k)
    (λ a. let a' : p k ≡ true = s ∙ a in
    rw (a, a') (applied_same n k ws (effects p ws m ks) (v.effects q (conv ws) f ks) (effects_length p ws m ks ∙ e) ih l h))
    (λ a. let a' : p k ≡ false = s ∙ a in rw (a, a') (ih l h))

-- ---- committed, by the event list and by the undo log

module _ (m : Memory) (rs : List (List ℕ)) (told : CommitsTold m rs) {s : u.State (List ℕ)} {h : v.History (List ℕ)}
    (rc : Reach (λ l. line_of l (start_lines m)) s h) (i : Sim (board_after m rs) (accepted_in m rs) s h) where
  pub committed_done : (k : ℕ) → committed m rs k ≡ s.done k
  committed_done k =
      told k
      ∙ rw (← i.told.born k, i.live k)
      (test (s.done k)
      (λ d. let bo : s.born k ≡ true = (whole rc i).begun k ((whole rc i).committed k d) in rw (d, bo))
      (λ d. rw d (test (s.born k) (λ b. rw b) (λ b. rw b))))

  -- committed is to have ended and to be listed no more
  pub committed_ended : (k : ℕ) → committed m rs k ≡ (is_in k (ends_in (accepted_in m rs)) && not (listed k (board_after m rs).tables.regions))
  committed_ended k =
      let o : is_in k (ends_in (accepted_in m rs)) ≡ s.over k = rw (← i.told.ends) ((whole rc i).ends k) in
      committed_done k
      ∙ sym (test (s.done k)
      (λ d. let ov : s.over k ≡ true = (whole rc i).committed k d in
      let bo : s.born k ≡ true = (whole rc i).begun k ov in
      rw (o, i.live k, d, ov, bo))
      (λ d. test (s.over k)
      (λ ov. let bo : s.born k ≡ true = (whole rc i).begun k ov in rw (o, i.live k, d, ov, bo))
      (λ ov. rw (o, ov, d))))

  pub expected_same : (l : ℕ) → l < 256 → line_of l (expected m rs) ≡ v.expected (λ l. line_of l (start_lines m)) s h l
  unfolding expected
  expected_same l k =
      rw (i.told.ends, i.told.writes)
      (effects_same 256 (committed m rs) s.done (writes_in (accepted_in m rs)) (start_lines m) (λ l. line_of l (start_lines m)) (ends_in (accepted_in m rs))
      (start_length m) (λ l h. refl) (λ k e. committed_done k) l k)
