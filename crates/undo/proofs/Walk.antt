-- The recovery walk undoes each line's entries, newest first, and what that leaves is what the history says.
-- Assumes nothing.
use Prim.Native.Nat.{ℕ}
use mathlib.Core.Path.{◌≡◌, refl, sym, ap, ap₂, ◌∙◌}
use mathlib.Core.Logic.{⊎_elim}
use mathlib.Core.Bool.{Bool, true, false, cond}
use mathlib.Core.List.{List, [], ◌∷◌, ◌++◌}
use lib.Dec.{eqb}
use borrow.Author.Tests.{eqb-true}
use Rattle.undo.specs.Table.{put, is_in}
use Rattle.undo.specs.Machine.{Entry, Carry}
use Rattle.undo.specs.History.{Wrote, applied, effects}
use Rattle.undo.specs.Recovery.{Undo, older, olds, aimed, undo, along, Walk, finished, next}
use Rattle.undo.specs.Claim.{logged}
use Rattle.undo.proofs.Laws.{test, never, or_true, or_right, is_same, flip}
use Rattle.undo.proofs.Inv.{change, Match, bottom, silent, settled, above, Values, idle, held, Medium, landed, flying, waiting, locked, Link, no_entry, one_entry, entries}

-- with a region the regions on which it depends
abbrev pub Closed : (ℕ → ℕ → Bool) → List ℕ → Type 0
Closed dep gs = (a b : ℕ) → dep a b ≡ true → is_in a gs ≡ true → is_in b gs ≡ true

closed : (dep : ℕ → ℕ → Bool) (r : ℕ) (rs : List ℕ) → Closed dep (r ∷ rs) → ((a : ℕ) → is_in a rs ≡ true → dep a r ≡ false) → Closed dep rs
closed dep r rs cl free a b g h =
    ⊎_elim (λ p. never g (rw (eqb-true b r p) (free a h))) (λ p. p)
    (or_true (eqb b r) (is_in b rs) (cl a b g (or_right (eqb a r) h)))

module _ {Val : Type 0} where
  -- ---- the value that is left of a line when values are put back, the first first

  abbrev pub undone : List Val → Val → Val
  undone [] v = v
  undone (x ∷ xs) v = undone xs x

  pub undo_at : (l : ℕ) (us : List (Undo Val)) (m : ℕ → Val) → undo us m l ≡ undone (aimed l us) (m l)
  unfolding undo
  undo_at l [] m = refl
  undo_at l (u ∷ us) m =
      let ih : undo us (put u.line u.old m) l ≡ undone (aimed l us) (put u.line u.old m l) = undo_at l us (put u.line u.old m) in
      test (eqb l u.line) (λ d. rw d (rw d at ih)) (λ d. rw d (rw d at ih))

  pub aimed_append : (l : ℕ) (us vs : List (Undo Val)) → aimed l (us ++ vs) ≡ aimed l us ++ aimed l vs
  aimed_append l [] vs = refl
  aimed_append l (u ∷ us) vs =
      let ih : aimed l (us ++ vs) ≡ aimed l us ++ aimed l vs = aimed_append l us vs in
      test (eqb l u.line) (λ d. simp (d, ih)) (λ d. simp (d, ih))

  -- ---- the walk meets a line's entries newest first

  olds_none : (c : List (Entry Val)) → olds (λ k. false) c ≡ []
  olds_none [] = refl
  olds_none (e ∷ c) = olds_none c

  module _ (dep : ℕ → ℕ → Bool) (r : ℕ) (rs : List ℕ) (cl : Closed dep (r ∷ rs)) (once : is_in r rs ≡ false)
      (free : (a : ℕ) → is_in a rs ≡ true → dep a r ≡ false) where
    none_below : {e : Entry Val} {c : List (Entry Val)} → Link dep (e ∷ c) → is_in e.rid (r ∷ rs) ≡ true → olds (eqb r) c ≡ []
    none_below one_entry h = refl
    none_below (entries {e = e} {f = f} n g lk) h =
        test (eqb r f.rid)
        (λ d. ⊎_elim
        (λ p. let z : eqb e.rid f.rid ≡ true = rw (eqb-true e.rid r p) d in never z n)
        (λ p. never g (rw (← eqb-true r f.rid d) (free e.rid p)))
        (or_true (eqb e.rid r) (is_in e.rid rs) h))
        (λ d. rw d (none_below lk (cl e.rid f.rid g h)))

    split_cons : (e : Entry Val) (c : List (Entry Val)) → olds (λ k. is_in k (r ∷ rs)) c ≡ olds (eqb r) c ++ olds (λ k. is_in k rs) c
        → (is_in e.rid (r ∷ rs) ≡ true → olds (eqb r) c ≡ [])
        → olds (λ k. is_in k (r ∷ rs)) (e ∷ c) ≡ olds (eqb r) (e ∷ c) ++ olds (λ k. is_in k rs) (e ∷ c)
    split_cons e c ih nb =
        test (eqb r e.rid)
        (λ d. let h : eqb e.rid r ≡ true = rw (← eqb-true r e.rid d) (is_same r) in
        let n : is_in e.rid rs ≡ false = rw (← eqb-true r e.rid d) once in
        simp (d, h, n, ih))
        (λ d. let h : eqb e.rid r ≡ false = flip r e.rid d in
        test (is_in e.rid rs)
        (λ a. let z : olds (eqb r) c ≡ [] = nb (or_right (eqb e.rid r) a) in simp (d, h, a, ih, z))
        (λ a. simp (d, h, a, ih)))

    split : {c : List (Entry Val)} → Link dep c → olds (λ k. is_in k (r ∷ rs)) c ≡ olds (eqb r) c ++ olds (λ k. is_in k rs) c
    split no_entry = refl
    split (one_entry {e = e}) = split_cons e [] refl (λ h. refl)
    split (entries {e = e} {f = f} {c = c} n g lk) = split_cons e (f ∷ c) (split lk) (none_below (entries {e = e} n g lk))

  pub walked : {dep : ℕ → ℕ → Bool} {gs : List ℕ} (l : ℕ) (c : List (Entry Val)) (us : ℕ → List (Undo Val)) → Link dep c
      → ((r : ℕ) → aimed l (us r) ≡ olds (eqb r) c) → Closed dep gs → Walk dep gs
      → aimed l (along us gs) ≡ olds (λ k. is_in k gs) c
  walked l c us lk f cl finished = sym (olds_none c)
  walked {dep} l c us lk f cl (next {r = r} {rs = rs} o n w) =
      aimed_append l (us r) (along us rs)
      ∙ ap₂ (λ (a b : List Val). a ++ b) (f r) (walked l c us lk f (closed dep r rs cl n) w)
      ∙ sym (split dep r rs cl o n lk)

  -- all entries are of the walk's regions
  pub olds_all : (p : ℕ → Bool) (c : List (Entry Val)) → ((r : ℕ) → logged r c ≡ true → p r ≡ true) → olds p c ≡ olds (λ k. true) c
  olds_all p [] f = refl
  olds_all p (e ∷ c) f =
      let h : p e.rid ≡ true = f e.rid (rw (is_same e.rid)) in
      rw (h, olds_all p c (λ r a. f r (or_right (eqb r e.rid) a)))

  pub logged_older : (r : ℕ) (b : Bool) (c : List (Entry Val)) → logged r (older b c) ≡ true → logged r c ≡ true
  logged_older r b [] h = h
  logged_older r true (e ∷ c) h = or_right (eqb r e.rid) h
  logged_older r false (e ∷ c) h = h

  pub link_older : {dep : ℕ → ℕ → Bool} {c : List (Entry Val)} (b : Bool) → Link dep c → Link dep (older b c)
  link_older b no_entry = no_entry
  link_older true one_entry = no_entry
  link_older false one_entry = one_entry
  link_older true (entries n g lk) = lk
  link_older false (entries n g lk) = entries n g lk

  -- ---- from the medium, or from anything where there is a persistent entry, the persistent ones leave what all of them leave from current memory

  pub medium_found : {m : Val} {b : Bool} {c : List (Entry Val)} {v : Val} {ss : ℕ → Carry Val} (a : Val) → (older b c ≡ [] → a ≡ m) → Medium m b c v ss
      → undone (olds (λ k. true) (older b c)) a ≡ undone (olds (λ k. true) c) v
  medium_found {c = []} a f (landed p k) = f refl ∙ p
  medium_found {c = e ∷ c} a f (landed p k) = refl
  medium_found a f (flying p k) = refl
  medium_found a f (waiting p k) = refl
  medium_found {c = e ∷ []} a f (locked us p z k (landed q t)) = f refl ∙ q
  medium_found {c = e ∷ (g ∷ c)} a f (locked us p z k md) = refl

  -- ---- what the history says, line by line

  pub found : (ℕ → Val → Val) → (ℕ → Bool) → Val → List ℕ → Val
  found w done x [] = x
  found w done x (r ∷ rs) = cond (done r) (w r (found w done x rs)) (found w done x rs)

  pub match_found : {w : ℕ → Val → Val} {done : ℕ → Bool} {x : Val} {c : List (Entry Val)} {rs : List ℕ} {v : Val} → Match w done x c rs v
      → undone (olds (λ k. true) c) v ≡ found w done x rs
  unfolding found
  match_found (bottom q) = sym q
  match_found {w} {done} {x} (silent {r = r} {rs = rs} q mt) =
      match_found mt ∙ test (done r) (λ d. rw d (sym (q (found w done x rs)))) (λ d. rw d)
  match_found {w} (settled {r = r} a q mt) = rw a (sym q ∙ ap (w r) (match_found mt))
  match_found (above o a q mt) = rw a (match_found mt)

  pub values_found : {w : ℕ → Val → Val} {done : ℕ → Bool} {rs : List ℕ} {x : Val} {c : List (Entry Val)} {v : Val} → Values w done rs x c v
      → undone (olds (λ k. true) c) v ≡ found w done x rs
  values_found (idle k mt) = match_found mt
  values_found (held a q k mt) = match_found mt

  pub applied_at : (l r : ℕ) (ws : List (Wrote Val)) (m : ℕ → Val) → applied r ws m l ≡ change l ws r (m l)
  unfolding applied
  applied_at l r [] m = refl
  applied_at l r (w ∷ ws) m =
      let ih : applied r ws m l ≡ change l ws r (m l) = applied_at l r ws m in
      test (eqb r w.rid)
      (λ d. test (eqb l w.line) (λ q. rw (d, q, ← eqb-true l w.line q) (ap w.change ih)) (λ q. rw (d, q) ih))
      (λ d. rw d ih)

  pub effects_at : (l : ℕ) (done : ℕ → Bool) (ws : List (Wrote Val)) (m : ℕ → Val) (rs : List ℕ)
      → effects done ws m rs l ≡ found (change l ws) done (m l) rs
  unfolding effects found
  effects_at l done ws m [] = refl
  effects_at l done ws m (r ∷ rs) =
      let ih : effects done ws m rs l ≡ found (change l ws) done (m l) rs = effects_at l done ws m rs in
      test (done r) (λ d. rw d (applied_at l r ws (effects done ws m rs) ∙ ap (change l ws r) ih)) (λ d. rw d ih)
