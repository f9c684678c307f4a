-- A line's values, `Values`, and its last writer, `Last`, are kept by each action.
-- Assumes nothing.
use Prim.Native.Nat.{ℕ}
use mathlib.Core.Path.{◌≡◌, ap, ◌∙◌}
use mathlib.Core.Logic.{◌⊎◌, inl, inr, ⊎_elim}
use mathlib.Core.Bool.{Bool, true, false, ◌||◌, false≢true}
use mathlib.Core.Option.{Option, some}
use mathlib.Core.List.{List, [], ◌∷◌}
use lib.Dec.{eqb}
use borrow.Author.Tests.{eqb-true}
use Rattle.undo.specs.Table.{put, is_in}
use Rattle.undo.specs.Machine.{Entry, owns, follows, freed}
use Rattle.undo.proofs.Laws.{test, never, or_false, or_true, or_right, same, is_same, flip, differ}
use Rattle.undo.proofs.Links.{link_tail, oldest}
use Rattle.undo.proofs.Inv.{Match, bottom, silent, settled, above, Values, idle, held, Link, Last, unwritten, safe, owner}

module _ {Val : Type 0} {x : Val} where
  -- the entries are of ended regions
  pub owned : {w : ℕ → Val → Val} {done : ℕ → Bool} {c : List (Entry Val)} {rs : List ℕ} {v : Val} (r : ℕ) → owns r c ≡ true → Match w done x c rs v
      → is_in r rs ≡ true
  owned r h (bottom q) = absurd (false≢true h)
  owned r h (silent {r = k} q mt) = or_right (eqb r k) (owned r h mt)
  owned r h (settled a q mt) = absurd (false≢true h)
  owned r h (above {e = e} {r = k} o a q mt) = let d : eqb r k ≡ true = rw o h in rw d

  -- the ended regions' writes are as they were
  pub match_same : {w : ℕ → Val → Val} {done : ℕ → Bool} {c : List (Entry Val)} {rs : List ℕ} {v : Val} (w' : ℕ → Val → Val)
      → ((k : ℕ) → is_in k rs ≡ true → (y : Val) → w' k y ≡ w k y) → Match w done x c rs v → Match w' done x c rs v
  match_same w' f (bottom q) = bottom q
  match_same w' f (silent {r = k} q mt) =
      silent (λ y. f k (rw (is_same k)) y ∙ q y) (match_same w' (λ j b. f j (or_right (eqb j k) b)) mt)
  match_same w' f (settled {r = k} {u = u} a q mt) =
      settled a (f k (rw (is_same k)) u ∙ q) (match_same w' (λ j b. f j (or_right (eqb j k) b)) mt)
  match_same w' f (above {e = e} {r = k} o a q mt) =
      above o a (f k (rw (is_same k)) e.old ∙ q) (match_same w' (λ j b. f j (or_right (eqb j k) b)) mt)

  -- region r commits: it depends on none, so its entry is the oldest of its line
  pub match_commit : {w : ℕ → Val → Val} {done : ℕ → Bool} {dep : ℕ → ℕ → Bool} {c : List (Entry Val)} {rs : List ℕ} {v : Val} (r : ℕ)
      → ((q : ℕ) → dep r q ≡ false) → Link dep c → Match w done x c rs v → Match w (put r true done) x (freed r c) rs v
  match_commit r h lk (bottom q) = bottom q
  match_commit r h lk (silent q mt) = silent q (match_commit r h lk mt)
  match_commit r h lk (settled {r = k} a q mt) = settled {r = k} (test (eqb k r) (λ d. rw d) (λ d. rw d a)) q (match_commit r h lk mt)
  match_commit {w} {done} r h lk (above {e = e} {c = c} {r = k} {rs = rs} o a q mt) =
      let ih : Match w (put r true done) x (freed r c) rs e.old = match_commit r h (link_tail lk) mt in
      test (eqb r e.rid)
      (λ d. let z : c ≡ [] = oldest r h d lk in
      rw (d, z) (settled {r = k} (rw (o, ← eqb-true r e.rid d, is_same r)) q (rw z at ih)))
      (λ d. rw d (above o (rw (o, flip r e.rid d, ← o) a) q ih))

  module _ {w : ℕ → Val → Val} {done : ℕ → Bool} {rs : List ℕ} where
    -- region r writes a line that it has logged
    pub again : {c : List (Entry Val)} {v : Val} (w' : ℕ → Val → Val) (r : ℕ) (f : Val → Val)
        → ((y : Val) → w' r y ≡ f (w r y)) → ((k : ℕ) → eqb k r ≡ false → (y : Val) → w' k y ≡ w k y)
        → is_in r rs ≡ false → owns r c ≡ true → Values w done rs x c v → Values w' done rs x c (f v)
    again w' r f wr wo n o (idle k mt) = never (owned r o mt) n
    again {v = v} w' r f wr wo n o (held {e = e} a q k mt) =
        let p : r ≡ e.rid = same o in
        let z : w r e.old ≡ v = rw p q in
        held {e = e} {v = f v} a (rw (← p) (wr e.old ∙ ap f z)) (λ i b d y. wo i (rw p d) y ∙ k i b d y) (match_same w' (λ i b. wo i (differ (λ j. is_in j rs) i r b n)) mt)

    -- and one that it has not logged: the region of the newest entry has ended
    pub first : {c : List (Entry Val)} {v : Val} (w' : ℕ → Val → Val) (r : ℕ) (f : Val → Val)
        → ((y : Val) → w' r y ≡ f (w r y)) → ((k : ℕ) → eqb k r ≡ false → (y : Val) → w' k y ≡ w k y)
        → is_in r rs ≡ false → ((q : ℕ) → owns q c ≡ true → is_in q rs ≡ true) → Values w done rs x c v
        → Values w' done rs x (record { rid = r; old = v } ∷ c) (f v)
    first w' r f wr wo n o (idle {v = v} k mt) =
        held n (wr v ∙ ap f (k r n v)) (λ i b d y. wo i d y ∙ k i b y) (match_same w' (λ i b. wo i (differ (λ j. is_in j rs) i r b n)) mt)
    first w' r f wr wo n o (held {e = e} a q k mt) = never (o e.rid (is_same e.rid)) a

    -- region r ends
    pub end : {c : List (Entry Val)} {v : Val} (r : ℕ) → is_in r rs ≡ false → done r ≡ false → Values w done rs x c v → Values w done (r ∷ rs) x c v
    end r n b (idle k mt) = idle (λ i a. k i (or_false (eqb i r) (is_in i rs) a).1) (silent (k r n) mt)
    end r n b (held {e = e} a q k mt) =
        test (eqb r e.rid)
        (λ d. let o : r ≡ e.rid = same d in
        idle (λ i h. let g : (eqb i r ≡ false) × (is_in i rs ≡ false) = or_false (eqb i r) (is_in i rs) h in k i g.1 (rw (← o) g.0))
        (above o b (rw o q) mt))
        (λ d. held (rw (flip r e.rid d) a) q (λ i h. k i (or_false (eqb i r) (is_in i rs) h).1) (silent (k r n d) mt))

    -- region r, which has ended, commits
    pub commit : {c : List (Entry Val)} {v : Val} {dep : ℕ → ℕ → Bool} (r : ℕ) → is_in r rs ≡ true → ((q : ℕ) → dep r q ≡ false) → Link dep c
        → Values w done rs x c v → Values w (put r true done) rs x (freed r c) v
    commit r n h lk (idle k mt) = idle k (match_commit r h lk mt)
    commit r n h lk (held {e = e} a q k mt) =
        rw (differ (λ i. is_in i rs) r e.rid n a) (held a q k (match_commit r h (link_tail lk) mt))

-- ---- the last writer

module _ {Val : Type 0} {done : ℕ → Bool} where
  pub last_commit : {dep : ℕ → ℕ → Bool} {o : Option ℕ} {c : List (Entry Val)} (r : ℕ) → ((q : ℕ) → dep r q ≡ false) → Link dep c → Last done o c
      → Last (put r true done) o (freed r c)
  last_commit r h lk unwritten = unwritten
  last_commit r h lk (safe {q = k} a) = safe {q = k} (test (eqb k r) (λ d. rw d) (λ d. rw d a))
  last_commit r h lk (owner {q = k} {e = e} o) =
      test (eqb r e.rid)
      (λ d. rw (d, oldest r h d lk) (safe {q = k} (rw (o, ← eqb-true r e.rid d, is_same r))))
      (λ d. rw d (owner o))

  -- the last writer of a line that region r may read: itself, a committed region, or one on which it depends
  pub last_seen : {c : List (Entry Val)} (dep : ℕ → ℕ → Bool) (r q : ℕ) → (owns r c || follows dep r c) ≡ true → Last done (some q) c
      → (eqb r q ≡ true) ⊎ ((done q ≡ true) ⊎ (dep r q ≡ true))
  last_seen dep r q h (safe a) = inr (inl a)
  last_seen dep r q h (owner {e = e} o) = rw o (⊎_elim (λ d. inl d) (λ d. inr (inr d)) (or_true (eqb r e.rid) (dep r e.rid) h))
