-- Each allowed action keeps the invariant, so it holds of all that is reached.
-- Assumes nothing.
use Prim.Native.Nat.{ℕ}
use mathlib.Core.Path.{◌≡◌, refl, ◌∙◌, fun_ext}
use mathlib.Core.Logic.{inl, inr, ⊎_elim}
use mathlib.Core.Bool.{Bool, true, false, not, ◌||◌, cond, false≢true}
use mathlib.Core.Option.{some, some-injective}
use mathlib.Core.List.{List, [], ◌∷◌}
use lib.Dec.{eqb}
use borrow.Author.Tests.{eqb-true, ne_eqb}
use Rattle.undo.specs.Table.{put, is_in}
use Rattle.undo.specs.Machine.{State, Entry, Carry, Clear, Waits, Flies, Action, Begin, Depend, Read, Again, First, Fly, Launch, LogAck, DataAck, Evict, End, Commit, fresh, with_med, with_lock, with_slot, owns, follows, freed, Open, Allowed, begins, depends, reads, again, firsts, flies, launches, log_acks, data_acks, evicts, ends, commits, act}
use Rattle.undo.specs.History.{wrote, History, empty, note, last_writer, drawing}
use Rattle.undo.specs.Claim.{logged, Reach, start, then, acts, notes, Run, stop, step}
use Rattle.undo.proofs.Laws.{test, never, or_true, or_right, any_of_keep, is_same, flip, same, differ, per_line}
use Rattle.undo.proofs.Inv.{change, Inv, Medium, Covered, Last, unwritten, owner, idle, bottom, no_region, region, no_entry, landed}
use Rattle.undo.proofs.Values as values
use Rattle.undo.proofs.Media as media
use Rattle.undo.proofs.Links.{edge_was, edge_new, edge_left, link_more, link_first, link_commit, topo_more, topo_commit, covered_drawing, covered_more, covered_commit}

put_true : (r k : ℕ) (f : ℕ → Bool) → f k ≡ true → put r true f k ≡ true
put_true r k f h = test (eqb k r) (λ d. rw d) (λ d. rw d h)

freed_logged : {Val : Type 0} (r k : ℕ) (c : List (Entry Val)) → logged k (freed r c) ≡ true → eqb k r ≡ false
freed_logged r k [] h = absurd (false≢true h)
freed_logged r k (e ∷ c) h =
    test (eqb r e.rid)
    (λ d. freed_logged r k c (rw d at h))
    (λ d. ⊎_elim (λ p. rw (eqb-true k e.rid p) (flip r e.rid d)) (λ p. freed_logged r k c p)
    (or_true (eqb k e.rid) (logged k (freed r c)) (rw d at h)))

module _ {Val : Type 0} {m : ℕ → Val} {s : State Val} {h : History Val} (i : Inv m s h) where
  not_in : (r : ℕ) → s.over r ≡ false → is_in r h.ends ≡ false
  not_in r n = i.ended r ∙ n

  not_done : (r : ℕ) → s.over r ≡ false → s.done r ≡ false
  not_done r n = test (s.done r) (λ d. never (i.commits r d) n) (λ d. d)

  -- a region may draw on the last writer of a line that it may read
  drawn : (r l : ℕ) → (owns r (s.chain l) || follows s.dep r (s.chain l)) ≡ true
      → Covered s.dep s.done (drawing r (last_writer l h.writes) h.uses)
  drawn r l k =
      covered_drawing s.dep s.done h.uses r (last_writer l h.writes)
      (λ q e. values.last_seen s.dep r q k (rw e at (i.last l))) i.covered

  -- ---- the changes of a line by a write

  module _ (r l : ℕ) (f : Val → Val) where
    here : (y : Val) → change l (wrote r l f h).writes r y ≡ f (change l h.writes r y)
    here y = rw (is_same r, is_same l)

    other : (k : ℕ) → eqb k r ≡ false → (y : Val) → change l (wrote r l f h).writes k y ≡ change l h.writes k y
    other k n y = rw n

    there : (k : ℕ) → eqb k l ≡ false → change k (wrote r l f h).writes ≡ change k h.writes
    there k n = fun_ext (λ j. fun_ext (λ y. test (eqb j r) (λ d. rw (d, n)) (λ d. rw d)))

  -- ---- each action

  begin : (r : ℕ) → Inv m (act s (Begin r)) h
  unfolding act
  begin r = record {
    ended = i.ended;
    begun = λ k g. put_true r k s.born (i.begun k g);
    commits = i.commits;
    target = i.target;
    source = λ a b g. let z = i.source a b g in (put_true r a s.born z.0, z.1);
    topo = i.topo;
    links = i.links;
    listed = λ l k g. let z = i.listed l k g in (put_true r k s.born z.0, z.1);
    values = i.values;
    medium = i.medium;
    last = i.last;
    covered = i.covered;
  }

  depend : (r q : ℕ) → Open s r → s.over q ≡ true → s.done q ≡ false → Inv m (act s (Depend r q)) (note h (Depend r q))
  unfolding act note
  depend r q o ov dn = record {
    ended = i.ended;
    begun = i.begun;
    commits = i.commits;
    target = λ a b g. ⊎_elim (λ p. rw p.1 (ov, dn)) (λ p. i.target a b p) (edge_was s.dep r q a b g);
    source = λ a b g. ⊎_elim (λ p. rw p.0 (o.began, not_done r o.goes_on)) (λ p. i.source a b p) (edge_was s.dep r q a b g);
    topo = topo_more r q (not_in r o.goes_on) i.topo;
    links = λ l. link_more r q (i.links l);
    listed = i.listed;
    values = i.values;
    medium = i.medium;
    last = i.last;
    covered = covered_drawing _ s.done h.uses r (some q)
        (λ k e. rw (← some-injective q k e) (inr (inr (edge_new s.dep r q))))
        (covered_more s.dep s.done h.uses r q i.covered);
  }

  read : (r l : ℕ) → (owns r (s.chain l) || follows s.dep r (s.chain l)) ≡ true → Inv m (act s (Read r l)) (note h (Read r l))
  unfolding act note
  read r l k = record {
    ended = i.ended;
    begun = i.begun;
    commits = i.commits;
    target = i.target;
    source = i.source;
    topo = i.topo;
    links = i.links;
    listed = i.listed;
    values = i.values;
    medium = i.medium;
    last = i.last;
    covered = drawn r l k;
  }

  rewrite : (r l : ℕ) (f : Val → Val) → Open s r → owns r (s.chain l) ≡ true → Inv m (act s (Again r l f)) (note h (Again r l f))
  unfolding act note
  rewrite r l f o ow = record {
    ended = i.ended;
    begun = i.begun;
    commits = i.commits;
    target = i.target;
    source = i.source;
    topo = i.topo;
    links = i.links;
    listed = i.listed;
    values = per_line l
        (rw (is_same l) (values.again _ r f (here r l f) (other r l f) (not_in r o.goes_on) ow (i.values l)))
        (λ k n. rw (n, there r l f k n) (i.values k));
    medium = per_line l
        (rw (is_same l) (media.again (put r Waits (s.slot l)) r (f (s.cur l)) (rw (is_same r)) (λ q d. rw d) ow (i.medium l)))
        (λ k n. rw n (i.medium k));
    last = per_line l (rw (is_same l) (owned (s.chain l) ow)) (λ k n. rw n (i.last k));
    covered = drawn r l (rw ow);
  }
    where
      owned : (c : List (Entry Val)) → owns r c ≡ true → Last s.done (some r) c
      owned [] e = absurd (false≢true e)
      owned (e ∷ c) d = owner (same d)

  first : (r l : ℕ) (f : Val → Val) → Open s r → follows s.dep r (s.chain l) ≡ true → s.lock l ≡ false
      → Inv m (act s (First r l f)) (note h (First r l f))
  unfolding act note
  first r l f o fo lk = record {
    ended = i.ended;
    begun = i.begun;
    commits = i.commits;
    target = i.target;
    source = i.source;
    topo = i.topo;
    links = per_line l
        (rw (is_same l) (link_first r (s.cur l) fo (not_owned (s.chain l) fo) (i.links l)))
        (λ k n. rw n (i.links k));
    listed = per_line l
        (λ k g. ⊎_elim (λ p. rw (eqb-true k r p) (o.began, not_done r o.goes_on)) (λ p. i.listed l k p)
        (or_true (eqb k r) (logged k (s.chain l)) (rw (is_same l) at g)))
        (λ k n q g. i.listed k q (rw n at g));
    values = per_line l
        (rw (is_same l) (values.first _ r f (here r l f) (other r l f) (not_in r o.goes_on) (over (s.chain l) fo) (i.values l)))
        (λ k n. rw (n, there r l f k n) (i.values k));
    medium = per_line l
        (rw (is_same l)
        (media.first (put r Waits (s.slot l)) r (f (s.cur l)) (rw (is_same r)) (s.slot l) (λ q d. rw d) (not_owned (s.chain l) fo) (rw lk at (i.medium l))))
        (λ k n. rw n (i.medium k));
    last = per_line l (rw (is_same l) (owner refl)) (λ k n. rw n (i.last k));
    covered = drawn r l (or_right (owns r (s.chain l)) fo);
  }
    where
      over : (c : List (Entry Val)) → follows s.dep r c ≡ true → (q : ℕ) → owns q c ≡ true → is_in q h.ends ≡ true
      over [] fo q e = absurd (false≢true e)
      over (e ∷ c) fo q d = rw (eqb-true q e.rid d) (i.ended e.rid ∙ (i.target r e.rid fo).0)

      not_owned : (c : List (Entry Val)) → follows s.dep r c ≡ true → owns r c ≡ false
      not_owned [] fo = refl
      not_owned (e ∷ c) fo = flip e.rid r (differ s.over e.rid r (i.target r e.rid fo).0 o.goes_on)

  -- what changes the medium, the locks and the slots alone
  bring : (med : ℕ → Val) (lock : ℕ → Bool) (slot : ℕ → ℕ → Carry Val) → ((l : ℕ) → Medium (med l) (lock l) (s.chain l) (s.cur l) (slot l))
      → Inv m (with_med med (with_lock lock (with_slot slot s))) h
  bring med lock slot md = record {
    ended = i.ended;
    begun = i.begun;
    commits = i.commits;
    target = i.target;
    source = i.source;
    topo = i.topo;
    links = i.links;
    listed = i.listed;
    values = i.values;
    medium = md;
    last = i.last;
    covered = i.covered;
  }

  fly : (r l : ℕ) → s.slot l r ≡ Waits → s.lock l ≡ false → Inv m (act s (Fly r l)) h
  unfolding act
  fly r l w lk =
      bring s.med s.lock (act s (Fly r l)).slot
      (per_line l
      (rw (is_same l, lk)
      (media.fly (put r (Flies (s.cur l)) (s.slot l))
      (λ q. test (eqb q r) (λ d. inr (rw (eqb-true q r d) w, rw d)) (λ d. inl (rw d))) (rw lk at (i.medium l))))
      (λ k n. rw n (i.medium k)))

  launch : (p : ℕ → ℕ → Bool) → ((l r : ℕ) → p l r ≡ true → s.slot l r ≡ Waits) → ((l r : ℕ) → p l r ≡ true → s.lock l ≡ false)
      → Inv m (act s (Launch p)) h
  unfolding act
  launch p w lk =
      bring s.med s.lock (act s (Launch p)).slot
      (λ l. test (s.lock l)
      (λ b. rw (fun_ext (λ r. still l r b)) (i.medium l))
      (λ b. rw b (media.fly ((act s (Launch p)).slot l) (λ r. test (p l r) (λ d. inr (w l r d, rw d)) (λ d. inl (rw d))) (rw b at (i.medium l)))))
    where
      still : (l r : ℕ) → s.lock l ≡ true → cond (p l r) (Flies (s.cur l)) (s.slot l r) ≡ s.slot l r
      still l r b = test (p l r) (λ d. never b (lk l r d)) (λ d. rw d)

  log_ack : (r l : ℕ) → owns r (s.chain l) ≡ true → s.lock l ≡ true → Inv m (act s (LogAck r l)) h
  unfolding act
  log_ack r l o lk =
      bring s.med (act s (LogAck r l)).lock (act s (LogAck r l)).slot
      (per_line l
      (rw (is_same l) (media.log_ack (λ q. cond (eqb q r) (s.slot l q) Clear) r (rw (is_same r)) (λ q d. rw d) o (rw lk at (i.medium l))))
      (λ k n. rw n (i.medium k)))

  data_ack : (r l : ℕ) (v : Val) → s.slot l r ≡ Flies v → Inv m (act s (DataAck r l v)) h
  unfolding act
  data_ack r l v w =
      bring (act s (DataAck r l v)).med s.lock (act s (DataAck r l v)).slot
      (per_line l
      (rw (is_same l) (media.data_ack (put r Clear (s.slot l)) r (rw (is_same r)) (λ q d. rw d) w (i.medium l)))
      (λ k n. rw n (i.medium k)))

  evict : (l : ℕ) → s.lock l ≡ false → Inv m (act s (Evict l)) h
  unfolding act
  evict l lk =
      bring (act s (Evict l)).med s.lock s.slot
      (per_line l (rw (is_same l, lk) (media.evict (rw lk at (i.medium l)))) (λ k n. rw n (i.medium k)))

  end : (r : ℕ) → Open s r → Inv m (act s (End r)) (note h (End r))
  unfolding act note
  end r o = record {
    ended = λ k. test (eqb k r) (λ d. rw d) (λ d. rw d (i.ended k));
    begun = λ k g. test (eqb k r) (λ d. rw (eqb-true k r d) o.began) (λ d. i.begun k (rw d at g));
    commits = λ k d. put_true r k s.over (i.commits k d);
    target = λ a b g. let z = i.target a b g in (put_true r b s.over z.0, z.1);
    source = i.source;
    topo = region (λ a b. test (s.dep a r) (λ g. never (i.target a r g).0 o.goes_on) (λ g. g)) i.topo;
    links = i.links;
    listed = i.listed;
    values = λ l. values.end r (not_in r o.goes_on) (not_done r o.goes_on) (i.values l);
    medium = i.medium;
    last = i.last;
    covered = i.covered;
  }

  commit : (r : ℕ) → s.over r ≡ true → ((l : ℕ) → s.slot l r ≡ Clear) → ((q : ℕ) → s.dep r q ≡ false) → Inv m (act s (Commit r)) h
  unfolding act
  commit r o ns nd = record {
    ended = i.ended;
    begun = i.begun;
    commits = λ k d. test (eqb k r) (λ e. rw (eqb-true k r e) o) (λ e. i.commits k (rw e at d));
    target = λ a b g. let z = edge_left s.dep r a b g in let t = i.target a b z.1 in (t.0, rw z.0 t.1);
    source = λ a b g.
        let z = edge_left s.dep r a b g in
        let t = i.source a b z.1 in
        let n : eqb a r ≡ false = ne_eqb a r (λ e. never z.1 (rw e (nd b))) in
        (t.0, rw n t.1);
    topo = topo_commit r i.topo;
    links = λ l. link_commit r nd (i.links l);
    listed = λ l k g.
        let t = i.listed l k (any_of_keep (λ e. eqb k e.rid) (λ e. not (eqb r e.rid)) (s.chain l) g) in
        (t.0, rw (freed_logged r k (s.chain l) g) t.1);
    values = λ l. values.commit r (i.ended r ∙ o) nd (i.links l) (i.values l);
    medium = λ l. media.commit r (ns l) (i.medium l);
    last = λ l. values.last_commit r nd (i.links l) (i.last l);
    covered = covered_commit s.dep s.done h.uses r i.covered;
  }

-- ---- every allowed action

keeps : {Val : Type 0} {m : ℕ → Val} {s : State Val} {h : History Val} {a : Action Val} → Allowed s a → Inv m s h → Inv m (act s a) (note h a)
unfolding note
keeps (begins {r = r}) i = begin i r
keeps (depends {r = r} {q = q} o p d) i = depend i r q o p d
keeps (reads {r = r} {l = l} p) i = read i r l p
keeps (again {r = r} {l = l} {f = f} o p) i = rewrite i r l f o p
keeps (firsts {r = r} {l = l} {f = f} o p b) i = first i r l f o p b
keeps (flies {r = r} {l = l} p b) i = fly i r l p b
keeps (launches {p = p} w b) i = launch i p w b
keeps (log_acks {r = r} {l = l} p b) i = log_ack i r l p b
keeps (data_acks {r = r} {l = l} {v = v} p) i = data_ack i r l v p
keeps (evicts {l = l} b) i = evict i l b
keeps (ends {r = r} o) i = end i r o
keeps (commits {r = r} o ns nd) i = commit i r o ns nd

initially : {Val : Type 0} (m : ℕ → Val) → Inv m (fresh m) empty
initially m = record {
  ended = λ r. refl;
  begun = λ r d. d;
  commits = λ r d. d;
  target = λ a b g. absurd (false≢true g);
  source = λ a b g. absurd (false≢true g);
  topo = no_region;
  links = λ l. no_entry;
  listed = λ l r g. absurd (false≢true g);
  values = λ l. idle (λ r n y. refl) (bottom refl);
  medium = λ l. landed refl (λ q. refl);
  last = λ l. unwritten;
  covered = λ r q g. absurd (false≢true g);
}

pub reached : {Val : Type 0} {m : ℕ → Val} {s : State Val} {h : History Val} → Reach m s h → Inv m s h
reached {m = m} start = initially m
reached (then rc a ok) = keeps ok (reached rc)

-- ---- every list of allowed actions

pub runs : {Val : Type 0} {m : ℕ → Val} {s : State Val} {h : History Val} {as' : List (Action Val)} → Run s as' → Reach m s h
    → Reach m (acts s as') (notes h as')
runs stop rc = rc
runs (step {a = a} ok rn) rc = runs rn (then rc a ok)
