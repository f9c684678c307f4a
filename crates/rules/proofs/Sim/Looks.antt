-- Request 5: the looks of the accepted reads and the marks of the threads, event by event; and an accepted write breaks none of the looks.
use Rattle.undo.specs.Machine as u
use Rattle.undo.specs.History as v
use Rattle.undo.specs.Machine.{act}
use Rattle.undo.specs.History.{note}
use Prim.Native.Nat.{◌%◌, ◌+◌, ◌/◌, ◌<◌, ◌≤◌, ◌^◌, ℕ}
use mathlib.Core.Path.{◌∙◌, ◌≡◌, ap, refl, subst, sym}
use mathlib.Core.Logic.{◌≢◌, ⊎_elim}
use mathlib.Core.Bool.{◌&&◌, ◌||◌, cond, false, not, true, true≢false}
use mathlib.Core.List.Memᴰ
use mathlib.Core.List.{List, [], ◌∷◌, Memᴰ}
use lib.Bits.{bit_or}
use lib.Dec.{eqb, ltb}
use lib.ListN.{get_or, length, length-set}
use lib.Seq.{get_or-set_other, get_or-set_same}
use native.Mathlib.Omega.{arith}
use borrow.Author.Tests.{eq-eqb, eqb-false, eqb-true, ltb-false, ltb-true, ne_eqb, not-true}
use Rattle.rules.proofs.Bits.{bit_or_lem, bit_pow}
use Rattle.rules.proofs.Lists.{any_none}
use Rattle.rules.proofs.Sim.State.{Looks, Marks, Sim, Watched, looks, other, unread}
use Rattle.rules.proofs.Sim.Base.{Alike, thread_stored, threads_8}
use Rattle.rules.proofs.Sim.OneMore.{depth_uses, opened_uses, read_uses}
use Rattle.rules.proofs.Words.{eight}
use Rattle.rules.specs.Access.{also_read, has_read, is_set, note_read, word_places}
use Rattle.rules.specs.History.{Account, Closes, Cuts, Nothing, Opens, Sets, Stores, Uses, depth_in, has_read_in, opened_in, read_in, region_in}
use Rattle.rules.specs.Refusal.{is_read_elsewhere}
use Rattle.rules.specs.Tables.{key_of, thread_at, thread_of, with_reads, with_tables}
use Rattle.rules.specs.declared.Board.{Board}
use Rattle.rules.specs.declared.Thread.{Thread}
use Rattle.serial.proofs.Main.{begun, fair_read, fair_write, reaches}
use Rattle.serial.specs.Looks.{Look, Neither, Seeing, Writes, access_of, is_fair, look_at, see, then}
use Rattle.undo.proofs.Laws.{and_true, never, or_right, test}
use Rattle.undo.specs.Claim.{Reach}

pub reach : {m : ℕ → List ℕ} {b : Board} {es : List Account} {s : u.State (List ℕ)} {h : v.History (List ℕ)} → Watched m b es s h → Reach m s h
reach {m} {b} {es} {s} {h} w = reaches m s h w.seen w.seeing

-- ---- one action or one event more

-- the marks stay
pub marks_same : {b b' : Board} {es es' : List Account} → ((t : ℕ) → (thread_at t b'.tables).reads ≡ (thread_at t b.tables).reads)
    → ((t l : ℕ) → read_in t l es' ≡ read_in t l es) → Marks b es → Marks b' es'
marks_same f g w = record { words = λ t. rw (f t) (w.words t); marks = λ t l h. rw (f t, g t l) (w.marks t l h) }

module _ {m : ℕ → List ℕ} {b b' : Board} {es es' : List Account} {s : u.State (List ℕ)} {h : v.History (List ℕ)} (w : Watched m b es s h)
    (f : (ks : List (Look (List ℕ))) → Looks es ks → Looks es' ks) (g : Marks b es → Marks b' es') where
  -- no action
  pub stayed : Watched m b' es' s h
  stayed = record { seen = w.seen; seeing = w.seeing; looks = f w.seen w.looks; marks = g w.marks }

  -- an action that is no access
  pub acted : (a : u.Action (List ℕ)) → u.Allowed s a → access_of a ≡ Neither → Watched m b' es' (act s a) (note h a)
  acted a ok q =
      record {
        seen = w.seen;
        seeing = subst (λ c. Seeing m (act s a) (note h a) (see s h w.seen c)) q (then w.seeing a ok (rw q));
        looks = f w.seen w.looks;
        marks = g w.marks;
      }

-- an event that reads nothing and ends no region
pub alike : {m : ℕ → List ℕ} {b b' : Board} {es es' : List Account} {s : u.State (List ℕ)} {h : v.History (List ℕ)} → Alike es es'
    → ((t : ℕ) → (thread_at t b'.tables).reads ≡ (thread_at t b.tables).reads) → Watched m b es s h → Watched m b' es' s h
alike a f w = stayed w a.looks (marks_same f a.reads)

-- the same events, with tables whose marks are the same
pub acted_same : {m : ℕ → List ℕ} {b b' : Board} {es : List Account} {s : u.State (List ℕ)} {h : v.History (List ℕ)} → Watched m b es s h
    → ((t : ℕ) → (thread_at t b'.tables).reads ≡ (thread_at t b.tables).reads)
    → (a : u.Action (List ℕ)) → u.Allowed s a → access_of a ≡ Neither → Watched m b' es (act s a) (note h a)
acted_same w f a ok q = acted w (λ ks x. x) (marks_same f (λ t l. refl)) a ok q

pub stayed_same : {m : ℕ → List ℕ} {b b' : Board} {es : List Account} {s : u.State (List ℕ)} {h : v.History (List ℕ)} → Watched m b es s h
    → ((t : ℕ) → (thread_at t b'.tables).reads ≡ (thread_at t b.tables).reads) → Watched m b' es s h
stayed_same w f = stayed w (λ ks x. x) (marks_same f (λ t l. refl))

-- ---- the bit of a line: one more is set, the others stay

read_more : (l x : ℕ) (rs : List ℕ) → l < 256 → length rs ≡ 4
    → is_set (x % 64) (get_or (also_read l rs) (x / 64) 0) ≡ (eqb l x || is_set (x % 64) (get_or rs (x / 64) 0))
read_more l x rs h n =
    test (eqb (x / 64) (l / 64))
    (λ d. let q : x / 64 ≡ l / 64 = eqb-true (x / 64) (l / 64) d in
    rw (q, get_or-set_same rs (l / 64) (bit_or (2 ^ (l % 64)) (get_or rs (l / 64) 0)) 0 (omega arith))
    (bit_or_lem (2 ^ (l % 64)) (get_or rs (l / 64) 0) (x % 64)
    ∙ ap (λ y. y || is_set (x % 64) (get_or rs (l / 64) 0)) (bit_pow (l % 64) (x % 64) ∙ low q)))
    (λ d. let ne : x / 64 ≢ l / 64 = eqb-false (x / 64) (l / 64) d in
    rw (get_or-set_other rs (l / 64) (x / 64) (bit_or (2 ^ (l % 64)) (get_or rs (l / 64) 0)) 0 ne, ne_eqb l x (λ q. ne (rw q))))
  where
    low : x / 64 ≡ l / 64 → eqb (l % 64) (x % 64) ≡ eqb l x
    low q =
        test (eqb l x)
        (λ e. rw (e, eqb-true l x e) (eq-eqb (x % 64) (x % 64) refl))
        (λ e. rw e (ne_eqb (l % 64) (x % 64) (λ z. eqb-false l x e (omega arith))))

-- ---- what regions have read, by the events

-- a look is of a line that its region has read
look_read : {es : List Account} {ks : List (Look (List ℕ))} → Looks es ks → (k : Look (List ℕ)) → Memᴰ k ks → has_read_in k.rid k.line es ≡ true
unfolding has_read_in
look_read unread k i = absurd (Memᴰ.not-nil i)
look_read (looks {t = t} {l = l} {es = es} j r x y lk) k i =
    ⊎_elim
    (λ q. let a : region_in t es ≡ k.rid = sym (ap (λ (p : Look (List ℕ)). p.rid) q ∙ r) in
    let c : l ≡ k.line = sym (ap (λ (p : Look (List ℕ)). p.line) q ∙ x) in
    rw (eq-eqb (region_in t es) k.rid a, eq-eqb l k.line c))
    (λ q. or_right (eqb (region_in t es) k.rid && eqb l k.line) (look_read lk k q))
    (Memᴰ.cases_cons i)
look_read (other {e = Sets n s} q lk) k i = look_read lk k i
look_read (other {e = Opens u} q lk) k i = look_read lk k i
look_read (other {e = Closes u} q lk) k i = look_read lk k i
look_read (other {e = Uses u x} q lk) k i = absurd (true≢false q)
look_read (other {e = Stores u x f} q lk) k i = look_read lk k i
look_read (other {e = Cuts} q lk) k i = look_read lk k i
look_read (other {e = Nothing} q lk) k i = look_read lk k i

abbrev pub Few : List Account → Type 0
Few es = (t : ℕ) → opened_in t es ≤ 65535

-- what was few before a begin
fewer : (u : ℕ) (es : List Account) → Few (Opens u ∷ es) → Few es
unfolding opened_in
fewer u es h t = let z = h t in test (eqb u t && eqb (depth_in t es) 0) (λ d. let y : opened_in t es + 1 ≤ 65535 = rw d at z in omega arith) (λ d. rw d at z)

-- a region that its thread has not opened yet has read nothing
pub unread_yet : (es : List Account) → Few es → (t n l : ℕ) → opened_in t es < n → n ≤ 65535 → has_read_in (key_of t n) l es ≡ false
unfolding has_read_in opened_in
unread_yet [] few t n l h g = refl
unread_yet (Sets m s ∷ es) few t n l h g = unread_yet es few t n l h g
unread_yet (Opens u ∷ es) few t n l h g =
    unread_yet es (fewer u es few) t n l
    (test (eqb u t && eqb (depth_in t es) 0) (λ d. let z : opened_in t es + 1 < n = rw d at h in omega arith) (λ d. rw d at h)) g
unread_yet (Closes u ∷ es) few t n l h g = unread_yet es few t n l h g
unread_yet (Uses u x ∷ es) few t n l h g =
    let ne : eqb (region_in u es) (key_of t n) ≡ false = ne_eqb (region_in u es) (key_of t n) (λ q. later (few u) q) in
    rw ne (unread_yet es few t n l h g)
  where
    later : opened_in u es ≤ 65535 → key_of u (opened_in u es) ≡ key_of t n → ⊥
    later f q = let e : u ≡ t = omega arith in let z : opened_in u es < n = rw e h in omega arith
unread_yet (Stores u x f ∷ es) few t n l h g = unread_yet es few t n l h g
unread_yet (Cuts ∷ es) few t n l h g = unread_yet es few t n l h g
unread_yet (Nothing ∷ es) few t n l h g = unread_yet es few t n l h g

-- ---- an accepted write of thread t to line l breaks no look

module _ {m : ℕ → List ℕ} {b : Board} {es : List Account} {s : u.State (List ℕ)} {h : v.History (List ℕ)} (w : Watched m b es s h) (i : Sim b es s h) (t l : ℕ)
    (lt : l < 256) (free : is_read_elsewhere t l b.tables ≡ false) where
  -- a thread inside a region is one of eight
  inside : (x : ℕ) → depth_in x es ≢ 0 → x < 8
  inside x n =
      test (ltb x b.tables.size.threads)
      (λ d. omega (arith, ltb-true x b.tables.size.threads d, threads_8 b.tables i.shape))
      (λ d. absurd (n (sym (i.told.depth x) ∙ ap {A = Thread} (λ th. th.depth) (i.shape.threads.range x (ltb-false x b.tables.size.threads d)))))

  -- no other thread's open region has read the line
  pub read_alone : (x : ℕ) → read_in x l es ≡ true → x ≡ t
  read_alone x r =
      let g : x < 8 = inside x (eqb-false (depth_in x es) 0 (not-true (eqb (depth_in x es) 0) (and_true (not (eqb (depth_in x es) 0)) (has_read_in (region_in x es) l es) r).0)) in
      test (eqb x t)
      (λ d. eqb-true x t d)
      (λ d. let z = any_none (λ y. not (eqb y t) && has_read l (thread_at y b.tables)) word_places x 0 free g in
      never (w.marks.marks x l lt ∙ r) (rw d at (rw (eight (λ y. y) x g) at z)))

  -- a look at the line is the writer's own, or of a region that has ended
  ended_look : (k : Look (List ℕ)) → Memᴰ k w.seen → k.line ≡ l → eqb (region_in t es) k.rid ≡ false → s.over k.rid ≡ true
  ended_look k p e n =
      test (s.over k.rid) (λ d. d)
      (λ d. let x : ℕ = thread_of k.rid in
      let o = i.told.open_last k.rid (record { began = begun m s h w.seen w.seeing k p; goes_on = d }) in
      let r : read_in x l es ≡ true = rw (ne_eqb (depth_in x es) 0 o.1, ← o.0, ← e) (look_read w.looks k p) in
      absurd (eqb-false (region_in t es) k.rid n (sym (o.0 ∙ ap (λ a. region_in a es) (read_alone x r)))))

  -- the write as an action; the line's marks stay
  pub watched_write : {b' : Board} (f : List ℕ → List ℕ) → ((x : ℕ) → (thread_at x b'.tables).reads ≡ (thread_at x b.tables).reads)
      → (a : u.Action (List ℕ)) → u.Allowed s a → access_of a ≡ Writes (region_in t es) l → Watched m b' (Stores t l f ∷ es) (act s a) (note h a)
  unfolding has_read_in depth_in opened_in
  watched_write f same a ok q =
      record {
        seen = w.seen;
        seeing = subst (λ c. Seeing m (act s a) (note h a) (see s h w.seen c)) q
            (then w.seeing a ok (ap (is_fair s w.seen) q ∙ fair_write s (region_in t es) l w.seen ended_look));
        looks = other refl w.looks;
        marks = marks_same same (λ x y. refl) w.marks;
      }

-- an accepted read of thread t from line l, which is then marked
pub watched_read : {m : ℕ → List ℕ} {b b' : Board} {es : List Account} {s : u.State (List ℕ)} {h : v.History (List ℕ)} (t l : ℕ) → Watched m b es s h → Sim b es s h
    → u.Open s (region_in t es) → u.Allowed s (u.Read (region_in t es) l) → Marks b' (Uses t l ∷ es)
    → Watched m b' (Uses t l ∷ es) (act s (u.Read (region_in t es) l)) (note h (u.Read (region_in t es) l))
watched_read {s = s} {h = h} t l w i o ok mk =
    record {
      seen = look_at s h (region_in t _) l ∷ w.seen;
      seeing = then w.seeing (u.Read (region_in t _) l) ok (fair_read s (region_in t _) l w.seen o);
      looks = looks (look_at s h (region_in t _) l) refl refl i.told.writes w.looks;
      marks = mk;
    }

-- the bit of line l of thread t is set
pub marks_read : {b : Board} {es : List Account} (t l : ℕ) → l < 256 → t < length b.tables.threads → depth_in t es ≢ 0 → Few es → Marks b es
    → Marks (with_tables (note_read t l b.tables) b) (Uses t l ∷ es)
unfolding note_read
marks_read {b} {es} t l h g deep few w =
    record {
      words = λ x. rw (at x) (test (eqb x t)
          (λ d. rw d (length-set (thread_at t b.tables).reads (l / 64) _ ∙ w.words t))
          (λ d. rw d (w.words x)));
      marks = λ x y n. rw (at x, depth_uses t l x es, opened_uses t l x es, read_uses t (region_in x es) y es l, mine x) (test (eqb x t)
          (λ d. rw (d, eqb-true x t d, read_more l y (thread_at t b.tables).reads h (w.words t), w.marks t y n, ne_eqb (depth_in t es) 0 deep))
          (λ d. rw d (w.marks x y n)));
    }
  where
    at : (x : ℕ) → thread_at x (note_read t l b.tables) ≡ cond (eqb x t) (with_reads (also_read l (thread_at t b.tables).reads) (thread_at t b.tables)) (thread_at x b.tables)
    at = thread_stored t (with_reads (also_read l (thread_at t b.tables).reads) (thread_at t b.tables)) b.tables g

    -- two threads' regions are two
    mine : (x : ℕ) → eqb (region_in t es) (region_in x es) ≡ eqb x t
    mine x =
        test (eqb x t)
        (λ d. rw (d, eqb-true x t d) (eq-eqb (region_in t es) (region_in t es) refl))
        (λ d. rw d (ne_eqb (region_in t es) (region_in x es) (λ q. eqb-false x t d (sym (same (few t) (few x) q)))))
      where
        same : {x : ℕ} → opened_in t es ≤ 65535 → opened_in x es ≤ 65535 → key_of t (opened_in t es) ≡ key_of x (opened_in x es) → t ≡ x
        same f f' q = omega arith
