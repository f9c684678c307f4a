-- The regions that commit in a step are the same, and as many, in any order of choice.
use Prim.Native.Nat.{◌<◌, ◌≤◌, suc, zero, ℕ}
use mathlib.Core.Path.{◌∙◌, ◌≡◌, ap, ap₂, refl, sym}
use mathlib.Core.Logic.{◌⊎◌, inl, inr, ⊎_elim}
use mathlib.Core.Bool.{Bool, ◌&&◌, ◌||◌, cond, false, not, true}
use mathlib.Core.List.{List, [], ◌∷◌, map}
use lib.Dec.{eqb, ltb}
use lib.ListN.{length, length-map}
use native.Mathlib.Omega.{arith}
use borrow.Author.Tests.{eqb-true, not-true}
use Rattle.rules.specs.Commit.{Settled, after_commit, before, commit, commits, done_region, earlier, earliest, earliest_from, settle, settled, without_dep}
use Rattle.rules.specs.Lists.{all, count}
use Rattle.rules.specs.Tables.{is_held, is_key, no_region, with_deps, with_regions}
use Rattle.rules.specs.declared.Region.{Region}
use Rattle.rules.specs.declared.Tables.{Tables}
use Rattle.undo.proofs.Laws.{and_true, flip, is_same, never, or_false, or_right, or_true, test}
use Rattle.undo.specs.Table.{any, is_in}
use Rattle.rules.proofs.Sim.Done.{earliest_none, without_zero}
use Rattle.rules.proofs.Lists.{count_le, eq_both}

-- ---- commits in any order

abbrev pub commits_as : ℕ → Region → Bool
commits_as k r = is_key k r && commits r

-- the regions, the keys of regions that commit one after the other, each free to commit when its turn comes, and the regions that are left
pub data Chain : List Region → List ℕ → List Region → Type 0 where
  stop : {rs : List Region} → Chain rs [] rs
  next : {rs qs : List Region} {k : ℕ} {ks : List ℕ} → any (commits_as k) rs ≡ true → Chain (map (after_commit k) rs) ks qs → Chain rs (k ∷ ks) qs

-- a dependence, and a region, after the commits of ks
abbrev pub wipe : List ℕ → ℕ → ℕ
wipe ks d = cond (is_in d ks) 0 d

unfoldable pub gone : List ℕ → Region → Region
gone ks r = cond (is_in r.key ks) no_region (with_deps (map (wipe ks) r.deps) r)

map_with : {A : Type 0} (f g h : A → A) → ((x : A) → f (g x) ≡ h x) → (xs : List A) → map f (map g xs) ≡ map h xs
map_with f g h e [] = refl
map_with f g h e (x ∷ xs) = ap₂ ◌∷◌ (e x) (map_with f g h e xs)

map_same : {A : Type 0} (f : A → A) → ((x : A) → f x ≡ x) → (xs : List A) → map f xs ≡ xs
map_same f e [] = refl
map_same f e (x ∷ xs) = ap₂ ◌∷◌ (e x) (map_same f e xs)

wipe_zero : (ks : List ℕ) → wipe ks 0 ≡ 0
wipe_zero ks = test (is_in 0 ks) (λ e. rw e) (λ e. rw e)

gone_none : (ks : List ℕ) → gone ks no_region ≡ no_region
unfolding gone
gone_none ks = test (is_in 0 ks) (λ e. rw e) (λ e. rw e)

after_none : (k : ℕ) → after_commit k no_region ≡ no_region
unfolding after_commit
after_none k = test (eqb 0 k) (λ e. rw e) (λ e. rw e)

gone_nothing : (r : Region) → gone [] r ≡ r
unfolding gone
gone_nothing r = ap (λ ds. with_deps ds r) (map_same (wipe []) (λ d. refl) r.deps)

-- one more commit, as the last or as the first
wipe_last : (k : ℕ) (ks : List ℕ) (d : ℕ) → without_dep k (wipe ks d) ≡ wipe (k ∷ ks) d
wipe_last k ks d =
    test (is_in d ks)
    (λ e. rw e (without_zero k ∙ test (eqb d k) (λ f. rw f) (λ f. rw f)))
    (λ e. rw e (test (eqb d k) (λ f. rw f) (λ f. rw f)))

wipe_first : (k : ℕ) (ks : List ℕ) (d : ℕ) → wipe ks (without_dep k d) ≡ wipe (k ∷ ks) d
wipe_first k ks d = test (eqb d k) (λ f. rw f (wipe_zero ks)) (λ f. rw f)

gone_last : (k : ℕ) (ks : List ℕ) (r : Region) → after_commit k (gone ks r) ≡ gone (k ∷ ks) r
unfolding gone after_commit
gone_last k ks r =
    test (is_in r.key ks)
    (λ e. rw e (after_none k ∙ test (eqb r.key k) (λ f. rw f) (λ f. rw f)))
    (λ e. rw e (test (eqb r.key k) (λ f. rw f) (λ f. rw f (ap (λ ds. with_deps ds r) (map_with (without_dep k) (wipe ks) (wipe (k ∷ ks)) (wipe_last k ks) r.deps)))))

gone_first : (k : ℕ) (ks : List ℕ) (r : Region) → gone ks (after_commit k r) ≡ gone (k ∷ ks) r
unfolding gone after_commit
gone_first k ks r =
    test (eqb r.key k)
    (λ f. rw f (gone_none ks))
    (λ f. rw f (test (is_in r.key ks) (λ e. rw e) (λ e. rw e (ap (λ ds. with_deps ds r) (map_with (wipe ks) (without_dep k) (wipe (k ∷ ks)) (wipe_first k ks) r.deps)))))

-- what a chain leaves
pub left_over : {rs qs : List Region} {ks : List ℕ} → Chain rs ks qs → qs ≡ map (gone ks) rs
left_over {rs} stop = sym (map_same (gone []) gone_nothing rs)
left_over {rs} (next {k = k} {ks = ks} p c) = left_over c ∙ map_with (gone ks) (after_commit k) (gone (k ∷ ks)) (gone_first k ks) rs

-- ---- a region that can commit after some commits can do so after more of them, unless it is one of those

module _ (cs js : List ℕ) (sub : (k : ℕ) → is_in k cs ≡ true → is_in k js ≡ true) where
  wiped : (d : ℕ) → eqb 0 (wipe cs d) ≡ true → eqb 0 (wipe js d) ≡ true
  wiped d e =
      test (is_in d js)
      (λ f. rw f)
      (λ f. rw f (test (is_in d cs) (λ g. never (sub d g) f) (λ g. rw g at e)))

  all_wiped : (ds : List ℕ) → all (eqb 0) (map (wipe cs) ds) ≡ true → all (eqb 0) (map (wipe js) ds) ≡ true
  all_wiped [] e = e
  all_wiped (d ∷ ds) e =
      let p = and_true (eqb 0 (wipe cs d)) (all (eqb 0) (map (wipe cs) ds)) e in
      rw (wiped d p.0) (all_wiped ds p.1)

  -- it is none of the first ones, so its key is still there
  still_there : (r : Region) → commits (gone cs r) ≡ true → is_in r.key cs ≡ false
  unfolding gone commits
  still_there r e = test (is_in r.key cs) (λ f. never (rw f at e) refl) (λ f. f)

  ripe : (r : Region) → commits (gone cs r) ≡ true → is_in r.key js ≡ false → commits (gone js r) ≡ true
  unfolding gone commits
  ripe r e f =
      let p = and_true (is_held r) (r.done && all (eqb 0) (map (wipe cs) r.deps)) (rw (still_there r e) at e) in
      let q = and_true r.done (all (eqb 0) (map (wipe cs) r.deps)) p.1 in
      rw (f, p.0, q.0) (all_wiped r.deps q.1)

  key_there : (r : Region) → commits (gone cs r) ≡ true → (gone cs r).key ≡ r.key
  unfolding gone
  key_there r e = rw (still_there r e)

  -- so a chain whose end leaves nothing to commit has it
  picked : (k : ℕ) → is_in k js ≡ false → (rs : List Region) → any (commits_as k) (map (gone cs) rs) ≡ true → any commits (map (gone js) rs) ≡ true
  picked k f [] e = e
  picked k f (r ∷ rs) e =
      ⊎_elim
      (λ a.
      let p = and_true (is_key k (gone cs r)) (commits (gone cs r)) a in
      let s : r.key ≡ k = sym (key_there r p.1) ∙ eqb-true (gone cs r).key k p.0 in
      let y : commits (gone js r) ≡ true = ripe r p.1 (ap (λ x. is_in x js) s ∙ f) in
      rw y)
      (λ a. or_right (commits (gone js r)) (picked k f rs a))
      (or_true (commits_as k (gone cs r)) (any (commits_as k) (map (gone cs) rs)) e)

-- every region of a chain is in one that ends where no region can commit
within : (rs : List Region) (js cs : List ℕ) → any commits (map (gone js) rs) ≡ false → ((k : ℕ) → is_in k cs ≡ true → is_in k js ≡ true) → {ss qs : List Region} {ks : List ℕ} → Chain ss ks qs → ss ≡ map (gone cs) rs → (k : ℕ) → is_in k ks ≡ true → is_in k js ≡ true
within rs js cs rest sub stop e k h = never h refl
within rs js cs rest sub (next {k = j} {ks = ks} p c) e k h =
    let there : is_in j js ≡ true = test (is_in j js) (λ f. f) (λ f. never (picked cs js sub j f rs (rw e at p)) rest) in
    let more : (i : ℕ) → is_in i (j ∷ cs) ≡ true → is_in i js ≡ true = λ i a. ⊎_elim (λ b. ap (λ x. is_in x js) (eqb-true i j b) ∙ there) (λ b. sub i b) (or_true (eqb i j) (is_in i cs) a) in
    ⊎_elim
    (λ b. ap (λ x. is_in x js) (eqb-true k j b) ∙ there)
    (λ b. within rs js (j ∷ cs) rest more c (ap (map (after_commit j)) e ∙ map_with (after_commit j) (gone cs) (gone (j ∷ cs)) (gone_last j cs) rs) k b)
    (or_true (eqb k j) (is_in k ks) h)

included : {rs qs ps : List Region} {ks js : List ℕ} → Chain rs ks qs → Chain rs js ps → any commits ps ≡ false → (k : ℕ) → is_in k ks ≡ true → is_in k js ≡ true
included {rs} {js = js} c d rest k h =
    within rs js [] (ap (any commits) (sym (left_over d)) ∙ rest) (λ i a. never a refl) c (sym (map_same (gone []) gone_nothing rs)) k h

-- no region commits twice, so that a chain has as many keys as regions

left_out : (k j : ℕ) (rs : List Region) → eqb k 0 ≡ false → any (is_key k) rs ≡ false → any (is_key k) (map (after_commit j) rs) ≡ false
unfolding after_commit
left_out k j [] z e = refl
left_out k j (r ∷ rs) z e =
    let p = or_false (is_key k r) (any (is_key k) rs) e in
    test (eqb r.key j) (λ f. rw (f, flip k 0 z) (left_out k j rs z p.1)) (λ f. rw (f, p.0) (left_out k j rs z p.1))

taken_out : (k : ℕ) (rs : List Region) → eqb k 0 ≡ false → any (is_key k) (map (after_commit k) rs) ≡ false
unfolding after_commit
taken_out k [] z = refl
taken_out k (r ∷ rs) z = test (eqb r.key k) (λ f. rw (f, flip k 0 z) (taken_out k rs z)) (λ f. rw (f, f) (taken_out k rs z))

-- a key that is chosen is a key of the list, and not 0
chosen : (k : ℕ) (rs : List Region) → any (commits_as k) rs ≡ true → (any (is_key k) rs ≡ true) × (eqb k 0 ≡ false)
unfolding commits
chosen k [] e = never e refl
chosen k (r ∷ rs) e =
    ⊎_elim
    (λ a. let p = and_true (is_key k r) (commits r) a in
    let h = not-true (eqb r.key 0) (and_true (is_held r) (r.done && all (eqb 0) r.deps) p.1).0 in
    (rw p.0, rw (← eqb-true r.key k p.0) h))
    (λ a. let z = chosen k rs a in (or_right (is_key k r) z.0, z.1))
    (or_true (commits_as k r) (any (commits_as k) rs) e)

not_again : {rs qs : List Region} {ks : List ℕ} (k : ℕ) → eqb k 0 ≡ false → any (is_key k) rs ≡ false → Chain rs ks qs → is_in k ks ≡ false
not_again k z e stop = refl
not_again {rs} k z e (next {k = j} {ks = ks} p c) =
    let y : eqb k j ≡ false = test (eqb k j) (λ f. never (rw (← eqb-true k j f) at (chosen j rs p).0) e) (λ f. f) in
    rw y (not_again k z (left_out k j rs z e) c)

-- a list without its first k
abbrev pub drop_one : ℕ → List ℕ → List ℕ
drop_one k [] = []
drop_one k (x ∷ xs) = cond (eqb k x) xs (x ∷ drop_one k xs)

pub one_fewer : (k : ℕ) (xs : List ℕ) → is_in k xs ≡ true → length xs ≡ suc (length (drop_one k xs))
one_fewer k [] e = never e refl
one_fewer k (x ∷ xs) e = test (eqb k x) (λ f. rw f) (λ f. rw f (ap suc (one_fewer k xs (rw f at e))))

pub still_in : (j k : ℕ) (xs : List ℕ) → eqb j k ≡ false → is_in j xs ≡ true → is_in j (drop_one k xs) ≡ true
still_in j k [] n e = e
still_in j k (x ∷ xs) n e =
    test (eqb k x)
    (λ f. let y : eqb j x ≡ false = rw (← eqb-true k x f) n in rw f (rw y at e))
    (λ f. rw f (test (eqb j x) (λ g. rw g) (λ g. rw g (still_in j k xs n (rw g at e)))))

-- a chain whose keys are all in a list is not longer than it
no_longer : {rs qs : List Region} {ks : List ℕ} (js : List ℕ) → Chain rs ks qs → ((k : ℕ) → is_in k ks ≡ true → is_in k js ≡ true) → length ks ≤ length js
no_longer js stop sub = omega arith
no_longer {rs} js (next {k = k} {ks = ks} p c) sub =
    let z = chosen k rs p in
    let out : is_in k ks ≡ false = not_again k z.1 (taken_out k rs z.1) c in
    let there = one_fewer k js (sub k (rw (is_same k))) in
    let ih = no_longer (drop_one k js) c
    (λ j e. still_in j k js (test (eqb j k) (λ f. never (rw (eqb-true j k f) at e) out) (λ f. f)) (sub j (or_right (eqb j k) e))) in
    omega arith

-- what has committed when no region can commit any more does not depend on the order of choice, and neither does how many
pub any_order : {rs qs ps : List Region} {ks js : List ℕ} → Chain rs ks qs → any commits qs ≡ false → Chain rs js ps → any commits ps ≡ false
    → ((k : ℕ) → is_in k ks ≡ is_in k js) × (length ks ≡ length js)
any_order {ks = ks} {js = js} c p d q =
    let a = no_longer js c (included c d q) in
    let b = no_longer ks d (included d c p) in
    (λ k. eq_both (is_in k ks) (is_in k js) (included c d q k) (included d c p k), omega arith)

-- ---- the commits of a step are such a chain, and none is left: "until no region can commit"

-- the region that the definition chooses is in the list, unless it is the one that the walk began with
found : (best : Region) (rs : List Region) → (earliest_from best rs ≡ best) ⊎ (any (commits_as (earliest_from best rs).key) rs ≡ true)
unfolding earliest_from earlier
found best [] = inl refl
found best (r ∷ rs) =
    ⊎_elim
    (λ q.
    test (commits r && (not (commits best) || ltb r.stamp best.stamp))
    (λ t.
    let s : earliest_from (earlier best r) rs ≡ r = q ∙ rw t in
    inr (rw (s, is_same r.key, (and_true (commits r) (not (commits best) || ltb r.stamp best.stamp) t).0)))
    (λ t. inl (q ∙ rw t)))
    (λ a. inr (or_right (commits_as (earliest_from (earlier best r) rs).key r) a))
    (found (earlier best r) rs)

earliest_in : (rs : List Region) → commits (earliest rs) ≡ true → any (commits_as (earliest rs).key) rs ≡ true
unfolding commits
earliest_in rs e = ⊎_elim (λ q. never e (ap commits q)) (λ a. a) (found no_region rs)

-- if it cannot commit, no region can
-- each commit takes a place of the list
held_most : (k : ℕ) (rs : List Region) → count is_held (map (after_commit k) rs) ≤ count is_held rs
unfolding count after_commit
held_most k [] = omega arith
held_most k (r ∷ rs) =
    let h = held_most k rs in
    test (eqb r.key k)
    (λ f. test (eqb r.key 0) (λ g. rw (f, g) h) (λ g. rw (f, g) (omega arith)))
    (λ f. test (eqb r.key 0) (λ g. rw (f, g) h) (λ g. rw (f, g) (omega arith)))

held_less : (k : ℕ) (rs : List Region) → any (commits_as k) rs ≡ true → count is_held (map (after_commit k) rs) < count is_held rs
unfolding count after_commit commits
held_less k [] e = never e refl
held_less k (r ∷ rs) e =
    let h = held_most k rs in
    ⊎_elim
    (λ a.
    let p = and_true (is_key k r) (commits r) a in
    let g = not-true (eqb r.key 0) (and_true (is_held r) (r.done && all (eqb 0) r.deps) p.1).0 in
    rw (p.0, g) (omega arith))
    (λ a.
    let l = held_less k rs a in
    test (eqb r.key k)
    (λ f. test (eqb r.key 0) (λ g. rw (f, g) l) (λ g. rw (f, g) (omega arith)))
    (λ f. test (eqb r.key 0) (λ g. rw (f, g) l) (λ g. rw (f, g) (omega arith))))
    (or_true (commits_as k r) (any (commits_as k) rs) e)

none_held : (rs : List Region) → count is_held rs ≤ 0 → any commits rs ≡ false
unfolding count commits
none_held [] h = refl
none_held (r ∷ rs) h =
    test (eqb r.key 0)
    (λ g. rw g (none_held rs (rw g at h)))
    (λ g. absurd (let z : suc (count is_held rs) ≤ 0 = rw g at h in omega arith))

-- the commits of some regions: a chain, and no region that can commit is left
pub record Ends (rs : List Region) (s : Settled) : Type 0 where
  pub chain : Chain rs s.keys s.tables.regions
  pub rest : any commits s.tables.regions ≡ false

settle_yes : (n : ℕ) (ts : Tables) → commits (earliest ts.regions) ≡ true
    → settle (suc n) ts ≡ before (earliest ts.regions).key (settle n (commit (earliest ts.regions).key ts))
unfolding settle
settle_yes n ts e = rw (e, settle)

settle_no : (n : ℕ) (ts : Tables) → commits (earliest ts.regions) ≡ false → settle (suc n) ts ≡ record { tables = ts; keys = [] }
unfolding settle
settle_no n ts e = rw (e, settle)

ends : (n : ℕ) (ts : Tables) → count is_held ts.regions ≤ n → Ends ts.regions (settle n ts)
unfolding settle commit
ends zero ts h = record { chain = stop; rest = none_held ts.regions h }
ends (suc n) ts h =
    test (commits (earliest ts.regions))
    (λ e.
    let k = (earliest ts.regions).key in
    let l = held_less k ts.regions (earliest_in ts.regions e) in
    let i = ends n (commit k ts) (omega arith) in
    rw (settle_yes n ts e) (record { chain = next (earliest_in ts.regions e) i.chain; rest = i.rest }))
    (λ e. rw (settle_no n ts e) (record { chain = stop; rest = (earliest_none no_region ts.regions e).1 }))

pub settled_ends : (ts : Tables) → Ends (map done_region ts.regions) (settled ts)
unfolding settled
settled_ends ts =
    let h = count_le is_held (map done_region ts.regions) in
    ends (length ts.regions) (with_regions (map done_region ts.regions) ts) (omega (arith, length-map ts.regions done_region))

-- what commits in a step does not depend on the order of choice among the committable, and neither does the value, which is its number
pub step_order : (ts : Tables) {ps : List Region} {js : List ℕ} → Chain (map done_region ts.regions) js ps → any commits ps ≡ false
    → ((k : ℕ) → is_in k js ≡ is_in k (settled ts).keys) × (length js ≡ length (settled ts).keys)
step_order ts c p = any_order c p (settled_ends ts).chain (settled_ends ts).rest
