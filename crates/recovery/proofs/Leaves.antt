-- The entry that a step puts back, by its place in the log, and what the step then leaves.
use Rattle.std.specs.Prelude.{None, Option, Some, Ok, is_some, not}
use Prim.Native.Nat.{◌%◌, ◌*◌, ◌+◌, ◌<◌, ◌≤◌, suc, zero, ℕ}
use mathlib.Core.Path.{◌∙◌, ◌≡◌, ap, refl, sym}
use mathlib.Core.Bool.{Bool, false, true}
use mathlib.Core.List.{List, [], ◌∷◌, map}
use lib.Dec.{eqb, ltb}
use lib.ListN.{drop, get_or, length, length-append, length-drop, length-map, take}
use lib.Seq.{get_or-take}
use native.Mathlib.Numerals.{add-one}
use native.Mathlib.Omega.{arith}
use borrow.Author.Tests.{ne_eqb}
use Rattle.headed.specs.Reader.{read_as, records_read_as}
use Rattle.reading.proofs.Spots.{length_marks, stand_at}
use Rattle.reading.proofs.Walk.{Laid, read_laid}
use Rattle.reading.specs.Scan.{log_of, olds_of, read_of, regions_of, scan_of}
use Rattle.reading.specs.declared.Scan.{Scan}
use Rattle.recovery.proofs.Accepted.{log_front, read_records, reads_plain, regions_all, regions_front, state_read}
use Rattle.recovery.proofs.Places.{accepted_image, image_short}
use Rattle.recovery.specs.Places.{found_at, next_of, walked_keys}
use Rattle.rules.specs.Bytes.{line_at}
use Rattle.rules.specs.Claim.{is_byte}
use Rattle.rules.specs.Image.{Logged, Persistent, no_listed, no_logged}
use Rattle.rules.specs.Lists.{all}
use Rattle.rules.specs.Marks.{mark_at, marks_of}
use Rattle.rules.specs.Reader.{Reads}
use Rattle.rules.specs.Walk.{next_place, walk, walk_entries, walk_from, without}
use Rattle.rules.specs.declared.Listed.{Listed}
use Rattle.rules.specs.declared.Mark.{Mark}
use Rattle.undo.proofs.Laws.{test}
use Rattle.walking.proofs.Walked.{entry_found, entry_none, found_below, indices_in, keys_of, walk_entries_lem}
use Rattle.walking.proofs.Held.{held_keys}
use Rattle.walking.specs.Indices.{entry_at, held_order, indices_of, last_first, nth, order_of, walk_indices}
use Rattle.walking.specs.declared.Order.{Order}

-- ---- marks

keys_marks : (ps : List ℕ) (es : List Logged) → map (λ m. m.key) (marks_of ps es) ≡ map (λ e. e.key) es
keys_marks ps [] = refl
keys_marks ps (e ∷ es) = ap (◌∷◌ e.key) (keys_marks (drop 1 ps) es)

second : (ps : List ℕ) (n : ℕ) → get_or (drop 1 ps) n 0 ≡ get_or ps (suc n) 0
second [] n = refl
second (p ∷ ps) n = refl

mark_at_lem : (ps : List ℕ) (es : List Logged) (i : ℕ) (d : Mark) (z : Logged) → i < length es → get_or (marks_of ps es) i d ≡ mark_at (get_or ps i 0) (get_or es i z)
mark_at_lem ps [] i d z h = absurd (omega arith)
mark_at_lem ps (e ∷ es) zero d z h = refl
mark_at_lem ps (e ∷ es) (suc i) d z h = mark_at_lem (drop 1 ps) es i d z (omega arith) ∙ rw (second ps i)

-- ---- the walk has at most 8192 entries

last_long : (k n : ℕ) (ks : List ℕ) → length (last_first k n ks) ≤ n
unfolding last_first
last_long k zero ks = omega arith
last_long k (suc n) ks =
    let ih = last_long k n ks in
    test (eqb (get_or ks n 0) k) (λ e. rw e (omega arith)) (λ e. rw e (omega arith))

indices_long : (rs ks : List ℕ) → length ks ≤ 256 → length (walk_indices rs ks) ≤ 256 * length rs
unfolding walk_indices
indices_long [] ks h = omega arith
indices_long (k ∷ rs) ks h =
    let ih = indices_long rs ks h in
    rw (length-append (indices_of ks k) (walk_indices rs ks)) (omega (arith, last_long k (length ks) ks))

walk_short : (n : ℕ) (rs : List Listed) → length (walk_from n rs) ≤ n
unfolding walk_from
walk_short zero rs = omega arith
walk_short (suc n) rs = go (ltb (next_place rs) (length rs)) (walk_short n (without (next_place rs) rs))
  where
    go : (b : Bool) → length (walk_from n (without (next_place rs) rs)) ≤ n
        → length {A = ℕ} (elim b [ false ↦ [] | true ↦ (get_or rs (next_place rs) no_listed).key ∷ walk_from n (without (next_place rs) rs) ]) ≤ suc n
    go false h = omega arith
    go true h = omega arith

pub walk_few : (p : Persistent) → (length p.regions ≤ 32) × (length p.log ≤ 256) → length (walk_entries p) ≤ 8192
unfolding walk
walk_few p few =
    let m : length (keys_of p) ≡ length p.log = length-map p.log (λ e. e.key) in
    let n : length (walk_entries p) ≡ length (indices_in p) = rw (walk_entries_lem p) (length-map (indices_in p) (λ i. get_or p.log i no_logged)) in
    omega (arith, indices_long (walk p) (keys_of p) (omega (arith, few.1)), walk_short (length p.regions) p.regions, few.0)

-- ---- the entry at a place of the walk

module _ (ps : List ℕ) (s : Scan) (p : Persistent) (e : s ≡ scan_of ps p) (few : (length p.regions ≤ 32) × (length p.log ≤ 256)) where
  logged_is : s.logged ≡ length p.log
  unfolding scan_of
  logged_is = ap (λ x. x.logged) e

  found_is : (at : ℕ) → found_at s at ≡ nth (indices_in p) at
  unfolding walk
  found_is at = rw (regions_front ps s p e few, log_front ps s p e few, keys_marks ps p.log)

  pub none_found : (at : ℕ) → found_at s at ≡ None → drop at (walk_entries p) ≡ []
  none_found at f = entry_none p at (sym (found_is at) ∙ f)

  pub one_found : (at i : ℕ) → found_at s at ≡ Some i → drop at (walk_entries p) ≡ get_or p.log i no_logged ∷ drop (suc at) (walk_entries p)
  one_found at i f = entry_found p at i (sym (found_is at) ∙ f)

  pub inside_found : (at i : ℕ) → found_at s at ≡ Some i → i < s.logged
  inside_found at i f =
      let m : length (keys_of p) ≡ length p.log = length-map p.log (λ e. e.key) in
      rw (logged_is, ← m) (found_below (walk p) (keys_of p) at i (sym (found_is at) ∙ f))

  pub soon_found : (at i : ℕ) → found_at s at ≡ Some i → at < 8192
  soon_found at i f = omega (arith, length-drop at (walk_entries p), ap length (one_found at i f), walk_few p few)

  -- 'more' while entries are left
  pub more_found : (at : ℕ) → is_some (found_at s at) ≡ not (eqb (length (drop at (walk_entries p))) 0)
  more_found at = go (found_at s at) refl
    where
      go : (g : Option ℕ) → found_at s at ≡ g → is_some g ≡ not (eqb (length (drop at (walk_entries p))) 0)
      go (Some i) f = rw (one_found at i f, ne_eqb (suc (length (drop (suc at) (walk_entries p)))) 0 (λ z. omega arith))
      go None f = rw (none_found at f)

  -- the entry that is put back
  pub mark_is : (i : ℕ) (d : Mark) → i < s.logged → get_or s.log i d ≡ mark_at (get_or ps i 0) (get_or p.log i no_logged)
  mark_is i d h =
      sym (get_or-take s.logged s.log i d h) ∙ ap (λ x. get_or x i d) (log_front ps s p e few) ∙ mark_at_lem ps p.log i d no_logged (rw logged_is at h)

-- ---- a step

module _ (headed : Bool) (bs : List ℕ) (bytes : all is_byte bs ≡ true) (at : ℕ) where
  module _ (s : Scan) (e : Ok s ≡ read_of bs (read_as headed bs)) where
    abbrev state : Persistent
    state = state_read (read_as headed bs)

    state_reads : read_as headed bs ≡ Reads state
    state_reads = (reads_plain bs (read_as headed bs) s e).0

    records_read : records_read_as headed bs ≡ Reads state
    records_read = read_records headed bs state state_reads

    state_laid : Laid bs state
    state_laid = read_laid headed bs state records_read

    state_few : (length state.regions ≤ 32) × (length state.log ≤ 256)
    state_few = state_laid.few

    scan_is : s ≡ scan_of (olds_of bs state) state
    scan_is = (reads_plain bs (read_as headed bs) s e).1

    -- the entry at a place, as a search along the order that was made has told it
    pub found_by : (rs : List Listed) → rs ≡ regions_of s → (ms : List Mark) → ms ≡ log_of s → (o : Order) → o ≡ held_order (walk_from (length (take 32 rs)) (take 32 rs))
        → (n : ℕ) (g : Option ℕ) → g ≡ entry_at (order_of o) ms n → found_at s n ≡ g
    found_by rs r ms m o q n g f = sym (f ∙ rw (q, m, r, regions_all (olds_of bs state) s state scan_is state_few, held_keys (walked_keys s)))

    pub next_past : found_at s at ≡ None → Ok None ≡ next_of (read_as headed bs) at
    next_past f = rw (state_reads, none_found (olds_of bs state) s state scan_is state_few at f)

    module _ (i : ℕ) (f : found_at s at ≡ Some i) where
      pub at_small : at < 8192
      at_small = soon_found (olds_of bs state) s state scan_is state_few at i f

      pub index_small : i < s.logged
      index_small = inside_found (olds_of bs state) s state scan_is state_few at i f

      in_log : i < length state.log
      in_log = rw (logged_is (olds_of bs state) s state scan_is state_few) at index_small

      found_mark : (d : Mark) → get_or s.log i d ≡ mark_at (get_or (olds_of bs state) i 0) (get_or state.log i no_logged)
      found_mark d = mark_is (olds_of bs state) s state scan_is state_few i d index_small

      -- the old line stands at the mark's place
      old_is : (line_at bs (get_or (olds_of bs state) i 0) ≡ (get_or state.log i no_logged).old) × (get_or (olds_of bs state) i 0 + 64 ≤ length bs)
      old_is = stand_at state_laid.stand i no_logged in_log

      -- which is below 65536
      place_small : get_or (olds_of bs state) i 0 % 65536 ≡ get_or (olds_of bs state) i 0
      place_small =
          let n : length bs ≤ 34853 = image_short (accepted_image headed bs state bytes records_read) state_few.1 in
          omega (arith, old_is.1)

      -- the mark, in the log as it is read
      mark_there : (d : Mark) → get_or (log_of s) i d ≡ get_or s.log i d
      mark_there d = get_or-take s.logged s.log i d index_small

      pub index_inside : i < length (log_of s)
      index_inside = rw (log_front (olds_of bs state) s state scan_is state_few, length_marks (olds_of bs state) state.log) in_log

      pub log_few : length (log_of s) ≤ 256
      log_few = rw (log_front (olds_of bs state) s state scan_is state_few, length_marks (olds_of bs state) state.log) state_few.1

      pub old_room : (d : Mark) → (get_or (log_of s) i d).at + 64 ≤ length bs
      old_room d = rw (mark_there d, found_mark d, place_small) old_is.1

      pub next_more : (d : Mark) (g : Option ℕ) → g ≡ found_at s (at + 1)
          → Ok (Some (record { key = (get_or (log_of s) i d).key; line = (get_or (log_of s) i d).line; old = line_at bs (get_or (log_of s) i d).at; more = is_some g })) ≡ next_of (read_as headed bs) at
      next_more d g q =
          rw (
            state_reads,
            one_found (olds_of bs state) s state scan_is state_few at i f,
            q,
            add-one at,
            more_found (olds_of bs state) s state scan_is state_few (suc at),
            mark_there d,
            found_mark d,
            place_small,
            old_is.0,
          )
