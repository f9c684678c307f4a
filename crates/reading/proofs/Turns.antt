-- A record judged by sizes, counts, last keys and the last log record is judged as by all that was read before it.
use Prim.Native.Nat.{◌+◌, ◌<◌, ◌≤◌, ℕ}
use mathlib.Core.Path.{◌≡◌, refl}
use mathlib.Core.Bool.{Bool, ◌&&◌, ◌||◌, cond, false, false≢true, not, or-false, true}
use mathlib.Core.List.{List, [], ◌++◌, ◌∷◌}
use lib.Dec.{eqb, leb, ltb}
use lib.ListN.{drop, get_or, length, take}
use native.Mathlib.Numerals.{add-one}
use native.Mathlib.Omega.{arith}
use borrow.Author.Tests.{eqb-false, eqb-true, leb-true, ltb-false, ltb-true, ne_eqb, not-true}
use Rattle.headed.proofs.Old.{header_bounds}
use Rattle.headed.specs.Reader.{Progress, fields_in, headed_body, header_turn, held_from, held_by, held_in, is_beside, is_header, is_kind_of, is_on_board, is_placed_in, onward, turn_in}
use Rattle.rules.specs.Bytes.{line_at, num_of}
use Rattle.rules.specs.Image.{sized, with_listed, with_logged, with_medium}
use Rattle.rules.specs.Lists.{all}
use Rattle.rules.specs.Reader.{Last, Next, Stop, Turn, end_turn, fields_turn, head_turn, is_known_thread, is_placed, key_at, last_listed, last_logged, line_turn, listed_at, listed_turn, logged_at, logged_turn, turn_by}
use Rattle.rules.specs.Refusal.{in_range}
use Rattle.rules.specs.Tables.{thread_of}
use Rattle.rules.specs.declared.Listed.{Listed}
use Rattle.undo.proofs.Laws.{and_true, test}
use Rattle.reading.specs.Item.{behind_short, count_for, end_item, entries_item, fields_item, head_item, in_order, item_of, placed, region_item, tally_of}
use Rattle.reading.specs.Spots.{holds, is_log_kind}
use Rattle.std.specs.Prelude.{Result, Ok, Err}
use Rattle.rules.specs.Codes.{code}
use Rattle.rules.specs.declared.Refusal.{Refusal}
use Rattle.reading.specs.declared.Item.{Item}
use Rattle.reading.specs.declared.Item.TheVariants.{End, Entries, Head, Line, Region}
use Rattle.reading.specs.declared.Tally.{Tally}
use Rattle.reading.proofs.Counts.{Few, count_of}
use Rattle.reading.proofs.Tests.{log_high}

-- what a record with this body adds
abbrev pub added : Progress → List ℕ → Item → Progress
added s bs (Head t l) = record { state = sized t l; kind = s.kind }
added s bs Line = record { state = with_medium (s.state.medium ++ (line_at bs 0 ∷ [])) s.state; kind = s.kind }
added s bs (Region r) = record { state = with_listed (s.state.regions ++ (r ∷ [])) s.state; kind = s.kind }
added s bs (Entries k d) = record { state = with_logged (s.state.log ++ held_in (holds d) bs) s.state; kind = d }
added s bs End = s

-- the record as a turn
abbrev pub turn_from : Progress → List ℕ → Result Item Refusal → Turn Progress
turn_from s bs (Err r) = Stop (code r)
turn_from s bs (Ok (Head t l)) = Next (added s bs (Head t l))
turn_from s bs (Ok Line) = Next (added s bs Line)
turn_from s bs (Ok (Region r)) = Next (added s bs (Region r))
turn_from s bs (Ok (Entries k d)) = Next (added s bs (Entries k d))
turn_from s bs (Ok End) = Last s

module _ (s : Progress) (bs : List ℕ) where
  head_turn_lem : onward s 32 (head_turn bs) ≡ turn_from s bs (head_item bs)
  unfolding head_turn head_item
  head_turn_lem = test (in_range (get_or bs 0 0) (num_of (take 2 (drop 1 bs)))) (λ e. rw e) (λ e. rw e)

  line_turn_lem : onward s 33 (line_turn s.state bs) ≡ turn_from s bs (Ok Line)
  unfolding line_turn
  line_turn_lem = refl

  region_turn : onward s 34 (listed_turn s.state (listed_at bs)) ≡ turn_from s bs (region_item (tally_of s) (listed_at bs))
  unfolding listed_turn listed_at region_item tally_of
  region_turn =
      test (all (is_known_thread s.state.threads) ((listed_at bs).key ∷ (listed_at bs).deps))
      (λ e. rw e (test (eqb (length s.state.regions) 0 || ltb (last_listed s.state.regions) (listed_at bs).key)
      (λ f. rw f (test (ltb (length s.state.regions) 32) (λ g. rw g) (λ g. rw g)))
      (λ f. rw f)))
      (λ e. rw e)

  -- a record of 35 has no place behind a header
  entry_turn : Few s.state.log → is_header s.kind ≡ false → onward s 35 (logged_turn s.state (logged_at bs)) ≡ turn_from s bs (entries_item (tally_of s) 35 bs)
  unfolding logged_turn logged_at entries_item tally_of held_from
  entry_turn few plain =
      test (is_known_thread s.state.threads (key_at bs 0))
      (λ e. rw e (test (ltb (get_or bs 3 0) s.state.lines)
      (λ f. rw f (test (leb (last_logged s.state.log) (key_at bs 0))
      (λ g. rw (g, plain, count_of s.state.log (key_at bs 0) few (leb-true (last_logged s.state.log) (key_at bs 0) g), add-one (count_for (tally_of s) (key_at bs 0)))
      (test (ltb (count_for (tally_of s) (key_at bs 0)) 32) (λ h. rw h) (λ h. rw h)))
      (λ g. rw g)))
      (λ f. rw f)))
      (λ e. rw e)

  header_turn_lem : (k : ℕ) → Few s.state.log → is_header k ≡ true → header_turn s k bs ≡ turn_from s bs (entries_item (tally_of s) k bs)
  unfolding header_turn entries_item tally_of
  header_turn_lem k few i =
      rw i
      (test (is_known_thread s.state.threads (key_at bs 0))
      (λ e. rw e (test (all (is_on_board s.state.lines) (held_in (held_by k) bs))
      (λ f. rw f (test (leb (last_logged s.state.log) (key_at bs 0))
      (λ g. rw (g, count_of s.state.log (key_at bs 0) few (leb-true (last_logged s.state.log) (key_at bs 0) g))
      (test (behind_short (tally_of s) (key_at bs 0)) (λ h. rw h)
      (λ h. rw h (test (leb (count_for (tally_of s) (key_at bs 0) + held_by k) 32) (λ j. rw (j, i)) (λ j. rw j)))))
      (λ g. rw g)))
      (λ f. rw f)))
      (λ e. rw e))

  end_turn_lem : (k : ℕ) → onward s k (end_turn s.state bs) ≡ turn_from s bs (end_item bs)
  unfolding end_turn end_item
  end_turn_lem k = test (eqb (length bs) 0) (λ e. rw e) (λ e. rw e)

  fields_turn_lem : (k : ℕ) → Few s.state.log → placed (tally_of s) k ≡ true → fields_in s k bs ≡ turn_from s bs (fields_item (tally_of s) k bs)
  unfolding fields_in fields_turn fields_item tally_of
  fields_turn_lem k few q =
      test (is_header k)
      (λ i. let b = (header_bounds k i).0 in
      rw (i, ne_eqb k 32 (λ z. omega arith), ne_eqb k 33 (λ z. omega arith), ne_eqb k 34 (λ z. omega arith), ne_eqb k 35 (λ z. omega arith)) (header_turn_lem k few i))
      (λ i. rw i (test (eqb k 32) (λ e. rw (eqb-true k 32 e) head_turn_lem)
      (λ e. rw e (test (eqb k 33) (λ f. rw (eqb-true k 33 f) line_turn_lem)
      (λ f. rw f (test (eqb k 34) (λ g. rw (eqb-true k 34 g) region_turn)
      (λ g. rw g (test (eqb k 35) (λ h. rw (eqb-true k 35 h) (entry_turn few (plain (rw (eqb-true k 35 h) at q))))
      (λ h. rw h (end_turn_lem k))))))))))
    where
      plain : placed (tally_of s) 35 ≡ true → is_header s.kind ≡ false
      plain q = rw (or-false (is_header s.kind)) at (not-true (is_header s.kind || false) (and_true (is_placed s.state 35) (not (is_beside s.kind 35)) q).1)

  pub turn_item : (headed : Bool) (k : ℕ) → Few s.state.log → turn_in headed s (k ∷ bs) ≡ turn_from s bs (item_of headed (tally_of s) (k ∷ bs))
  unfolding turn_by item_of tally_of
  turn_item headed k few =
      test (is_kind_of headed k)
      (λ e. rw e (test (is_placed_in s k)
      (λ f. rw f (test (leb (headed_body k) (length bs)) (λ g. rw g (fields_turn_lem k few f)) (λ g. rw g)))
      (λ f. rw f)))
      (λ e. rw e)

-- ---- what a record of kind b that is let through has shown

pub record Entered (s : Tally) (b : ℕ) (bs : List ℕ) (k d : ℕ) : Type 0 where
  pub kind : d ≡ b
  pub key : k ≡ key_at bs 0
  pub held : is_log_kind b ≡ true
  pub known : thread_of k < s.threads
  pub climbs : s.mark ≤ k
  pub room : count_for s k + holds b ≤ 32
  pub late : s.lines ≤ s.seen

pub data Shown (s : Tally) (b : ℕ) (bs : List ℕ) : Result Item Refusal → Type 0 where
  refuses : {r : Refusal} → Shown s b bs (Err r)
  head : {t l : ℕ} → b ≡ 32 → s.threads ≡ 0 → 1 ≤ t → t ≤ 8 → Shown s b bs (Ok (Head t l))
  line : b ≡ 33 → (s.threads ≡ 0 → ⊥) → s.seen < s.lines → Shown s b bs (Ok Line)
  region : {r : Listed} → b ≡ 34 → (s.threads ≡ 0 → ⊥) → eqb s.logged 0 ≡ true → s.held < 32 → Shown s b bs (Ok (Region r))
  entries : {k d : ℕ} → Entered s b bs k d → Shown s b bs (Ok (Entries k d))
  end : (s.threads ≡ 0 → ⊥) → Shown s b bs (Ok End)

module _ {s : Tally} {b : ℕ} {bs : List ℕ} where
  pub is_head : {t l : ℕ} → Shown s b bs (Ok (Head t l)) → s.threads ≡ 0
  is_head (head e z lo hi) = z

  pub is_line : Shown s b bs (Ok Line) → s.seen < s.lines
  is_line (line e n m) = m

  pub is_region : {r : Listed} → Shown s b bs (Ok (Region r)) → s.held < 32
  is_region (region e n l m) = m

  pub is_entries : {k d : ℕ} → Shown s b bs (Ok (Entries k d)) → Entered s b bs k d
  is_entries (entries e) = e

  pub is_end : Shown s b bs (Ok End) → s.threads ≡ 0 → ⊥
  is_end (end n) = n

-- the tests of a place, one behind the other
past : (a b : Bool) → cond a false b ≡ true → (a ≡ false) × (b ≡ true)
past true b e = absurd (false≢true e)
past false b e = (refl, e)

first : (a b c : Bool) → cond a true (cond b false (cond c false false)) ≡ true → a ≡ true
first true b c e = refl
first false true c e = e
first false false true e = e
first false false false e = e

second : (b c : Bool) → cond b true (cond c false false) ≡ true → b ≡ true
second true c e = refl
second false true e = e
second false false e = e

third : (c : Bool) → cond c true false ≡ true → c ≡ true
third true e = refl
third false e = e

module _ (s : Tally) (bs : List ℕ) where
  head_shown : in_order s 32 ≡ true → Shown s 32 bs (head_item bs)
  unfolding head_item
  head_shown q =
      let t = get_or bs 0 0 in
      let l = num_of (take 2 (drop 1 bs)) in
      let z = eqb-true s.threads 0 (first (eqb s.threads 0) (ltb s.seen s.lines) (eqb s.logged 0) q) in
      test (in_range t l)
      (λ f. let r = and_true (leb 1 t) (leb t 8) (and_true (leb 1 t && leb t 8) (leb 1 l && leb l 256) f).0 in rw f (head refl z (leb-true 1 t r.0) (leb-true t 8 r.1)))
      (λ f. rw f refuses)

  line_shown : in_order s 33 ≡ true → Shown s 33 bs (Ok Line)
  line_shown q =
      let a = past (eqb s.threads 0) _ q in
      line refl (eqb-false s.threads 0 a.0) (ltb-true s.seen s.lines (second (ltb s.seen s.lines) (eqb s.logged 0) a.1))

  region_shown : (r : Listed) → in_order s 34 ≡ true → Shown s 34 bs (region_item s r)
  unfolding region_item
  region_shown r q =
      let a = past (eqb s.threads 0) _ q in
      let b = past (ltb s.seen s.lines) _ a.1 in
      test (all (is_known_thread s.threads) (r.key ∷ r.deps))
      (λ e. rw e (test (eqb s.held 0 || ltb s.last r.key)
      (λ f. rw f (test (ltb s.held 32)
      (λ g. rw g (region refl (eqb-false s.threads 0 a.0) (third (eqb s.logged 0) b.1) (ltb-true s.held 32 g)))
      (λ g. rw g refuses)))
      (λ f. rw f refuses)))
      (λ e. rw e refuses)

  entries_shown : (k : ℕ) → is_log_kind k ≡ true → in_order s k ≡ true → Shown s k bs (entries_item s k bs)
  unfolding entries_item
  entries_shown k h q =
      let n = log_high k h in
      let a = past (eqb s.threads 0) _ (rw (ne_eqb k 32 (λ z. omega arith)) at q) in
      let b = past (ltb s.seen s.lines) _ (rw (ne_eqb k 33 (λ z. omega arith)) at a.1) in
      test (is_known_thread s.threads (key_at bs 0))
      (λ e. rw e (test (all (is_on_board s.lines) (held_in (holds k) bs))
      (λ f. rw f (test (leb s.mark (key_at bs 0))
      (λ g. rw g (test (behind_short s (key_at bs 0)) (λ i. rw i refuses)
      (λ i. rw i (test (leb (count_for s (key_at bs 0) + holds k) 32)
      (λ j. rw j (entries (record {
        kind = refl;
        key = refl;
        held = h;
        known = ltb-true (thread_of (key_at bs 0)) s.threads e;
        climbs = leb-true s.mark (key_at bs 0) g;
        room = leb-true (count_for s (key_at bs 0) + holds k) 32 j;
        late = ltb-false s.seen s.lines b.0;
      })))
      (λ j. rw j refuses)))))
      (λ g. rw g refuses)))
      (λ f. rw f refuses)))
      (λ e. rw e refuses)

  end_shown : (k : ℕ) → eqb k 32 ≡ false → in_order s k ≡ true → Shown s k bs (end_item bs)
  unfolding end_item
  end_shown k n q =
      test (eqb (length bs) 0)
      (λ e. rw e (end (eqb-false s.threads 0 (past (eqb s.threads 0) _ (rw n at q)).0)))
      (λ e. rw e refuses)

  fields_shown : (k : ℕ) → in_order s k ≡ true → Shown s k bs (fields_item s k bs)
  unfolding fields_item
  fields_shown k q =
      test (eqb k 32) (λ e. let n = eqb-true k 32 e in rw n (head_shown (rw n at q)))
      (λ e. rw e (test (eqb k 33) (λ f. let n = eqb-true k 33 f in rw n (line_shown (rw n at q)))
      (λ f. rw f (test (eqb k 34) (λ g. let n = eqb-true k 34 g in rw n (region_shown (listed_at bs) (rw n at q)))
      (λ g. rw g (test (is_log_kind k) (λ h. rw h (entries_shown k h q)) (λ h. rw h (end_shown k e q))))))))

  pub item_shown : (headed : Bool) (k : ℕ) → Shown s k bs (item_of headed s (k ∷ bs))
  unfolding item_of
  item_shown headed k =
      test (is_kind_of headed k)
      (λ e. rw e (test (placed s k)
      (λ f. rw f (test (leb (headed_body k) (length bs)) (λ g. rw g (fields_shown k (and_true (in_order s k) (not (is_beside s.kind k)) f).0)) (λ g. rw g refuses)))
      (λ f. rw f refuses)))
      (λ e. rw e refuses)
