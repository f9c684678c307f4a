-- What the call that tells of a log entry says of a step: the entries of an accepted image have keys above 0 and lines below 256.
use Rattle.std.specs.Prelude.{None, Option, Some}
use Prim.Native.Nat.{◌%◌, ◌*◌, ◌+◌, ◌/◌, ◌<◌, ◌≤◌, ℕ}
use mathlib.Core.Path.{◌≡◌, ap, refl, subst}
use mathlib.Core.Logic.{◌≢◌}
use mathlib.Core.Bool.{Bool, ◌||◌, cond, false, not, true}
use mathlib.Core.List.{List, [], ◌++◌, ◌∷◌}
use lib.Dec.{eqb, leb, ltb}
use lib.ListN.{drop, get_or, length, length-map, take}
use native.Mathlib.Omega.{arith}
use borrow.Author.Tests.{eqb-true, ltb-true, not-false}
use Rattle.headed.specs.Reader.{Progress, fields_in, headed_body, header_turn, held_by, held_in, is_behind_short, is_header, is_kind_of, is_on_board, is_placed_in, onward, read_as, records_in, records_read_as, state_read, turn_in, unread}
use Rattle.headed.specs.Recovery.{restore_as}
use Rattle.recovery.specs.Places.{entry_call}
use Rattle.recovery.specs.Tells.{EntriesTold, Told}
use Rattle.rules.proofs.Codec.Bytes.{all_append, all_at}
use Rattle.rules.proofs.Codec.Image.{accepted}
use Rattle.rules.proofs.Codec.Records.{along_read, is_on, not_reads, read_or, turn_passed}
use Rattle.rules.proofs.Codec.Turns.{size_lines}
use Rattle.rules.proofs.Lists.{any_none}
use Rattle.rules.specs.Bytes.{num_of}
use Rattle.rules.specs.Contradiction.{contradicts, in_order, is_astray, is_listed, is_unknown_state, is_unnumbered}
use Rattle.rules.specs.Image.{Logged, Persistent, no_logged, sized, with_logged}
use Rattle.rules.specs.Lists.{all, count}
use Rattle.rules.specs.Reader.{Last, Next, Reads, Refuses, Stop, Turn, Verdict, end_turn, fields_turn, head_turn, is_known_thread, is_logged_by, key_at, last_listed, last_logged, line_turn, listed_at, listed_turn, logged_at, logged_turn}
use Rattle.rules.specs.Recovery.{restore_by}
use Rattle.rules.specs.Refusal.{in_range}
use Rattle.rules.specs.Tables.{number_of, thread_of}
use Rattle.rules.specs.Walk.{walk, walk_entries}
use Rattle.rules.specs.declared.Listed.{Listed}
use Rattle.undo.proofs.Laws.{never, or_false, test}
use Rattle.undo.specs.Table.{any}
use Rattle.walking.proofs.Walked.{entry_found, entry_none, found_below, indices_in, keys_of}
use Rattle.walking.specs.Indices.{nth}

-- ---- lines

-- at most 256 lines, and the log's lines are among them
pub record Boarded (p : Persistent) : Type 0 where
  pub lines : p.lines ≤ 256
  pub log : all (is_on_board p.lines) p.log ≡ true

-- what holds of the state behind a turn that goes on
abbrev Behind : {S : Type 0} → (S → Type 0) → Turn S → Type 0
Behind P (Stop n) = Unit {0}
Behind P (Next q) = P q
Behind P (Last q) = P q

passes : {S : Type 0} (P : S → Type 0) (b : Bool) (t u : Turn S) → (b ≡ true → Behind P t) → Behind P u → Behind P (cond b t u)
passes P true t u f g = f refl
passes P false t u f g = g

module _ (p : Persistent) (g : Boarded p) where
  more_boarded : (es : List Logged) → all (is_on_board p.lines) es ≡ true → Boarded (with_logged (p.log ++ es) p)
  more_boarded es e = record { lines = g.lines; log = all_append (is_on_board p.lines) p.log es g.log e }

  head_boarded : (bs : List ℕ) → Behind Boarded (head_turn bs)
  unfolding head_turn
  head_boarded bs =
      let n = get_or bs 0 0 in
      let l = num_of (take 2 (drop 1 bs)) in
      passes Boarded (in_range n l) (Next (sized n l)) (Stop 6) (λ e. record { lines = (size_lines n l e).1; log = refl }) tt

  region_boarded : (r : Listed) → Behind Boarded (listed_turn p r)
  unfolding listed_turn
  region_boarded r =
      passes Boarded (all (is_known_thread p.threads) (r.key ∷ r.deps)) _ (Stop 3)
      (λ a. passes Boarded (eqb (length p.regions) 0 || ltb (last_listed p.regions) r.key) _ (Stop 7)
      (λ b. passes Boarded (ltb (length p.regions) 32) (Next _) (Stop 7) (λ c. record { lines = g.lines; log = g.log }) tt) tt) tt

  entry_boarded : (e : Logged) → Behind Boarded (logged_turn p e)
  unfolding logged_turn
  entry_boarded e =
      passes Boarded (is_known_thread p.threads e.key) _ (Stop 3)
      (λ a. passes Boarded (ltb e.line p.lines) _ (Stop 4)
      (λ b. passes Boarded (leb (last_logged p.log) e.key) _ (Stop 7)
      (λ c. passes Boarded (ltb (count (is_logged_by (thread_of e.key)) p.log) 32) (Next _) (Stop 7) (λ d. more_boarded (e ∷ []) (rw b)) tt) tt) tt) tt

  fields_boarded : (k : ℕ) (bs : List ℕ) → Behind Boarded (fields_turn p k bs)
  unfolding fields_turn line_turn end_turn
  fields_boarded k bs =
      passes Boarded (eqb k 32) (head_turn bs) _ (λ a. head_boarded bs)
      (passes Boarded (eqb k 33) (line_turn p bs) _ (λ a. record { lines = g.lines; log = g.log })
      (passes Boarded (eqb k 34) (listed_turn p (listed_at bs)) _ (λ a. region_boarded (listed_at bs))
      (passes Boarded (eqb k 35) (logged_turn p (logged_at bs)) _ (λ a. entry_boarded (logged_at bs))
      (passes Boarded (eqb (length bs) 0) (Last p) (Stop 7) (λ a. g) tt))))

abbrev Going : Progress → Type 0
Going s = Boarded s.state

onward_boarded : (s : Progress) (k : ℕ) (t : Turn Persistent) → Behind Boarded t → Behind Going (onward s k t)
onward_boarded s k (Stop n) g = tt
onward_boarded s k (Next p) g = g
onward_boarded s k (Last p) g = g

module _ (s : Progress) (k : ℕ) (bs : List ℕ) (g : Going s) where
  header_boarded : Behind Going (header_turn s k bs)
  unfolding header_turn
  header_boarded =
      let es = held_in (held_by k) bs in
      passes Going (is_known_thread s.state.threads (key_at bs 0)) _ (Stop 3)
      (λ a. passes Going (all (is_on_board s.state.lines) es) _ (Stop 4)
      (λ b. passes Going (leb (last_logged s.state.log) (key_at bs 0)) _ (Stop 7)
      (λ c. passes Going (not (is_behind_short s (key_at bs 0))) _ (Stop 7)
      (λ d. passes Going (leb (count (is_logged_by (thread_of (key_at bs 0))) s.state.log + held_by k) 32) (Next _) (Stop 7)
      (λ e. more_boarded s.state g es b) tt) tt) tt) tt) tt

  turn_boarded : (headed : Bool) (u : Turn Progress) → is_on u ≡ true → turn_in headed s (k ∷ bs) ≡ u → Behind Going u
  unfolding fields_in
  turn_boarded headed u o t =
      subst (Behind Going) (turn_passed (is_kind_of headed) is_placed_in headed_body fields_in s k bs u o t).shown
      (passes Going (is_header k) (header_turn s k bs) _ (λ e. header_boarded) (onward_boarded s k (fields_turn s.state k bs) (fields_boarded s.state g k bs)))

read_boarded : (headed : Bool) (bs : List ℕ) (p : Persistent) → records_read_as headed bs ≡ Reads p → Boarded p
unfolding records_read_as
read_boarded headed bs p e = go (records_in headed unread 0 bs) refl e
  where
    go : (v : Verdict Progress) → records_in headed unread 0 bs ≡ v → state_read v ≡ Reads p → Boarded p
    go (Refuses n) q e = not_reads e
    go (Reads s) q e =
        subst Boarded (ap (read_or s.state) e)
        (along_read (turn_in headed) headed_body (λ s bs. Going s) Going (λ s q b bs g t. turn_boarded s b bs g headed (Next q) refl t)
        (λ s q b bs g t. turn_boarded s b bs g headed (Last q) refl t) bs 0 unread s (record { lines = omega arith; log = refl }) q)

-- ---- keys

-- number 0 is refused
zero_unlisted : (rs : List Listed) → any is_unnumbered rs ≡ false → is_listed 0 rs ≡ false
zero_unlisted [] n = refl
zero_unlisted (r ∷ rs) n =
    let o = or_false (is_unnumbered r) (any is_unnumbered rs) n in
    test (eqb r.key 0)
    (λ a. let y : eqb (number_of r.key) 0 ≡ true = rw (eqb-true r.key 0 a) refl in never y o.0)
    (λ a. rw a (zero_unlisted rs o.1))

-- and so is a log entry of a region that is not listed
module _ (p : Persistent) (calm : contradicts p ≡ false) where
  key_above : (i : ℕ) → i < length p.log → (get_or p.log i no_logged).key ≢ 0
  unfolding contradicts
  key_above i h z =
      let rs = p.regions in
      let a = or_false (any is_unnumbered rs) _ calm in
      let b = or_false (any is_unknown_state rs) _ a.1 in
      let c = or_false (any (λ r. not (in_order r.deps)) rs) _ b.1 in
      let d = or_false (any (λ r. any (is_astray rs) r.deps) rs) _ c.1 in
      let f = or_false (any (λ e. not (is_listed e.key rs)) p.log) _ d.1 in
      let l : is_listed (get_or p.log i no_logged).key rs ≡ true
      = not-false (is_listed (get_or p.log i no_logged).key rs) (any_none (λ e. not (is_listed e.key rs)) p.log i no_logged f.0 h) in
      never (rw z at l) (zero_unlisted rs a.0)

-- ---- the entry at a place

-- nothing is left there, or an entry of the log with a key above 0 and a line below 256
pub data Left (log es : List Logged) : Type 0 where
  nothing_left : es ≡ [] → Left log es
  one_left : (i : ℕ) (fs : List Logged) → i < length log → es ≡ get_or log i no_logged ∷ fs → (get_or log i no_logged).key ≢ 0 → (get_or log i no_logged).line < 256
      → Left log es

left_at : (headed : Bool) (bs : List ℕ) (p : Persistent) (at : ℕ) → read_as headed bs ≡ Reads p → Left p.log (drop at (walk_entries p))
unfolding read_as
left_at headed bs p at q = go (nth (indices_in p) at) refl
  where
    go : (g : Option ℕ) → nth (indices_in p) at ≡ g → Left p.log (drop at (walk_entries p))
    go None f = nothing_left (entry_none p at f)
    go (Some i) f =
        let a = accepted (records_read_as headed bs) p q in
        let b = read_boarded headed bs p a.0 in
        let m : length (keys_of p) ≡ length p.log = length-map p.log (λ e. e.key) in
        let h : i < length p.log = rw (← m) (found_below (walk p) (keys_of p) at i f) in
        let l = ltb-true (get_or p.log i no_logged).line p.lines (all_at (is_on_board p.lines) p.log i no_logged b.log h) in
        one_left i _ h (entry_found p at i f) (key_above p a.1 i h) (omega (arith, b.lines))

pub entries_told : EntriesTold
unfolding EntriesTold entry_call restore_as restore_by
entries_told bs at = go (read_as true bs) refl
  where
    go : (v : Verdict Persistent) → read_as true bs ≡ v → Told bs at
    go (Refuses n) q = record { refused = rw q; none = λ z. rw q; some = λ z. absurd (z (rw q)) }
    go (Reads p) q = by (left_at true bs p at q)
      where
        by : Left p.log (drop at (walk_entries p)) → Told bs at
        by (nothing_left k) = record { refused = rw (q, k); none = λ z. rw (q, k); some = λ z. absurd (z (rw (q, k))) }
        by (one_left i fs h k above below) =
            let e = get_or p.log i no_logged in
            let val : (entry_call bs at).value ≡ 256 * e.key + e.line = rw (q, k) in
            let high : (entry_call bs at).value / 256 ≡ e.key = rw val (omega arith) in
            let low : (entry_call bs at).value % 256 ≡ e.line = rw val (omega arith) in
            record {
              refused = rw (q, k);
              none = λ z. absurd (above (omega arith));
              some = λ z. record { held = p; read = q; index = i; inside = h; key = high; line = low; after = rw (q, k) };
            }
