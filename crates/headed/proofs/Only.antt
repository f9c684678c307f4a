-- Bytes that the reader of both forms accepts are the old or the new image of what they read back to, and that fits.
use Prim.Native.Nat.{◌*◌, ◌+◌, ◌-◌, ◌<◌, ◌≤◌, suc, ℕ}
use mathlib.Core.Path.{◌∙◌, ◌≡◌, ap, refl, subst, sym}
use mathlib.Core.Logic.{◌⊎◌, inl, inr}
use mathlib.Core.Bool.{Bool, ◌&&◌, cond, false, not, or-false, true}
use mathlib.Core.List.{List, [], ◌++◌, ◌∷◌, append_assoc, append-nil}
use lib.Dec.{eqb, leb, ltb}
use lib.ListN.{drop, length, length-append}
use native.Mathlib.Nat.{le_refl}
use native.Mathlib.Omega.{arith}
use borrow.Author.Tests.{eqb-true, eqb-false, le-leb, le-ltb, leb-true, ltb-false, lt-ltb, ne_eqb, not-true}
use Rattle.rules.proofs.Codec.Bytes.{all_append, all_drop, is_line}
use Rattle.rules.proofs.Codec.Only.{Far, Taken, begun, behind_lines, end_kind, finished, further, none_yet, not_end, nothing_left, only_end, placed_behind, records_only}
use Rattle.rules.proofs.Codec.Records.{Passed, along_read, is_last, last_same, next_same, not_last, not_reads, past_test, read_or, turn_passed}
use Rattle.rules.proofs.Codec.Steps.{Begun, flat_end, without_end}
use Rattle.rules.proofs.Codec.Valid.{Sound, Valid, bound, count_append, fits_entry, key_of_logged, logged_test, rises, rises_append}
use Rattle.rules.proofs.Recover.Entries.{Headed, entries_at, log_adds}
use Rattle.rules.specs.Claim.{is_byte}
use Rattle.rules.specs.Image.{Logged, Persistent, encode, head_record, line_record, region_record, with_logged}
use Rattle.rules.specs.Lists.{all, count, flat}
use Rattle.rules.specs.Reader.{Last, Next, Reads, Refuses, Stop, Turn, Verdict, fields_turn, is_image_kind, is_known_thread, is_logged_by, is_placed, key_at, last_logged, turn_of}
use Rattle.rules.specs.Tables.{thread_of}
use Rattle.undo.proofs.Laws.{and_true, is_same, never, or_right, test}
use Rattle.headed.specs.Claim.{Grouped, held, is_of, none}
use Rattle.headed.specs.Image.{encode_headed, headed_record, log_records}
use Rattle.headed.specs.Reader.{Progress, entry_in, fields_in, headed_body, header_turn, held_by, held_from, held_in, is_behind_short, is_beside, is_header, is_kind_of, is_on_board, is_placed_in, onward, records_in, records_read_as, state_read, turn_in, unread}
use Rattle.headed.proofs.Back.{count_same, last_record}
use Rattle.headed.proofs.Groups.{follows, held_append, one_more, only_records}
use Rattle.headed.proofs.Header.{header_again, header_is, held_lines, held_long, held_same}
use Rattle.headed.proofs.Old.{header_bounds, old_records, old_turn, still_plain}

-- ---- what a header that goes on has shown, and what it adds

pub record Heading (s q : Progress) (k : ℕ) (bs : List ℕ) : Type 0 where
  pub known : is_known_thread s.state.threads (key_at bs 0) ≡ true
  pub lines : all (is_on_board s.state.lines) (held_in (held_by k) bs) ≡ true
  pub climbs : leb (last_logged s.state.log) (key_at bs 0) ≡ true
  pub full : is_behind_short s (key_at bs 0) ≡ false
  pub few : count (is_logged_by (thread_of (key_at bs 0))) s.state.log + held_by k ≤ 32
  pub after : record { state = with_logged (s.state.log ++ held_in (held_by k) bs) s.state; kind = k } ≡ q

heading : (s q : Progress) (k : ℕ) (bs : List ℕ) → header_turn s k bs ≡ Next q → Heading s q k bs
unfolding header_turn
heading s q k bs t =
    let a = past_test (is_known_thread s.state.threads (key_at bs 0)) _ 3 (Next q) refl t in
    let b = past_test (all (is_on_board s.state.lines) (held_in (held_by k) bs)) _ 4 (Next q) refl a.1 in
    let c = past_test (leb (last_logged s.state.log) (key_at bs 0)) _ 7 (Next q) refl b.1 in
    let d = past_test (not (is_behind_short s (key_at bs 0))) _ 7 (Next q) refl c.1 in
    let e = past_test (leb (count (is_logged_by (thread_of (key_at bs 0))) s.state.log + held_by k) 32) _ 7 (Next q) refl d.1 in
    record { known = a.0; lines = b.0; climbs = c.0; full = not-true _ d.0; few = leb-true _ 32 e.0; after = next_same e.1 }

-- ---- entries of one region

module _ (k : ℕ) where
  count_other : (t : ℕ) (es : List Logged) → all (is_of k) es ≡ true → eqb (thread_of k) t ≡ false → count (is_logged_by t) es ≡ 0
  unfolding count
  count_other t [] a o = refl
  count_other t (e ∷ es) a o =
      let b = and_true (is_of k e) (all (is_of k) es) a in
      rw (eqb-true e.key k b.0, o) (count_other t es b.1 o)

  rises_same : (j : ℕ) (es : List Logged) → all (is_of k) es ≡ true → leb j k ≡ true → rises key_of_logged 0 j es ≡ true
  rises_same j [] a o = refl
  rises_same j (e ∷ es) a o =
      let b = and_true (is_of k e) (all (is_of k) es) a in
      let q : e.key ≡ k = eqb-true e.key k b.0 in
      rw (q, o) (rises_same (0 + k) es b.1 (le-leb (0 + k) k (omega arith)))

  fit_all : (n l : ℕ) (es : List Logged) → all (is_of k) es ≡ true → is_known_thread n k ≡ true → all (is_on_board l) es ≡ true → all (λ e. is_line e.old) es ≡ true
      → all (fits_entry n l) es ≡ true
  fit_all n l [] a t b o = refl
  fit_all n l (e ∷ es) a t b o =
      let a' = and_true (is_of k e) (all (is_of k) es) a in
      let b' = and_true (is_on_board l e) (all (is_on_board l) es) b in
      let o' = and_true (is_line e.old) (all (λ e. is_line e.old) es) o in
      rw (eqb-true e.key k a'.0, t, b'.0, o'.0) (fit_all n l es a'.1 t b'.1 o'.1)

  -- they are added to a state that fits
  more_begun : (p : Persistent) (g : List Logged) → Begun p → length p.medium ≡ p.lines → all (is_of k) g ≡ true → is_known_thread p.threads k ≡ true
      → all (is_on_board p.lines) g ≡ true → all (λ e. is_line e.old) g ≡ true → leb (last_logged p.log) k ≡ true
      → count (is_logged_by (thread_of k)) p.log + length g ≤ 32 → Begun (with_logged (p.log ++ g) p)
  more_begun p g b w a t l o c f =
      let s = b.sound in
      record {
        sound =
            record {
              size = s.size;
              whole = s.whole;
              medium = s.medium;
              few = s.few;
              rising = s.rising;
              regions = s.regions;
              room = λ u. rw (count_append (is_logged_by u) p.log g)
                  (test (eqb (thread_of k) u)
                  (λ d. rw (← eqb-true (thread_of k) u d, count_same k g a) f)
                  (λ d. rw (count_other u g a d) (omega (arith, s.room u))));
              climbing = rw (rises_append key_of_logged 0 0 p.log g, s.climbing) (rises_same (bound key_of_logged 0 0 p.log) g a (sym (logged_test p.log k) ∙ c));
              entries = all_append (fits_entry p.threads p.lines) p.log g s.entries (fit_all p.threads p.lines g a t l o);
            };
        within = b.within;
        early = λ h. absurd (omega arith);
      }

-- ---- how far the bytes are read

-- the records but the end, with the log entries under headers
unfoldable pub headed_end : Persistent → List (List Logged) → List ℕ
headed_end p gs = head_record p.threads p.lines ++ (flat line_record p.medium ++ (flat region_record p.regions ++ flat headed_record gs))

-- no header yet: as the old reader reads; or the last record holds e and es, and all records and the bytes ahead are ws
pub data FarIn (ws : List ℕ) (s : Progress) (bs : List ℕ) : Type 0 where
  plain : is_header s.kind ≡ false → (eqb s.kind 35 ≡ false → s.state.log ≡ []) → Headed s.state → Far ws s.state bs → FarIn ws s bs
  under : (gs : List (List Logged)) (e : Logged) (es : List Logged) → Begun s.state → length s.state.medium ≡ s.state.lines → Grouped (gs ++ ((e ∷ es) ∷ []))
      → held (gs ++ ((e ∷ es) ∷ [])) ≡ s.state.log → length es ≤ 6 → all (is_of e.key) es ≡ true → s.kind ≡ 40 + suc (length es)
      → headed_end s.state (gs ++ ((e ∷ es) ∷ [])) ++ bs ≡ ws → all is_byte bs ≡ true → FarIn ws s bs

-- one record more
headed_end_lem : (p : Persistent) (gs : List (List Logged)) (t bs : List ℕ) (x : List Logged) → headed_record x ++ t ≡ bs → headed_end p (gs ++ (x ∷ [])) ++ t ≡ headed_end p gs ++ bs
unfolding headed_end
headed_end_lem p gs t bs x q = rw (flat_end headed_record gs x, ← q) (simp append_assoc)

follows_last : (gs : List (List Logged)) (g : List Logged) (k : ℕ) → follows (gs ++ (g ∷ [])) k ≡ follows (g ∷ []) k
follows_last [] g k = refl
follows_last (x ∷ []) g k = refl
follows_last (x ∷ (y ∷ gs)) g k = follows_last (y ∷ gs) g k

-- bytes are the old or the new image of a state that fits
abbrev pub Either : Persistent → List ℕ → Type 0
Either p bs = Valid p × ((bs ≡ encode p) ⊎ (bs ≡ encode_headed p))

-- what a record that goes on has shown
abbrev TakenIn : Progress → ℕ → List ℕ → Turn Progress → Type 0
TakenIn = Passed (is_kind_of true) is_placed_in headed_body fields_in

module _ (ws : List ℕ) (s q : Progress) (k : ℕ) (bs : List ℕ) (bytes : all is_byte bs ≡ true) where
  -- a header behind records gs
  header_next : (gs : List (List Logged)) → is_header k ≡ true → TakenIn s k bs (Next q) → Begun s.state → length s.state.medium ≡ s.state.lines → Grouped gs
      → held gs ≡ s.state.log → follows gs (key_at bs 0) ≡ true → headed_end s.state gs ++ (k ∷ bs) ≡ ws → FarIn ws q (drop (headed_body k) bs)
  unfolding fields_in headed_end held_from
  header_next gs i c b w gr hl fo eq =
      let hb = header_bounds k i in
      let n = held_by k in
      let m = k - 41 in
      let nm : k - 40 ≡ suc m = omega arith in
      let h = heading s q k bs (rw i at c.shown) in
      let body : headed_body k ≡ 3 + 65 * n = rw i in
      let long : 3 + 65 * n ≤ length bs = rw i at c.long in
      let g = held_in n bs in
      let ge : g ≡ entry_in n bs 0 ∷ held_from n bs 1 m = ap (held_from n bs 0) nm in
      let same = held_same n bs 0 n in
      let tail_same : all (is_of (key_at bs 0)) (held_from n bs 1 m) ≡ true = held_same n bs 1 m in
      let lines = held_lines n bs bytes 0 n (omega arith) in
      let lg : length g ≡ n = held_long n bs 0 n in
      let lt : length (held_from n bs 1 m) ≡ m = held_long n bs 1 m in
      let after : Begun (with_logged (s.state.log ++ g) s.state)
      = more_begun (key_at bs 0) s.state g b w same h.known h.lines lines h.climbs (rw lg h.few) in
      let again : headed_record g ++ drop (3 + 65 * n) bs ≡ k ∷ bs = header_again n bs bytes (omega arith) long ∙ ap (λ x. x ∷ bs) (omega arith) in
      subst (λ r. FarIn ws r (drop (headed_body k) bs)) h.after
      (under gs (entry_in n bs 0) (held_from n bs 1 m) after w
      (one_more (entry_in n bs 0) (held_from n bs 1 m) gr (rw lt (omega arith)) tail_same fo)
      (held_append gs ((entry_in n bs 0 ∷ held_from n bs 1 m) ∷ []) ∙ rw (hl, append-nil (held_from n bs 1 m), ← ge))
      (rw lt (omega arith)) tail_same (rw lt (omega arith))
      (rw (body, ← ge) (headed_end_lem s.state gs (drop (3 + 65 * n) bs) (k ∷ bs) g again ∙ eq))
      (all_drop is_byte (headed_body k) bs bytes))

  -- no record of the old form may stand behind a header, but the end
  none_behind : Begun s.state → length s.state.medium ≡ s.state.lines → 0 < length s.state.log → is_header s.kind ≡ true
      → is_header k ≡ false → is_kind_of true k ≡ true → is_placed_in s k ≡ true → k ≡ 36
  none_behind b w l h i kn pl =
      let a = and_true (is_placed s.state k) (not (is_beside s.kind k)) pl in
      let c = placed_behind s.state k b.sound.size a.0 in
      let z : ltb (length s.state.medium) s.state.lines ≡ false = le-ltb (length s.state.medium) s.state.lines (omega arith) in
      let y : eqb (length s.state.log) 0 ≡ false = ne_eqb (length s.state.log) 0 (λ n. omega arith) in
      let d : leb 35 k ≡ true = rw (z, y) at c in
      let o : is_image_kind k ≡ true = rw (i, or-false (is_image_kind k)) at kn in
      let hi = leb-true k 36 (and_true (leb 32 k) (leb k 36) o).1 in
      let lo = leb-true 35 k d in
      test (eqb k 35)
      (λ f. never (rw (h, f) at a.1) refl)
      (λ f. omega (arith, eqb-false k 35 f))

module _ (ws : List ℕ) where
  onward_next : (s q : Progress) (k : ℕ) (t : Turn Persistent) → onward s k t ≡ Next q → (t ≡ Next q.state) × (q.kind ≡ cond (eqb k 35) 35 s.kind)
  onward_next s q k (Stop n) e = let z : ◌≡◌ {A = ℕ} 0 1 = cc in absurd (omega arith)
  onward_next s q k (Next p) e = let x = next_same e in rw (← x) (refl, refl)
  onward_next s q k (Last p) e = let z : ◌≡◌ {A = ℕ} 0 1 = cc in absurd (omega arith)

  onward_last : (s q : Progress) (k : ℕ) (t : Turn Persistent) → onward s k t ≡ Last q → t ≡ Last q.state
  onward_last s q k (Stop n) e = let z : ◌≡◌ {A = ℕ} 0 1 = cc in absurd (omega arith)
  onward_last s q k (Next p) e = let z : ◌≡◌ {A = ℕ} 0 1 = cc in absurd (omega arith)
  onward_last s q k (Last p) e = let x = last_same e in rw (← x) refl

  -- the bytes behind the first
  rest_bytes : (b : ℕ) (bs : List ℕ) → all is_byte (b ∷ bs) ≡ true → all is_byte bs ≡ true
  rest_bytes b bs y = (and_true (is_byte b) (all is_byte bs) y).1

  -- a header that may stand here stands behind no 35
  first_header : (s : Progress) (k : ℕ) → is_header k ≡ true → is_placed_in s k ≡ true → (is_placed s.state k ≡ true) × (eqb s.kind 35 ≡ false)
  first_header s k i pl =
      let a = and_true (is_placed s.state k) (not (is_beside s.kind k)) pl in
      (a.0, test (eqb s.kind 35) (λ d. never (rw (i, d, or_right (eqb k 35 && is_header s.kind) refl) at a.1) refl) (λ d. d))

  last_under : (s : Progress) (gs : List (List Logged)) (e : Logged) (es : List Logged) (k : ℕ) → held (gs ++ ((e ∷ es) ∷ [])) ≡ s.state.log → length es ≤ 6 → all (is_of e.key) es ≡ true
      → s.kind ≡ 40 + suc (length es) → is_behind_short s k ≡ false → follows (gs ++ ((e ∷ es) ∷ [])) k ≡ true
  last_under s gs e es k hl few same kd sh =
      let l : last_logged s.state.log ≡ e.key
      = rw (← hl, held_append gs ((e ∷ es) ∷ []), append-nil es) (last_record e.key (held gs) e es (rw (is_same e.key) same)) in
      let i : is_header (40 + suc (length es)) ≡ true = header_is (suc (length es)) (omega arith) (omega arith) in
      rw (follows_last gs (e ∷ es) k)
      (test (eqb (suc (length es)) 7)
      (λ d. rw d)
      (λ d. let f = eqb-false (suc (length es)) 7 d in
      let z : ltb (40 + suc (length es)) 47 ≡ true = lt-ltb (40 + suc (length es)) 47 (omega arith) in
      let o : eqb e.key k ≡ false = rw (kd, i, z, l) at sh in
      rw (d, o)))

  some_under : (s : Progress) (gs : List (List Logged)) (e : Logged) (es : List Logged) → held (gs ++ ((e ∷ es) ∷ [])) ≡ s.state.log → 0 < length s.state.log
  some_under s gs e es hl =
      rw (← hl, held_append gs ((e ∷ es) ∷ [])) (omega (arith, length-append (held gs) ((e ∷ es) ++ [])))

  -- the end as the old reader takes it
  old_end : {u : Turn Persistent} (s q : Progress) (k : ℕ) (bs : List ℕ) → k ≡ 36 → is_placed_in s k ≡ true → fields_turn s.state k bs ≡ u → Taken s.state 36 bs u
  old_end s q k bs e pl f =
      record {
        known = refl;
        place = rw e at (and_true (is_placed s.state k) (not (is_beside s.kind k)) pl).0;
        long = omega arith;
        shown = rw e at f;
      }

  go_on : (s q : Progress) (b : ℕ) (bs : List ℕ) → FarIn ws s (b ∷ bs) → turn_in true s (b ∷ bs) ≡ Next q → FarIn ws q (drop (headed_body b) bs)
  unfolding fields_in headed_end without_end flat
  go_on s q b bs (plain p o h f) t =
      test (is_header b)
      (λ i. let c = turn_passed (is_kind_of true) is_placed_in headed_body fields_in s b bs (Next q) refl t in
      let fh = first_header s b i c.place in
      met i c fh.0 (o fh.1) f)
      (λ i. let x = onward_next s q b (turn_of s.state (b ∷ bs)) (sym (old_turn true s b p i bs) ∙ t) in
      let l = log_adds s.state q.state b bs h x.0 in
      rw i (plain (rw x.1 (still_plain true s b p i)) (λ z. still i x.1 l.0 z) l.1 (further ws s.state q.state b bs f x.0)))
    where
      met : is_header b ≡ true → TakenIn s b bs (Next q) → is_placed s.state b ≡ true → s.state.log ≡ [] → Far ws s.state (b ∷ bs) → FarIn ws q (drop (headed_body b) bs)
      met i c pl l (none_yet z w y) =
          let hb = header_bounds b i in
          let d : eqb b 32 ≡ true = rw z at pl in
          absurd (omega (arith, eqb-true b 32 d))
      met i c pl l (begun g w y) =
          let hb = header_bounds b i in
          let d : eqb b 33 ≡ false = ne_eqb b 33 (λ z. omega arith) in
          let e = rw d at (placed_behind s.state b g.sound.size pl) in
          let lb = ltb-false (length s.state.medium) s.state.lines (behind_lines (ltb (length s.state.medium) s.state.lines) _ e) in
          header_next ws s q b bs (rest_bytes b bs y) [] i c g (omega (arith, g.within)) none (sym l) refl (rw l at w)

      still : is_header b ≡ false → q.kind ≡ cond (eqb b 35) 35 s.kind → q.state.log ≡ s.state.log ++ entries_at b bs → eqb q.kind 35 ≡ false → q.state.log ≡ []
      still i kd l z =
          test (eqb b 35)
          (λ d. never refl (rw (kd, d) at z))
          (λ d. l ∙ rw (d, append-nil s.state.log) (o (rw (kd, d) at z)))
  go_on s q b bs (under gs e es b' w gr hl few same kd eq y) t =
      let c = turn_passed (is_kind_of true) is_placed_in headed_body fields_in s b bs (Next q) refl t in
      let j : is_header s.kind ≡ true = rw kd (header_is (suc (length es)) (omega arith) (omega arith)) in
      test (is_header b)
      (λ i. header_next ws s q b bs (rest_bytes b bs y) (gs ++ ((e ∷ es) ∷ [])) i c b' w gr hl
      (last_under s gs e es (key_at bs 0) hl few same kd (heading s q b bs (rw i at c.shown)).full) eq)
      (λ i. let k = none_behind ws s q b bs (rest_bytes b bs y) b' w (some_under s gs e es hl) j i c.known c.place in
      absurd (not_end (old_end s q b bs k c.place (onward_next s q b (fields_turn s.state b bs) (rw i at c.shown)).0)))

  -- only the end ends
  header_on : (s : Progress) (k : ℕ) (bs : List ℕ) → is_last (header_turn s k bs) ≡ false
  unfolding header_turn
  header_on s k bs =
      not_last (is_known_thread s.state.threads (key_at bs 0)) _ 3
      (not_last (all (is_on_board s.state.lines) (held_in (held_by k) bs)) _ 4
      (not_last (leb (last_logged s.state.log) (key_at bs 0)) _ 7
      (not_last (not (is_behind_short s (key_at bs 0))) _ 7
      (not_last (leb (count (is_logged_by (thread_of (key_at bs 0))) s.state.log + held_by k) 32) (Next _) 7 refl))))

  ends : (s q : Progress) (b : ℕ) (bs : List ℕ) → FarIn ws s (b ∷ bs) → turn_in true s (b ∷ bs) ≡ Last q → Either q.state ws
  unfolding fields_in headed_end encode_headed
  ends s q b bs (plain p o h f) t =
      test (is_header b)
      (λ i. let c = turn_passed (is_kind_of true) is_placed_in headed_body fields_in s b bs (Last q) refl t in
      let x : header_turn s b bs ≡ Last q = rw i at c.shown in
      never (ap is_last x) (header_on s b bs))
      (λ i. let x = finished ws s.state q.state b bs f (onward_last s q b (turn_of s.state (b ∷ bs)) (sym (old_turn true s b p i bs) ∙ t)) in
      (x.valid, inl (sym x.same)))
  ends s q b bs (under gs e es b' w gr hl few same kd eq y) t =
      let c = turn_passed (is_kind_of true) is_placed_in headed_body fields_in s b bs (Last q) refl t in
      let j : is_header s.kind ≡ true = rw kd (header_is (suc (length es)) (omega arith) (omega arith)) in
      test (is_header b)
      (λ i. let x : header_turn s b bs ≡ Last q = rw i at c.shown in never (ap is_last x) (header_on s b bs))
      (λ i. let k = none_behind ws s q b bs (rest_bytes b bs y) b' w (some_under s gs e es hl) j i c.known c.place in
      let x = only_end end_kind (old_end s q b bs k c.place (onward_last s q b (fields_turn s.state b bs) (rw i at c.shown))) in
      let v : Valid s.state = subst (Sound s.state) w b'.sound in
      let g : log_records s.state.log ≡ gs ++ ((e ∷ es) ∷ []) = rw (← hl) (only_records _ gr (le_refl _)) in
      let z : ws ≡ encode_headed s.state = sym eq ∙ rw (k, nothing_left bs x.1.0, g) (simp append_assoc) in
      subst (λ p. Either p ws) x.1.1 (v, inr z))

pub records_either : (bs : List ℕ) (p : Persistent) → all is_byte bs ≡ true → records_read_as true bs ≡ Reads p → Either p bs
unfolding records_read_as
records_either bs p y e = go (records_in true unread 0 bs) refl e
  where
    go : (v : Verdict Progress) → records_in true unread 0 bs ≡ v → state_read v ≡ Reads p → Either p bs
    go (Refuses n) q e = not_reads e
    go (Reads s) q e =
        subst (λ p. Either p bs) (ap (read_or s.state) e)
        (along_read (turn_in true) headed_body (FarIn bs) (λ r. Either r.state bs) (go_on bs) (ends bs) bs 0 unread s
        (plain refl (λ z. refl) (λ z. refl) (none_yet refl refl y)) q)

pub records_either_as : (headed : Bool) (bs : List ℕ) (p : Persistent) → all is_byte bs ≡ true → records_read_as headed bs ≡ Reads p → Either p bs
records_either_as true bs p y e = records_either bs p y e
records_either_as false bs p y e = let x = records_only bs p y (sym (old_records bs) ∙ e) in (x.valid, inl (sym x.same))
