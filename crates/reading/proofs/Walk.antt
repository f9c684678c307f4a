-- The walk over the records: what the table of regions and the counts hold after each, and where the log entries stand.
use Prim.Native.Nat.{◌*◌, ◌+◌, ◌<◌, ◌≤◌, suc, ℕ}
use mathlib.Core.Path.{◌∙◌, ◌≡◌, ap, refl, subst, sym}
use mathlib.Core.Bool.{Bool, false≢true, true, true≢false}
use mathlib.Core.List.{List, [], ◌++◌, ◌∷◌, map}
use lib.Dec.{eqb}
use lib.ListN.{drop, get_or, length, length-append, length-drop, length-replicate, replicate, set, take}
use native.Mathlib.Omega.{arith}
use native.Mathlib.Nat.{zero-add}
use borrow.Author.Tests.{eqb-false, eqb-true}
use lib.Seq.{drop-cons, take_at}
use Rattle.headed.proofs.Header.{held_long}
use Rattle.headed.specs.Reader.{Progress, fields_in, headed_body, held_in, is_kind_of, is_placed_in, records_in, records_read_as, state_read, turn_in, unread}
use Rattle.lines.proofs.Paste.{sets_join, sets_paste}
use Rattle.rules.proofs.Codec.Only.{no_entries}
use Rattle.rules.proofs.Codec.Records.{Passed, along_read, is_last, is_on, last_same, next_same, not_reads, read_or, turn_last, turn_next, turn_passed, turn_stop}
use Rattle.rules.specs.Bytes.{line_at}
use Rattle.rules.specs.Image.{Persistent, with_listed}
use Rattle.rules.specs.Lists.{all, count}
use Rattle.rules.specs.Marks.{no_mark}
use Rattle.rules.specs.Reader.{Last, Next, Reads, Refuses, Verdict, is_logged_by, key_at, read_by}
use Rattle.rules.specs.Tables.{thread_of}
use Rattle.rules.specs.declared.Listed.{Listed}
use Rattle.rules.specs.declared.Mark.{Mark}
use Rattle.undo.proofs.Laws.{is_same, test}
use Rattle.reading.specs.Item.{after_entries, after_head, after_line, after_region, count_for, item_of, tabled, tally_of}
use Rattle.reading.specs.Scan.{filled, free_listed, read_of, scan_of}
use Rattle.reading.specs.Spots.{first_spot, holds, is_inside, log_start, mark_on, spot_at, spots_from}
use Rattle.std.specs.Prelude.{Result, Ok, Err, is_ok}
use Rattle.rules.specs.Codes.{code}
use Rattle.rules.specs.declared.Refusal.{Refusal}
use Rattle.reading.specs.declared.Item.{Item}
use Rattle.reading.specs.declared.Item.TheVariants.{End, Entries, Head, Line, Region}
use Rattle.reading.specs.declared.Spot.{Spot}
use Rattle.reading.specs.declared.Tally.{Tally}
use Rattle.reading.proofs.Counts.{Few, count_of, few_more, few_none, last_listed_lem, length_more, log_room, record_count, record_last}
use Rattle.reading.proofs.Spots.{Stand, none, record_stands, rest_behind, stand_inside, stand_join, stand_marks, stand_moved}
use Rattle.reading.proofs.Tests.{item_empty, kind_low, log_body, some_held}
use Rattle.reading.proofs.Turns.{Entered, Shown, added, end, entries, head, is_end, is_entries, is_head, is_line, is_region, item_shown, line, refuses, region, turn_item, turn_from}

-- ---- tables

pub filled_more : {A : Type 0} (n : ℕ) (z : A) (xs : List A) (x : A) → set (filled n z xs) (length xs) x ≡ filled n z (xs ++ (x ∷ []))
filled_more n z xs x = sym (sets_join (replicate n z) 0 xs (x ∷ []) ∙ rw (zero-add (length xs)))

-- what a table holds stands at its front
pub take_filled : {A : Type 0} (n : ℕ) (z : A) (xs : List A) → length xs ≤ n → take (length xs) (filled n z xs) ≡ xs
take_filled n z xs h =
    let d : 0 + length xs ≤ length (replicate n z) = rw (length-replicate n z) (omega arith) in
    rw (sets_paste (replicate n z) 0 xs d) (take_at xs _ (length xs) refl)

-- ---- what holds of all that was read, up to a place of the bytes

-- before the head
pub record Blank (s : Progress) (at : ℕ) : Type 0 where
  pub regions : s.state.regions ≡ []
  pub kind : s.kind ≡ 0
  pub place : at ≡ 0

pub record Kept (ws : List ℕ) (s : Progress) (at : ℕ) : Type 0 where
  pub threads : s.state.threads ≤ 8
  pub start : s.state.threads ≡ 0 → Blank s at
  pub seen : length s.state.medium ≤ s.state.lines
  pub early : length s.state.medium < s.state.lines → s.state.log ≡ []
  pub held : length s.state.regions ≤ 32
  pub few : Few s.state.log
  -- the log stands behind the head, the lines and the regions
  pub stand : (s.state.threads ≡ 0 → ⊥) → Stand ws (first_spot s.state) s.state.log (spot_at at)

kept_none : (ws : List ℕ) → Kept ws unread 0
kept_none ws =
    record {
      threads = omega arith;
      start = λ z. record { regions = refl; kind = refl; place = refl };
      seen = omega arith;
      early = λ h. refl;
      held = omega arith;
      few = few_none;
      stand = λ n. absurd (n refl);
    }

-- log entries that are let through: their thread is counted, and all find a place
pub record Counted (s : Progress) (b k : ℕ) : Type 0 where
  pub known : thread_of k < 8
  pub count : count_for (tally_of s) k ≡ count (is_logged_by (thread_of k)) s.state.log
  pub place : length s.state.log + holds b ≤ 256

module _ {ws : List ℕ} {s : Progress} {at : ℕ} (g : Kept ws s at) where
  abbrev kind : ℕ
  kind = get_or ws at 0

  abbrev body : List ℕ
  body = drop (suc at) ws

  counted : {b k d : ℕ} {bs : List ℕ} → Entered (tally_of s) b bs k d → Counted s b k
  unfolding tally_of
  counted {b} {k} e =
      let c : count_for (tally_of s) k ≡ count (is_logged_by (thread_of k)) s.state.log = sym (count_of s.state.log k g.few e.climbs) in
      let t : thread_of k < 8 = omega (arith, e.known, g.threads) in
      record { known = t; count = c; place = omega (arith, log_room s.state.log k g.few e.climbs, e.room) }

  kept_head : (t l : ℕ) → kind ≡ 32 → s.state.threads ≡ 0 → 1 ≤ t → t ≤ 8 → Kept ws (added s body (Head t l)) (at + 1 + headed_body kind)
  kept_head t l e z lo hi =
      let o : at + 1 + headed_body kind ≡ 4 = rw e (omega (arith, (g.start z).place)) in
      record {
        threads = hi;
        start = λ n. absurd (omega arith);
        seen = omega arith;
        early = λ h. refl;
        held = omega arith;
        few = few_none;
        stand = λ n. rw o none;
      }

  kept_line : kind ≡ 33 → (s.state.threads ≡ 0 → ⊥) → length s.state.medium < s.state.lines → Kept ws (added s body Line) (at + 1 + headed_body kind)
  kept_line e n m =
      let r = length s.state.regions in
      let l = length_more s.state.medium (line_at body 0) in
      record {
        threads = g.threads;
        start = λ z. absurd (n z);
        seen = rw l (omega arith);
        early = λ h. g.early m;
        held = g.held;
        few = g.few;
        stand = λ n. stand_moved (log_start (length s.state.medium) r) at (log_start (length (s.state.medium ++ (line_at body 0 ∷ []))) r) (at + 1 + headed_body kind)
            (g.stand n) (g.early m) (λ q. rw (l, e) (omega arith));
      }

  kept_region : (x : Listed) → kind ≡ 34 → (s.state.threads ≡ 0 → ⊥) → eqb (length s.state.log) 0 ≡ true → length s.state.regions < 32
      → Kept ws (record { state = with_listed (s.state.regions ++ (x ∷ [])) s.state; kind = s.kind }) (at + 1 + headed_body kind)
  kept_region x e n z m =
      let r = length s.state.medium in
      let l = length_more s.state.regions x in
      record {
        threads = g.threads;
        start = λ z. absurd (n z);
        seen = g.seen;
        early = g.early;
        held = rw l (omega arith);
        few = g.few;
        stand = λ n. stand_moved (log_start r (length s.state.regions)) at (log_start r (length (s.state.regions ++ (x ∷ [])))) (at + 1 + headed_body kind)
            (g.stand n) (no_entries s.state.log z) (λ q. rw (l, e) (omega arith));
      }

  kept_entries : (k d : ℕ) → headed_body kind ≤ length body → Entered (tally_of s) kind body k d → Kept ws (added s body (Entries k d)) (at + 1 + headed_body kind)
  unfolding tally_of
  kept_entries k d h e =
      let c = counted e in
      let m = holds kind in
      let o : at + 4 + 65 * m ≡ at + 1 + headed_body kind = rw (log_body kind e.held) (omega arith) in
      let room : count (is_logged_by (thread_of (key_at body 0))) s.state.log + m ≤ 32 = rw (← e.key, ← c.count) e.room in
      let inside : at + 4 + 65 * m ≤ length ws = omega (arith, length-drop (suc at) ws) in
      rw e.kind
      (record {
        threads = g.threads;
        start = λ z. absurd (omega (arith, e.known));
        seen = g.seen;
        early = λ j. absurd (omega (arith, e.late));
        held = g.held;
        few = few_more s.state.log m m body g.few (rw (← e.key) e.climbs) (rw (← e.key) c.known) (some_held kind) room;
        stand = λ n. rw (← o) (stand_join (g.stand n) (record_stands ws at (some_held kind) inside));
      })

  kept_more : {i : Result Item Refusal} {q : Progress} → headed_body kind ≤ length body → Shown (tally_of s) kind body i → turn_from s body i ≡ Next q → Kept ws q (at + 1 + headed_body kind)
  unfolding tally_of
  kept_more h refuses e = absurd (false≢true (ap is_on e))
  kept_more h (head {t} {l} b z lo hi) e = rw (← next_same e) (kept_head t l b z lo hi)
  kept_more h (line b n m) e = rw (← next_same e) (kept_line b n m)
  kept_more h (region b n l m) e = rw (← next_same e) (kept_region _ b n l m)
  kept_more h (entries {k} {d} b) e = rw (← next_same e) (kept_entries k d h b)
  kept_more h (end n) e = absurd (true≢false (ap is_last e))

  -- the end
  ended_here : {i : Result Item Refusal} {q : Progress} → Shown (tally_of s) kind body i → turn_from s body i ≡ Last q → (s ≡ q) × (s.state.threads ≡ 0 → ⊥)
  unfolding tally_of
  ended_here refuses e = absurd (false≢true (ap is_on e))
  ended_here (head b z lo hi) e = absurd (false≢true (ap is_last e))
  ended_here (line b n m) e = absurd (false≢true (ap is_last e))
  ended_here (region b n l m) e = absurd (false≢true (ap is_last e))
  ended_here (entries b) e = absurd (false≢true (ap is_last e))
  ended_here (end n) e = (last_same e, n)

  -- one turn
  module _ (headed : Bool) (q : Progress) where
    abbrev passed : turn_in headed s (kind ∷ body) ≡ Next q → Passed (is_kind_of headed) is_placed_in headed_body fields_in s kind body (Next q)
    passed t = turn_passed (is_kind_of headed) is_placed_in headed_body fields_in s kind body (Next q) refl t

    kept_next : turn_in headed s (kind ∷ body) ≡ Next q → Kept ws q (at + 1 + headed_body kind)
    kept_next t = kept_more (passed t).long (item_shown (tally_of s) body headed kind) (sym (turn_item s body headed kind g.few) ∙ t)

    kept_last : turn_in headed s (kind ∷ body) ≡ Last q → (s ≡ q) × (s.state.threads ≡ 0 → ⊥)
    kept_last t = ended_here (item_shown (tally_of s) body headed kind) (sym (turn_item s body headed kind g.few) ∙ t)

-- ---- what the next record is judged by

after_head_lem : (s : Progress) (bs : List ℕ) (t l : ℕ) → s.kind ≡ 0 → after_head t l ≡ tally_of (added s bs (Head t l))
unfolding tally_of count
after_head_lem s bs t l z = rw z

after_line_lem : (s : Progress) (bs : List ℕ) → after_line (tally_of s) ≡ tally_of (added s bs Line)
unfolding tally_of
after_line_lem s bs = rw (length_more s.state.medium)

after_region_lem : (s : Progress) (bs : List ℕ) (r : Listed) → after_region (tally_of s) r.key ≡ tally_of (added s bs (Region r))
unfolding tally_of
after_region_lem s bs r = rw (last_listed_lem s.state.regions, length_more s.state.regions)

after_entries_lem : (s : Progress) (b k d : ℕ) (bs : List ℕ) → Entered (tally_of s) b bs k d → Counted s b k → after_entries (tally_of s) k d ≡ tally_of (added s bs (Entries k d))
unfolding tally_of
after_entries_lem s b k d bs e c =
    let m = holds d in
    let es = s.state.log in
    rw (c.count, e.key, record_last m bs es m (some_held d), length-append es (held_in m bs), held_long m bs 0 m, record_count m bs (thread_of (key_at bs 0)) es m, is_same (thread_of (key_at bs 0)))

-- ---- what is read of an image

-- at most 32 regions and 256 log entries, which stand behind the regions
pub record Laid (ws : List ℕ) (p : Persistent) : Type 0 where
  pub few : (length p.regions ≤ 32) × (length p.log ≤ 256)
  pub end : Spot
  pub stand : Stand ws (first_spot p) p.log end

laid : {ws : List ℕ} {s : Progress} {at : ℕ} → Kept ws s at → (s.state.threads ≡ 0 → ⊥) → Laid ws s.state
laid {at = at} g n = record { few = (g.held, omega (arith, g.few.last, g.few.full, g.few.sum)); end = spot_at at; stand = g.stand n }

-- how far the bytes are read
record Far (ws : List ℕ) (s : Progress) (bs : List ℕ) : Type 0 where
  pub at : ℕ
  pub here : drop at ws ≡ bs
  pub kept : Kept ws s at

module _ (headed : Bool) (ws : List ℕ) where
  front : (at b : ℕ) (bs : List ℕ) → drop at ws ≡ b ∷ bs → get_or ws at 0 ∷ drop (suc at) ws ≡ b ∷ bs
  front at b bs e = sym (drop-cons ws at 0 (omega (arith, length-drop at ws, ap length e))) ∙ e

  further : (s q : Progress) (b : ℕ) (bs : List ℕ) → Far ws s (b ∷ bs) → turn_in headed s (b ∷ bs) ≡ Next q → Far ws q (drop (headed_body b) bs)
  further s q b bs f t =
      let at = f.at in
      let e = front at b bs f.here in
      let k : get_or ws at 0 ≡ b = cc in
      let r : drop (suc at) ws ≡ bs = cc in
      record { at = at + 1 + headed_body (get_or ws at 0); here = rw (← rest_behind ws at (headed_body (get_or ws at 0)), k, r); kept = kept_next f.kept headed q (ap (turn_in headed s) e ∙ t) }

  finished : (s q : Progress) (b : ℕ) (bs : List ℕ) → Far ws s (b ∷ bs) → turn_in headed s (b ∷ bs) ≡ Last q → Laid ws q.state
  finished s q b bs f t = let a = kept_last f.kept headed q (ap (turn_in headed s) (front f.at b bs f.here) ∙ t) in rw (← a.0) (laid f.kept a.1)

  pub read_laid : (p : Persistent) → records_read_as headed ws ≡ Reads p → Laid ws p
  unfolding records_read_as
  read_laid p e = go (records_in headed unread 0 ws) refl e
    where
      go : (v : Verdict Progress) → records_in headed unread 0 ws ≡ v → state_read v ≡ Reads p → Laid ws p
      go (Refuses n) q e = not_reads e
      go (Reads s) q e =
          subst (Laid ws) (ap (read_or s.state) e)
          (along_read (turn_in headed) headed_body (Far ws) (λ r. Laid ws r.state) further finished ws 0 unread s
          (record { at = 0; here = refl; kept = kept_none ws }) q)

-- ---- where the loop stands

pub record Reached (headed : Bool) (src : List ℕ) (s : Tally) (rs : List Listed) (at : ℕ) : Type 0 where
  pub state : Progress
  pub kept : Kept src state at
  pub tally : s ≡ tally_of state
  pub regions : rs ≡ filled 32 free_listed state.state.regions
  pub inside : at ≤ length src
  pub reads : records_in headed state 0 (drop at src) ≡ records_in headed unread 0 src

-- behind a record that went on
pub record Went (headed : Bool) (src : List ℕ) (s : Tally) (rs : List Listed) (at : ℕ) : Type 0 where
  pub low : 32 ≤ get_or src at 0
  pub within : at + 1 + headed_body (get_or src at 0) ≤ length src
  pub on : Reached headed src s rs (at + 1 + headed_body (get_or src at 0))

pub reached_none : (headed : Bool) (src : List ℕ) → Reached headed src (after_head 0 0) (replicate 32 free_listed) 0
unfolding tally_of count
reached_none headed src = record { state = unread; kept = kept_none src; tally = refl; regions = refl; inside = omega arith; reads = refl }

-- the reading stops at a record that is refused
refused_as : Result Item Refusal → Verdict Progress
refused_as (Ok i) = Refuses 0
refused_as (Err x) = Refuses (code x)

stop_read : (headed : Bool) (s : Progress) (bs : List ℕ) (x : Refusal) → Few s.state.log → item_of headed (tally_of s) bs ≡ Err x → records_in headed s 0 bs ≡ Refuses (code x)
unfolding item_of read_by refused_as
stop_read headed s [] x few e = ap refused_as e
stop_read headed s (k ∷ bs) x few e = turn_stop (turn_in headed) headed_body s (code x) k bs (turn_item s bs headed k few ∙ ap (turn_from s bs) e)

module _ {headed : Bool} {src : List ℕ} {s : Tally} {rs : List Listed} {at : ℕ} (r : Reached headed src s rs at) where
  abbrev rest : List ℕ
  rest = drop (suc at) src

  -- what is judged by the counts is judged by all that was read
  same_item : {i : Result Item Refusal} → item_of headed s (drop at src) ≡ i → item_of headed (tally_of r.state) (drop at src) ≡ i
  same_item e = ap (λ x. item_of headed x (drop at src)) (sym r.tally) ∙ e

  pub stopped : (x : Refusal) → item_of headed s (drop at src) ≡ Err x → records_read_as headed src ≡ Refuses (code x)
  unfolding records_read_as
  stopped x e = ap state_read (sym r.reads ∙ stop_read headed r.state (drop at src) x r.kept.few (same_item e))

  -- ---- a record that is taken

  module _ (i : Item) (e : item_of headed s (drop at src) ≡ Ok i) where
    there : at < length src
    there =
        test (eqb (length (drop at src)) 0)
        (λ z. let none : length (drop at src) ≡ 0 = eqb-true (length (drop at src)) 0 z in absurd (false≢true (ap is_ok (sym (item_empty headed s (drop at src) (omega arith)) ∙ e))))
        (λ z. omega (arith, length-drop at src, eqb-false (length (drop at src)) 0 z))

    pub shown : Shown s (get_or src at 0) rest (Ok i)
    shown = subst (Shown s (get_or src at 0) rest) (ap (item_of headed s) (sym (drop-cons src at 0 there)) ∙ e) (item_shown s rest headed (get_or src at 0))

    turned : turn_in headed r.state (get_or src at 0 ∷ rest) ≡ turn_from r.state rest (Ok i)
    turned =
        turn_item r.state rest headed (get_or src at 0) r.kept.few
        ∙ ap (turn_from r.state rest) (ap (item_of headed (tally_of r.state)) (sym (drop-cons src at 0 there)) ∙ same_item e)

    went : {t : Tally} {qs : List Listed} → turn_from r.state rest (Ok i) ≡ Next (added r.state rest i) → t ≡ tally_of (added r.state rest i)
        → qs ≡ filled 32 free_listed (added r.state rest i).state.regions → Went headed src t qs at
    went n a b =
        let k = get_or src at 0 in
        let q = added r.state rest i in
        let p = passed r.kept headed q (turned ∙ n) in
        let m : at + 1 + headed_body k ≤ length src = omega (arith, p.long, there, length-drop (suc at) src) in
        record {
          low = kind_low headed k p.known;
          within = m;
          on =
              record {
                state = q;
                kept = kept_next r.kept headed q (turned ∙ n);
                tally = a;
                regions = b;
                inside = m;
                reads = sym (turn_next (turn_in headed) headed_body r.state q k rest (turned ∙ n) ∙ ap (records_in headed q 0) (rest_behind src at (headed_body k)))
                    ∙ (ap (records_in headed r.state 0) (sym (drop-cons src at 0 there)) ∙ r.reads);
              };
        }

  -- ---- each kind of record, at the loop's place

  pub went_head : (t l : ℕ) → item_of headed s (drop at src) ≡ Ok (Head t l) → Went headed src (after_head t l) rs at
  unfolding tally_of
  went_head t l e =
      let z = r.kept.start (rw r.tally at (is_head (shown (Head t l) e))) in
      went (Head t l) e refl (after_head_lem r.state rest t l z.kind) (r.regions ∙ ap (filled 32 free_listed) z.regions)

  pub line_room : item_of headed s (drop at src) ≡ Ok Line → s.seen < s.lines
  line_room e = is_line (shown Line e)

  pub went_line : item_of headed s (drop at src) ≡ Ok Line → Went headed src (after_line s) rs at
  went_line e = went Line e refl (ap after_line r.tally ∙ after_line_lem r.state rest) r.regions

  module _ (x : Listed) (e : item_of headed s (drop at src) ≡ Ok (Region x)) where
    pub region_room : s.held < 32
    region_room = is_region (shown (Region x) e)

    pub went_region : Went headed src (after_region s x.key) (set rs s.held x) at
    unfolding tally_of
    went_region =
        went (Region x) e refl (ap (λ t. after_region t x.key) r.tally ∙ after_region_lem r.state rest x)
        (rw (r.regions, r.tally) (filled_more 32 free_listed r.state.state.regions x))

  module _ (k d : ℕ) (e : item_of headed s (drop at src) ≡ Ok (Entries k d)) where
    entered : Entered (tally_of r.state) (get_or src at 0) rest k d
    entered = rw r.tally at (is_entries (shown (Entries k d) e))

    pub entries_room : (s.logged ≤ 256) × (count_for s k ≤ 32)
    unfolding tally_of
    entries_room = let f = entered in let c = counted r.kept f in rw r.tally (omega (arith, c.place), omega (arith, f.room))

    pub went_entries : Went headed src (after_entries s k d) rs at
    went_entries =
        went (Entries k d) e refl (ap (λ t. after_entries t k d) r.tally ∙ after_entries_lem r.state (get_or src at 0) k d rest entered (counted r.kept entered)) r.regions

  -- ---- the end

  module _ (e : item_of headed s (drop at src) ≡ Ok End) where
    all_read : Laid src r.state.state
    unfolding tally_of
    all_read = laid r.kept (rw r.tally at (is_end (shown End e)))

    pub start_room : (s.seen ≤ s.lines) × (s.held ≤ 32)
    unfolding tally_of
    start_room = rw r.tally (r.kept.seen, r.kept.held)

    pub marks_inside : (all (is_inside src) (spots_from s.logged src (spot_at (log_start s.seen s.held))) ≡ true) × (s.logged ≤ 256)
    unfolding tally_of
    marks_inside = rw r.tally (stand_inside all_read.stand, all_read.few.1)

    pub ended : {log : List Mark} → log ≡ filled 256 no_mark (map (mark_on src) (spots_from s.logged src (spot_at (log_start s.seen s.held))))
        → Ok (tabled s rs log) ≡ read_of src (records_read_as headed src)
    unfolding records_read_as scan_of tally_of
    ended q =
        let x : records_in headed unread 0 src ≡ Reads r.state
        = sym r.reads ∙ (ap (records_in headed r.state 0) (drop-cons src at 0 (there End e))
        ∙ turn_last (turn_in headed) headed_body r.state r.state (get_or src at 0) rest (turned End e)) in
        rw (x, q, r.tally, r.regions, stand_marks all_read.stand)
