use Prim.Native.Nat.{◌-◌, ◌<◌, ℕ}
use mathlib.Core.Bool.{Bool}
use mathlib.Core.List.{List}
use mathlib.Core.Path.{◌∙◌, ◌≡◌, ap, sym}
use lib.ListN.{drop, length, take}
use native.Mathlib.Omega.{arith}
use Rattle.std.specs.Prelude.{Result, Ok, Err}
use Rattle.std.proofs.lemmas.Result.{err_from_is_err_and}
use Rattle.lines.proofs.Paste.{rest}
use Rattle.rules.specs.declared.Listed.{Listed}
use Rattle.rules.specs.declared.Refusal.{Refusal}
use Rattle.reading.specs.Item.{item_of}
use Rattle.reading.specs.Scan.{read_of}
use Rattle.reading.specs.declared.Item.{Item}
use Rattle.reading.specs.declared.Tally.{Tally}
use Rattle.reading.proofs.Walk.{Reached, ended, entries_room, line_room, marks_inside, reached_none, region_room, start_room, stopped, went_entries, went_head, went_line, went_region}
use Rattle.reading.proofs.read_records.Goals as goal
use Rattle.reading.proofs.read_records.Goals.{in-Head, in-Line, in-Region, in-Entries}

-- the record at the loop's place
here : {headed : Bool} {src : List ℕ} {s : Tally} {rs : List Listed} {at : ℕ} {x : Result Item Refusal} → Reached headed src s rs at
    → x ≡ item_of headed s (take (length src - at) (drop at src)) → (i : Result Item Refusal) → x ≡ i → item_of headed s (drop at src) ≡ i
here {src = src} {at = at} r e i q = rw (rest src at) at (sym e ∙ q)

-- a record that is taken
taken : {headed : Bool} {src : List ℕ} {s : Tally} {rs : List Listed} {at : ℕ} {x : Result Item Refusal} → Reached headed src s rs at
    → x ≡ item_of headed s (take (length src - at) (drop at src)) → {y : Item} → x ≡ Ok y → (i : Item) → y ≡ i → item_of headed s (drop at src) ≡ Ok i
taken r e q i p = here r e (Ok i) (q ∙ ap Ok p)

pub loop-item-init : goal.loop-item-init
loop-item-init c = rw c.new-tally.ensures (reached_none c.args.headed c.args.src.now)

pub returns-in_err-item : goal.returns-in_err-item
returns-in_err-item c =
    let told = err_from_is_err_and c.from_residual.result c.from_residual.ensures.1 in
    rw (told.1, told.2) (ap (read_of c.args.src.now) (sym (stopped c.loop-item.invariant _ (here c.loop-item.invariant c.one_record.ensures (Err _) c.in_err-item.was))))

pub after_line-tally-requires : goal.after_line-tally-requires
after_line-tally-requires c = line_room c.loop-item.invariant (taken c.loop-item.invariant c.one_record.ensures c.in_ok-item.was _ c.in-Line.is)

pub offset_bounds-regions-tally : goal.offset_bounds-regions-tally
offset_bounds-regions-tally c = let h : c.loop-item.tally.held < 32 = region_room c.loop-item.invariant _ (taken c.loop-item.invariant c.one_record.ensures c.in_ok-item.was _ c.in-Region.is) in record { fits = omega arith }

pub bounds-regions-tally : goal.bounds-regions-tally
bounds-regions-tally c = region_room c.loop-item.invariant _ (taken c.loop-item.invariant c.one_record.ensures c.in_ok-item.was _ c.in-Region.is)

pub after_region-tally-requires : goal.after_region-tally-requires
after_region-tally-requires c = region_room c.loop-item.invariant _ (taken c.loop-item.invariant c.one_record.ensures c.in_ok-item.was _ c.in-Region.is)

pub after_entries-tally-requires : goal.after_entries-tally-requires
after_entries-tally-requires c = entries_room c.loop-item.invariant _ _ (taken c.loop-item.invariant c.one_record.ensures c.in_ok-item.was _ c.in-Entries.is)

pub log_start-requires : goal.log_start-requires
log_start-requires c = start_room c.loop-item.invariant (taken c.loop-item.invariant c.one_record.ensures c.in_ok-item.was _ c.in-End.is)

pub log_marks-log-requires : goal.log_marks-log-requires
log_marks-log-requires c = rw c.log_start.ensures (marks_inside c.loop-item.invariant (taken c.loop-item.invariant c.one_record.ensures c.in_ok-item.was _ c.in-End.is))

pub returns-in-End : goal.returns-in-End
returns-in-End c = rw c.scan.ensures (ended c.loop-item.invariant (taken c.loop-item.invariant c.one_record.ensures c.in_ok-item.was _ c.in-End.is) (rw c.log_start.ensures at c.log_marks-log.ensures))

-- behind a record that goes on, whatever its kind
pub bounds-src-at : goal.bounds-src-at
bounds-src-at c =
    let r = c.loop-item.invariant in
    let h = taken r c.one_record.ensures c.in_ok-item.was in
    elim c.match-item.branch [
      | in-Head w ↦ omega (arith, (went_head r _ _ (h _ w.in-Head.is)).within)
      | in-Line w ↦ omega (arith, (went_line r (h _ w.in-Line.is)).within)
      | in-Region w ↦ omega (arith, (went_region r _ (h _ w.in-Region.is)).within)
      | in-Entries w ↦ omega (arith, (went_entries r _ _ (h _ w.in-Entries.is)).within)
    ]

pub body_length-requires : goal.body_length-requires
body_length-requires c =
    let r = c.loop-item.invariant in
    let h = taken r c.one_record.ensures c.in_ok-item.was in
    elim c.match-item.branch [
      | in-Head w ↦ (went_head r _ _ (h _ w.in-Head.is)).low
      | in-Line w ↦ (went_line r (h _ w.in-Line.is)).low
      | in-Region w ↦ (went_region r _ (h _ w.in-Region.is)).low
      | in-Entries w ↦ (went_entries r _ _ (h _ w.in-Entries.is)).low
    ]

pub loop-item-smaller : goal.loop-item-smaller
loop-item-smaller c =
    let r = c.loop-item.invariant in
    let h = taken r c.one_record.ensures c.in_ok-item.was in
    elim c.match-item.branch [
      | in-Head w ↦ omega (arith, (went_head r _ _ (h _ w.in-Head.is)).within)
      | in-Line w ↦ omega (arith, (went_line r (h _ w.in-Line.is)).within)
      | in-Region w ↦ omega (arith, (went_region r _ (h _ w.in-Region.is)).within)
      | in-Entries w ↦ omega (arith, (went_entries r _ _ (h _ w.in-Entries.is)).within)
    ]

pub loop-item-preserved : goal.loop-item-preserved
loop-item-preserved c =
    let r = c.loop-item.invariant in
    let h = taken r c.one_record.ensures c.in_ok-item.was in
    elim c.match-item.branch [
      | in-Head w ↦ rw (c.body_length.ensures, w.tally-is, w.regions-is, w.new-tally-in-Head.ensures) (went_head r _ _ (h _ w.in-Head.is)).on
      | in-Line w ↦ rw (c.body_length.ensures, w.tally-is, w.regions-is, w.after_line-tally.ensures) (went_line r (h _ w.in-Line.is)).on
      | in-Region w ↦ rw (c.body_length.ensures, w.tally-is, w.regions-is, w.after_region-tally.ensures) (went_region r _ (h _ w.in-Region.is)).on
      | in-Entries w ↦ rw (c.body_length.ensures, w.tally-is, w.regions-is, w.after_entries-tally.ensures) (went_entries r _ _ (h _ w.in-Entries.is)).on
    ]
