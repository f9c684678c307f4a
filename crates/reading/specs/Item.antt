-- A record of an image, judged by the sizes, the counts and the last keys of what was read before it.
use Rattle.std.specs.Prelude.{◌+◌, ℕ, Bool, Result, Ok, Err, ◌&&◌, ◌||◌, cond, not, List, [], ◌∷◌, eqb, leb, ltb, drop, get_or, length, take}
use Rattle.rules.specs.Bytes.{num_of}
use Rattle.headed.specs.Reader.{Progress, headed_body, held_in, is_beside, is_header, is_kind_of, is_on_board}
use Rattle.rules.specs.Lists.{all, count}
use Rattle.rules.specs.Measures.{most_entries, most_regions}
use Rattle.rules.specs.Reader.{is_known_thread, is_logged_by, key_at, last_listed, last_logged, listed_at}
use Rattle.rules.specs.Refusal.{in_range}
use Rattle.rules.specs.Tables.{thread_of}
use Rattle.rules.specs.declared.Listed.{Listed}
use Rattle.rules.specs.declared.Mark.{Mark}
use Rattle.rules.specs.declared.Refusal.{Refusal}
use Rattle.rules.specs.declared.Refusal.TheVariants.{CutShort, NoLine, NoThread, OutOfPlace, OutOfRange, UnknownKind}
use Rattle.reading.specs.declared.Item.TheVariants.{End, Entries, Head, Line, Region}
use Rattle.reading.specs.declared.Item.{Item}
use Rattle.reading.specs.declared.Scan.{Scan}
use Rattle.reading.specs.declared.Tally.{Tally}
use Rattle.reading.specs.Spots.{holds, is_log_kind}

-- what the next record is judged by
unfoldable pub tally_of : Progress → Tally
tally_of s =
    record {
      threads = s.state.threads;
      lines = s.state.lines;
      seen = length s.state.medium;
      held = length s.state.regions;
      last = last_listed s.state.regions;
      logged = length s.state.log;
      mark = last_logged s.state.log;
      count = count (is_logged_by (thread_of (last_logged s.state.log))) s.state.log;
      kind = s.kind;
    }

-- 32, then L of 33, then any of 34, then any of 35 or any of 41 to 47, then 36
abbrev pub in_order : Tally → ℕ → Bool
in_order s k =
    cond (eqb s.threads 0) (eqb k 32)
    (cond (ltb s.seen s.lines) (eqb k 33)
    (cond (eqb s.logged 0) (leb 34 k) (leb 35 k)))

abbrev pub placed : Tally → ℕ → Bool
placed s k = in_order s k && not (is_beside s.kind k)

-- ---- the fields of each record, once its place and its length are right

unfoldable pub head_item : List ℕ → Result Item Refusal
head_item bs =
    cond (in_range (get_or bs 0 0) (num_of (take 2 (drop 1 bs))))
    (Ok (Head (get_or bs 0 0) (num_of (take 2 (drop 1 bs))))) (Err OutOfRange)

unfoldable pub region_item : Tally → Listed → Result Item Refusal
region_item s r =
    cond (all (is_known_thread s.threads) (r.key ∷ r.deps))
    (cond (eqb s.held 0 || ltb s.last r.key)
    (cond (ltb s.held most_regions) (Ok (Region r)) (Err OutOfPlace)) (Err OutOfPlace)) (Err NoThread)

-- the log entries of the key's thread, where no later thread has one
abbrev pub count_for : Tally → ℕ → ℕ
count_for s k = cond (eqb (thread_of s.mark) (thread_of k)) s.count 0

-- behind a record of fewer than seven entries of its own region
abbrev pub behind_short : Tally → ℕ → Bool
behind_short s k = is_header s.kind && (ltb s.kind 47 && eqb s.mark k)

-- a record of 35 is judged as one of 41: behind a short record it has no place
unfoldable pub entries_item : Tally → ℕ → List ℕ → Result Item Refusal
entries_item s k bs =
    cond (is_known_thread s.threads (key_at bs 0))
    (cond (all (is_on_board s.lines) (held_in (holds k) bs))
    (cond (leb s.mark (key_at bs 0))
    (cond (not (behind_short s (key_at bs 0)))
    (cond (leb (count_for s (key_at bs 0) + holds k) most_entries) (Ok (Entries (key_at bs 0) k))
    (Err OutOfPlace)) (Err OutOfPlace)) (Err OutOfPlace)) (Err NoLine)) (Err NoThread)

unfoldable pub end_item : List ℕ → Result Item Refusal
end_item bs = cond (eqb (length bs) 0) (Ok End) (Err OutOfPlace)

unfoldable pub fields_item : Tally → ℕ → List ℕ → Result Item Refusal
fields_item s k bs =
    cond (eqb k 32) (head_item bs)
    (cond (eqb k 33) (Ok Line)
    (cond (eqb k 34) (region_item s (listed_at bs))
    (cond (is_log_kind k) (entries_item s k bs) (end_item bs))))

-- ---- a record at the front of the bytes
unfoldable pub item_of : Bool → Tally → List ℕ → Result Item Refusal
item_of headed s [] = Err CutShort
item_of headed s (k ∷ bs) =
    cond (is_kind_of headed k)
    (cond (placed s k) (cond (leb (headed_body k) (length bs)) (fields_item s k bs) (Err CutShort)) (Err OutOfPlace))
    (Err UnknownKind)

-- ---- what the record behind it is judged by

abbrev pub after_head : ℕ → ℕ → Tally
after_head t l = record { threads = t; lines = l; seen = 0; held = 0; last = 0; logged = 0; mark = 0; count = 0; kind = 0 }

abbrev pub after_line : Tally → Tally
after_line s =
    record {
      threads = s.threads;
      lines = s.lines;
      seen = s.seen + 1;
      held = s.held;
      last = s.last;
      logged = s.logged;
      mark = s.mark;
      count = s.count;
      kind = s.kind;
    }

abbrev pub after_region : Tally → ℕ → Tally
after_region s k =
    record {
      threads = s.threads;
      lines = s.lines;
      seen = s.seen;
      held = s.held + 1;
      last = k;
      logged = s.logged;
      mark = s.mark;
      count = s.count;
      kind = s.kind;
    }

abbrev pub after_entries : Tally → ℕ → ℕ → Tally
after_entries s k kind =
    record {
      threads = s.threads;
      lines = s.lines;
      seen = s.seen;
      held = s.held;
      last = s.last;
      logged = s.logged + holds kind;
      mark = k;
      count = count_for s k + holds kind;
      kind = kind;
    }

-- ---- the tables that were filled meanwhile
abbrev pub tabled : Tally → List Listed → List Mark → Scan
tabled s regions log =
    record { threads = s.threads; lines = s.lines; seen = s.seen; held = s.held; regions = regions; logged = s.logged; log = log }
