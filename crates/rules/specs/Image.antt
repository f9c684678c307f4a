-- "The image holds the medium, the dependence list and the persistent log entries, and nothing else survives."
use Rattle.std.specs.Prelude.{◌%◌, ◌*◌, ◌+◌, suc, zero, ℕ, ◌&&◌, cond, not, List, [], ◌++◌, ◌∷◌, map, eqb, get_or, length, replicate, take}
use Rattle.rules.specs.Bytes.{bytes_of, line_bytes}
use Rattle.rules.specs.Lists.{flat, place, rising}
use Rattle.rules.specs.Measures.{most_deps, most_entries, most_threads}
use Rattle.rules.specs.Refusal.{is_set_up}
use Rattle.rules.specs.Run.{Wrote, run_file, wrote_into}
use Rattle.rules.specs.Tables.{Lent, is_key, line_of, no_entry, no_region, number_of, thread_at, thread_of}
use Rattle.rules.specs.declared.Board.{Board}
use Rattle.rules.specs.declared.Entry.{Entry}
use Rattle.rules.specs.declared.Listed.{Listed}
use Rattle.rules.specs.declared.Region.{Region}

-- a persistent log entry
pub record Logged : Type 0 where
  pub key : ℕ
  pub line : ℕ
  pub old : List ℕ

-- the persistent state
pub record Persistent : Type 0 where
  pub threads : ℕ
  pub lines : ℕ
  pub medium : List (List ℕ)
  pub regions : List Listed
  pub log : List Logged

-- what stands behind the list of regions, and behind the log
abbrev pub no_listed : Listed
no_listed = record { key = 0; state = 0; deps = [] }

abbrev pub no_logged : Logged
no_logged = record { key = 0; line = 0; old = [] }

-- nothing is held yet, of T threads and L lines
abbrev pub sized : ℕ → ℕ → Persistent
sized n l = record { threads = n; lines = l; medium = []; regions = []; log = [] }

abbrev pub with_medium : List (List ℕ) → Persistent → Persistent
with_medium m p = record { threads = p.threads; lines = p.lines; medium = m; regions = p.regions; log = p.log }

abbrev pub with_listed : List Listed → Persistent → Persistent
with_listed rs p = record { threads = p.threads; lines = p.lines; medium = p.medium; regions = rs; log = p.log }

abbrev pub with_logged : List Logged → Persistent → Persistent
with_logged es p = record { threads = p.threads; lines = p.lines; medium = p.medium; regions = p.regions; log = es }

-- ---- the persistent state of a board

unfoldable pub saved_region : Region → Listed
saved_region r = record { key = r.key; state = cond r.done 1 0; deps = take most_deps (rising r.deps ++ replicate most_deps 0) }

-- "rising by thread then number", whatever the channel
unfoldable pub saved_regions : List Region → List Listed
saved_regions rs = map (λ k. saved_region (get_or rs (place (is_key k) rs) no_region)) (rising (map (λ r. r.key) rs))

-- a persistent entry's place in the order of its thread's writes: regions by number, in a region by rank; 0 for any other entry
abbrev pub order_of : Entry → ℕ
order_of e = cond (e.persistent && not (eqb e.key 0)) (256 * e.key + e.rank) 0

unfoldable pub saved_entry : ℕ → List Entry → List (List ℕ) → ℕ → Logged
saved_entry t log old o =
    record {
      key = (get_or log (place (λ e. eqb (order_of e) o) log) no_entry).key;
      line = (get_or log (place (λ e. eqb (order_of e) o) log) no_entry).line;
      old = line_of (most_entries * t + place (λ e. eqb (order_of e) o) log) old;
    }

-- "by thread, oldest write first"
unfoldable pub saved_thread : ℕ → Board → List Logged
saved_thread t b = map (saved_entry t (thread_at t b.tables).log b.log_lines) (rising (map order_of (thread_at t b.tables).log))

-- the entries of n threads from thread t on
unfoldable pub saved_log : ℕ → ℕ → Board → List Logged
saved_log t zero b = []
saved_log t (suc n) b = saved_thread t b ++ saved_log (suc t) n b

unfoldable pub saved : Board → Persistent
saved b =
    record {
      threads = b.tables.size.threads;
      lines = b.tables.size.lines;
      medium = take b.tables.size.lines b.med;
      regions = saved_regions b.tables.regions;
      log = saved_log 0 most_threads b;
    }

-- ---- its records: "32 head (T 1, L 2); L records 33 (64 bytes), line 0 upward; 34 dependence entry (thread 1, number 2, state 1, four dependences
-- of thread 1, number 2); 35 log entry (thread 1, number 2, line 1, old line 64); 36 end (empty)"

abbrev pub key_bytes : ℕ → List ℕ
key_bytes k = thread_of k % 256 ∷ bytes_of 2 (number_of k)

unfoldable pub head_record : ℕ → ℕ → List ℕ
head_record n l = 32 ∷ n ∷ bytes_of 2 l

unfoldable pub line_record : List ℕ → List ℕ
line_record l = 33 ∷ line_bytes l

unfoldable pub region_record : Listed → List ℕ
region_record r = 34 ∷ (key_bytes r.key ++ (r.state ∷ flat key_bytes r.deps))

unfoldable pub entry_record : Logged → List ℕ
entry_record e = 35 ∷ (key_bytes e.key ++ (e.line ∷ line_bytes e.old))

unfoldable pub encode : Persistent → List ℕ
encode p =
    head_record p.threads p.lines
    ++ (flat line_record p.medium ++ (flat region_record p.regions ++ (flat entry_record p.log ++ (36 ∷ []))))

unfoldable pub image : Board → List ℕ
image b = encode (saved b)

-- ---- saving

-- "6 .. saving before an accepted cut or into a buffer shorter than the image"; "the value of a save is the image's length"
unfoldable pub save : Board → List ℕ → Wrote
save b d =
    cond (is_set_up b.tables && b.tables.cut) (wrote_into (image b) (length (image b)) d)
    (record { answer = record { refusal = 6; value = 0 }; buffer = d })

-- the call that runs a file over lent memory and saves the image
unfoldable pub image_call : List ℕ → List ℕ → List ℕ → Wrote
image_call file memory d = save (run_file (Lent memory) file).board d
