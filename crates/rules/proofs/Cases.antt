-- The cases of document 01 marked P, one table, computed from the definitions.
use Prim.Native.Nat.{◌+◌, suc, zero, ℕ}
use mathlib.Core.Bool.{Bool, ◌&&◌, cond, false, true}
use mathlib.Core.List.{List, [], ◌++◌, ◌∷◌, map}
use lib.Dec.{T, eqb}
use lib.ListN.{length, replicate}
use Rattle.rules.specs.Access.{joined, logged, note_read, read, stored, word_after, write, wrote}
use Rattle.rules.specs.Acknowledge.{data_ack, dropped, kept, kept_entry, landed, log_ack, unlocked}
use Rattle.rules.specs.Begin.{begin, opened}
use Rattle.rules.specs.Bytes.{bytes_of, line_at, num_of, words_bytes, words_of}
use Rattle.rules.specs.Claim.{board_after, entries_in, pass_length, recovering, restores}
use Rattle.rules.specs.Commit.{after_commit, commit, commits, done_region, earlier, earliest_from, freed, settle, settled}
use Rattle.rules.specs.Contradiction.{any_broken, any_clash, contradicts, in_order, reaches, reaches_in}
use Rattle.rules.specs.End.{closed, end_region, outside}
use Rattle.rules.specs.Flight.{flown}
use Rattle.rules.specs.Image.{encode, entry_record, head_record, image, line_record, region_record, saved, saved_entry, saved_log, saved_region, saved_regions, saved_thread}
use Rattle.rules.specs.Kinds.{kind_at}
use Rattle.rules.specs.Lists.{above_from, all, count, flat, place, rising_from}
use Rattle.rules.specs.Reader.{end_turn, fields_turn, head_turn, line_turn, listed_at, listed_turn, logged_at, logged_turn, read_by, read_image, turn_by}
use Rattle.rules.specs.Record.{event_of, read_record}
use Rattle.rules.specs.Recovery.{act, acts, line_start, restore, restore_by}
use Rattle.rules.specs.Refusal.{refusal, tests_of}
use Rattle.rules.specs.Run.{run}
use Rattle.rules.specs.Slots.{carried, flown_slots, renewed, slot_from, without_line, written}
use Rattle.rules.specs.Step.{apply, fence, settled_board, setup, step, step_by, step_event}
use Rattle.rules.specs.Tables.{Zero, fresh, lent_from, lent_line, owner_of, start_lines}
use Rattle.rules.specs.Walk.{entries_from, entries_of, next_place, walk, walk_entries, walk_from, without}

-- ---- records

-- request 1: "Document 01's cases have zeros there"
abbrev pub setup' : ℕ → ℕ → List ℕ
setup' n l = 0 ∷ n ∷ bytes_of 2 l ++ replicate 10 0

abbrev pub begin' : ℕ → List ℕ
begin' t = 1 ∷ t ∷ []

abbrev pub end' : ℕ → List ℕ
end' t = 2 ∷ t ∷ []

abbrev read' : ℕ → ℕ → ℕ → List ℕ
read' t l w = 3 ∷ t ∷ l ∷ w ∷ []

abbrev pub write' : ℕ → ℕ → ℕ → ℕ → List ℕ
write' t l w v = 4 ∷ t ∷ l ∷ w ∷ bytes_of 8 v

abbrev pub log_ack' : ℕ → List ℕ
log_ack' l = 5 ∷ l ∷ []

abbrev pub data_ack' : ℕ → List ℕ
data_ack' l = 6 ∷ l ∷ []

abbrev pub cut' : List ℕ
cut' = 8 ∷ []

-- ---- a case: a file, its answers as pairs of refusal and value, the length of the image if it is cut (0 if not) and the recovered nonzero words

pub record Word : Type 0 where
  pub line : ℕ
  pub word : ℕ
  pub value : ℕ

pub record Case : Type 0 where
  pub file : List (List ℕ)
  pub refusals : List ℕ
  pub values : List ℕ
  pub image_length : ℕ
  pub words : List Word

-- n events answered alike
abbrev times : ℕ → ℕ → List ℕ
times n x = replicate n x

-- lines i, .., i + n - 1 written by thread 0, each followed by `after`
abbrev writes : ℕ → ℕ → (ℕ → List (List ℕ)) → List (List ℕ)
writes i zero after = []
writes i (suc n) after = write' 0 i 0 7 ∷ (after i ++ writes (suc i) n after)

-- n regions of thread 0 that each write one line, from line i on, and end
abbrev regions : ℕ → ℕ → List (List ℕ)
regions i zero = []
regions i (suc n) = begin' 0 ∷ write' 0 i 0 7 ∷ end' 0 ∷ regions (suc i) n

-- n regions of thread 0 with eight logged lines each, from line i on: no data is acknowledged, so no entry is freed
abbrev full : ℕ → ℕ → List (List ℕ)
full i zero = []
full i (suc n) = begin' 0 ∷ (writes i 8 (λ l. log_ack' l ∷ []) ++ (end' 0 ∷ full (i + 8) n))

p1 : List (List ℕ)
p1 = setup' 2 2 ∷ begin' 0 ∷ write' 0 0 0 7 ∷ begin' 1 ∷ read' 1 0 0 ∷ log_ack' 0 ∷ end' 0 ∷ write' 1 0 0 9 ∷ end' 1 ∷ data_ack' 0 ∷ cut' ∷ []

p2 : List (List ℕ)
p2 = setup' 2 2 ∷ begin' 0 ∷ write' 0 0 0 7 ∷ begin' 1 ∷ read' 1 0 0 ∷ log_ack' 0 ∷ end' 0 ∷ write' 1 0 0 9 ∷ end' 1 ∷ log_ack' 0 ∷ cut' ∷ []

p3 : List (List ℕ)
p3 = setup' 2 2 ∷ begin' 0 ∷ write' 0 0 0 7 ∷ begin' 1 ∷ read' 1 0 0 ∷ end' 0 ∷ write' 1 0 0 9 ∷ end' 1 ∷ data_ack' 0 ∷ cut' ∷ []

pub cases : List Case
unfolding p1 p2 p3
cases =
    -- P1
    record {
      file = p1;
      refusals = 0 ∷ 0 ∷ 0 ∷ 0 ∷ 17 ∷ 0 ∷ 0 ∷ 0 ∷ 0 ∷ 0 ∷ 0 ∷ [];
      values = 0 ∷ 0 ∷ 0 ∷ 0 ∷ 0 ∷ 0 ∷ 0 ∷ 0 ∷ 0 ∷ 1 ∷ 1 ∷ [];
      image_length = 152;
      words = record { line = 0; word = 0; value = 7 } ∷ [];
    }
    -- P2: the log acknowledgement commits the first region
    ∷ record {
      file = p2;
      refusals = 0 ∷ 0 ∷ 0 ∷ 0 ∷ 17 ∷ 0 ∷ 0 ∷ 0 ∷ 0 ∷ 0 ∷ 0 ∷ [];
      values = 0 ∷ 0 ∷ 0 ∷ 0 ∷ 0 ∷ 0 ∷ 0 ∷ 0 ∷ 0 ∷ 1 ∷ 1 ∷ [];
      image_length = 221;
      words = record { line = 0; word = 0; value = 7 } ∷ [];
    }
    -- P3
    ∷ record {
      file = p3;
      refusals = 0 ∷ 0 ∷ 0 ∷ 0 ∷ 17 ∷ 0 ∷ 18 ∷ 0 ∷ 22 ∷ 0 ∷ [];
      values = 0 ∷ 0 ∷ 0 ∷ 0 ∷ 0 ∷ 0 ∷ 0 ∷ 1 ∷ 0 ∷ 1 ∷ [];
      image_length = 152;
      words = [];
    }
    -- P4
    ∷ record { file = setup' 1 1 ∷ begin' 0 ∷ end' 0 ∷ []; refusals = times 3 0; values = 0 ∷ 0 ∷ 1 ∷ []; image_length = 0; words = [] }
    -- P5
    ∷ record { file = setup' 1 1 ∷ replicate 16 (begin' 0); refusals = times 16 0 ++ (13 ∷ []); values = times 17 0; image_length = 0; words = [] }
    -- P6
    ∷ record {
      file = setup' 1 5 ∷ begin' 0 ∷ write' 0 0 0 7 ∷ log_ack' 0 ∷ (writes 1 3 (λ l. []) ++ (data_ack' 0 ∷ write' 0 4 0 7 ∷ data_ack' 0 ∷ []));
      refusals = times 7 0 ++ (22 ∷ 0 ∷ 0 ∷ []);
      values = times 10 0;
      image_length = 0;
      words = [];
    }
    -- P7
    ∷ record {
      file = setup' 1 9 ∷ begin' 0 ∷ (writes 0 8 (λ l. []) ++ (write' 0 8 0 7 ∷ write' 0 3 1 9 ∷ []));
      refusals = times 10 0 ++ (20 ∷ 0 ∷ []);
      values = times 12 0;
      image_length = 0;
      words = [];
    }
    -- P8
    ∷ record { file = setup' 1 4 ∷ (regions 0 4 ++ (begin' 0 ∷ [])); refusals = times 13 0 ++ (15 ∷ []); values = times 14 0; image_length = 0; words = [] }
    -- P9
    ∷ record {
      file =
          setup' 1 200
          ∷ begin' 0
          ∷ write' 0 199 0 7
          ∷ write' 0 200 0 7
          ∷ read' 0 199 0
          ∷ read' 0 200 0
          ∷ log_ack' 199
          ∷ log_ack' 200
          ∷ end' 0
          ∷ data_ack' 200
          ∷ data_ack' 199
          ∷ [];
      refusals = 0 ∷ 0 ∷ 0 ∷ 4 ∷ 0 ∷ 4 ∷ 0 ∷ 4 ∷ 0 ∷ 4 ∷ 0 ∷ [];
      values = 0 ∷ 0 ∷ 0 ∷ 0 ∷ 7 ∷ 0 ∷ 0 ∷ 0 ∷ 0 ∷ 0 ∷ 1 ∷ [];
      image_length = 0;
      words = [];
    }
    ∷ record { file = setup' 1 256 ∷ begin' 0 ∷ write' 0 255 0 7 ∷ []; refusals = times 3 0; values = times 3 0; image_length = 0; words = [] }
    -- P10
    ∷ record {
      file = setup' 1 1 ∷ begin' 0 ∷ read' 0 0 7 ∷ read' 0 0 8 ∷ write' 0 0 7 9 ∷ write' 0 0 8 9 ∷ [];
      refusals = 0 ∷ 0 ∷ 0 ∷ 5 ∷ 0 ∷ 5 ∷ [];
      values = times 6 0;
      image_length = 0;
      words = [];
    }
    -- P11
    ∷ record { file = setup' 1 1 ∷ cut' ∷ []; refusals = times 2 0; values = times 2 0; image_length = 70; words = [] }
    -- the 33rd logged line
    ∷ record {
      file = setup' 1 40 ∷ (full 0 3 ++ (begin' 0 ∷ (writes 24 8 (λ l. log_ack' l ∷ []) ++ (data_ack' 24 ∷ write' 0 32 0 7 ∷ []))));
      refusals = times 73 0 ++ (21 ∷ []);
      values = times 74 0;
      image_length = 0;
      words = [];
    }
    -- request 5: thread 0 reads line 0 at depth 2. Thread 1 is kept from the line, not from the next, until thread 0 is back at depth 0; its next region has not
    -- read the line, and the refused read leaves no mark. Then line 1 is locked and thread 0 has read it: 25 comes before 18
    ∷ record {
      file =
          setup' 3 2
          ∷ begin' 0
          ∷ begin' 0
          ∷ read' 0 0 3
          ∷ begin' 1
          ∷ write' 1 0 7 9
          ∷ write' 1 1 0 9
          ∷ end' 0
          ∷ write' 1 0 0 9
          ∷ end' 0
          ∷ begin' 0
          ∷ write' 1 0 0 9
          ∷ read' 0 0 0
          ∷ write' 1 0 1 8
          ∷ end' 1
          ∷ read' 0 1 0
          ∷ begin' 2
          ∷ write' 2 1 0 5
          ∷ end' 0
          ∷ write' 2 1 0 5
          ∷ [];
      refusals = 0 ∷ 0 ∷ 0 ∷ 0 ∷ 0 ∷ 25 ∷ 0 ∷ 0 ∷ 25 ∷ 0 ∷ 0 ∷ 0 ∷ 17 ∷ 0 ∷ 0 ∷ 0 ∷ 0 ∷ 25 ∷ 0 ∷ 18 ∷ [];
      values = times 9 0 ++ (1 ∷ (times 5 0 ++ (9 ∷ times 4 0)));
      image_length = 0;
      words = [];
    }
    ∷ []

-- ---- the test of a case

unfoldable pub same : List ℕ → List ℕ → Bool
same [] [] = true
same [] (y ∷ ys) = false
same (x ∷ xs) [] = false
same (x ∷ xs) (y ∷ ys) = eqb x y && same xs ys

-- the nonzero words of a line, from word w on
unfoldable pub line_words : ℕ → ℕ → List ℕ → List ℕ
line_words l w [] = []
line_words l w (v ∷ vs) = cond (eqb v 0) (line_words l (suc w) vs) (l ∷ w ∷ v ∷ line_words l (suc w) vs)

-- the nonzero words of n lines found in an image, from line l on
unfoldable pub found_words : ℕ → ℕ → List ℕ → List ℕ
unfolding line_words words_of num_of
found_words l zero bs = []
found_words l (suc n) bs = line_words l 0 (line_at bs (line_start l)) ++ found_words (suc l) n bs

-- what recovery leaves of the image of a file
recovered : List (List ℕ) → List ℕ
unfolding restores
recovered rs = (restores (pass_length Zero rs) (recovering Zero rs [])).bytes

holds_cut : Case → Bool
unfolding recovered found_words same flat
holds_cut c =
    eqb (length (image (board_after Zero c.file))) c.image_length
    && same (found_words 0 (board_after Zero c.file).tables.size.lines (recovered c.file)) (flat (λ w. w.line ∷ w.word ∷ w.value ∷ []) c.words)

pub holds : Case → Bool
unfolding holds_cut same
holds c =
    (same (map (λ a. a.refusal) (run (fresh Zero) c.file).answers) c.refusals && same (map (λ a. a.value) (run (fresh Zero) c.file).answers) c.values)
    && cond (eqb c.image_length 0) true (holds_cut c)

-- every case P1 to P11, the 33rd logged line, and a line that somebody is reading
pub table : T (all holds cases)
unfolding holds holds_cut acts recovered found_words line_words same cases p1 p2 p3 joined read note_read logged wrote stored write dropped kept_entry kept unlocked log_ack landed data_ack opened begin bytes_of num_of words_bytes words_of entries_in restores done_region commits earlier earliest_from after_commit freed commit settle settled in_order any_broken reaches_in reaches any_clash contradicts outside closed end_region flown saved_region saved_regions saved_entry saved_thread saved_log saved head_record line_record region_record entry_record encode image count place flat above_from rising_from head_turn line_turn listed_at listed_turn logged_at logged_turn end_turn fields_turn turn_by read_by read_image event_of read_record restore_by restore act tests_of refusal run slot_from without_line renewed written flown_slots carried settled_board setup fence apply step_by step_event step lent_line lent_from start_lines fresh owner_of next_place without walk_from walk entries_of entries_from walk_entries kind_at word_after
table = tt
