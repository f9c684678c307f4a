-- Worked cases of torn stores, one table, computed from the definitions.
use Prim.Native.Nat.{suc, ℕ}
use mathlib.Core.Bool.{Bool, ◌&&◌, false, true}
use mathlib.Core.List.{List, [], ◌∷◌}
use lib.Dec.{T, eqb}
use Rattle.rules.specs.Access.{joined, logged, note_read, read, stored, word_after, write, wrote}
use Rattle.rules.specs.Acknowledge.{data_ack, dropped, kept, kept_entry, landed, log_ack, unlocked}
use Rattle.rules.specs.Begin.{begin, opened}
use Rattle.rules.specs.Bytes.{bytes_of, num_of, words_bytes, words_of}
use Rattle.rules.specs.Claim.{board_after, restores}
use Rattle.rules.specs.Commit.{after_commit, commit, commits, done_region, earlier, earliest_from, freed, settle, settled}
use Rattle.rules.specs.Contradiction.{any_broken, any_clash, contradicts, in_order, reaches, reaches_in}
use Rattle.rules.specs.End.{closed, end_region, outside}
use Rattle.rules.specs.Flight.{flown}
use Rattle.rules.specs.Image.{encode, entry_record, head_record, image, line_record, region_record, saved, saved_entry, saved_log, saved_region, saved_regions, saved_thread}
use Rattle.rules.specs.Kinds.{kind_at}
use Rattle.rules.specs.Lists.{above_from, all, count, flat, place, rising_from}
use Rattle.rules.specs.Reader.{end_turn, fields_turn, head_turn, line_turn, listed_at, listed_turn, logged_at, logged_turn, read_by, read_image, turn_by}
use Rattle.rules.specs.Record.{event_of, read_record}
use Rattle.rules.specs.Recovery.{act, acts, restore, restore_by}
use Rattle.rules.specs.Refusal.{refusal, tests_of}
use Rattle.rules.specs.Run.{run}
use Rattle.rules.specs.Slots.{carried, flown_slots, renewed, slot_from, without_line, written}
use Rattle.rules.specs.Step.{apply, fence, settled_board, setup, step, step_by, step_event}
use Rattle.rules.specs.Tables.{Zero, fresh, lent_from, lent_line, owner_of, start_lines}
use Rattle.rules.specs.Walk.{entries_from, entries_of, next_place, walk, walk_entries, walk_from, without}
use Rattle.rules.proofs.Cases.{begin', cut', data_ack', end', found_words, line_words, log_ack', same, setup', write'}
use Rattle.torn.specs.Torn.{Between, Inside, TornAct, Whole, is_torn, mixed, torn_act, torn_acts, torn_by, torn_from, torn_image, torn_recovering, torn_state}

-- a choice of words at the cut of the file below, and acts; the place behind the acts, and the nonzero words as line, word and value: in the torn image, behind the
-- acts, and behind one more step
pub record TornCase : Type 0 where
  pub choice : ℕ → ℕ → Bool
  pub acts : List TornAct
  pub place : ℕ
  pub torn : List ℕ
  pub left : List ℕ
  pub found : List ℕ

-- Region 1 of thread 0 has committed 3 and 4. Its region 2 has both lines in flight. Thread 1 has written line 0 since, so that its flight carries older bytes than
-- current memory; that log entry and the one of line 2 are in flight, and no data of line 2 is.
file : List (List ℕ)
file =
    setup' 2 3
    ∷ begin' 0
    ∷ write' 0 0 0 3
    ∷ write' 0 0 7 4
    ∷ log_ack' 0
    ∷ end' 0
    ∷ data_ack' 0
    ∷ begin' 0
    ∷ write' 0 0 0 5
    ∷ write' 0 0 1 6
    ∷ write' 0 1 2 7
    ∷ log_ack' 0
    ∷ log_ack' 1
    ∷ end' 0
    ∷ begin' 1
    ∷ write' 1 0 0 8
    ∷ write' 1 2 0 9
    ∷ cut'
    ∷ []

-- what the image saved has, what it has with every word of both flights, and that with line 1 restored
abbrev saved' : List ℕ
saved' = 0 ∷ 0 ∷ 3 ∷ 0 ∷ 7 ∷ 4 ∷ []

abbrev landed' : List ℕ
landed' = 0 ∷ 0 ∷ 5 ∷ 0 ∷ 1 ∷ 6 ∷ 0 ∷ 7 ∷ 4 ∷ 1 ∷ 2 ∷ 7 ∷ []

abbrev partly : List ℕ
partly = 0 ∷ 0 ∷ 5 ∷ 0 ∷ 1 ∷ 6 ∷ 0 ∷ 7 ∷ 4 ∷ []

cases : List TornCase
cases =
    -- no word; every word
    record { choice = λ l w. false; acts = []; place = 0; torn = saved'; left = saved'; found = saved' }
    ∷ record { choice = λ l w. true; acts = []; place = 0; torn = landed'; left = landed'; found = partly }
    -- one word of each line, another in each; line 2 is not in flight
    ∷ record {
      choice = λ l w. eqb w (suc l);
      acts = [];
      place = 0;
      torn = 0 ∷ 0 ∷ 3 ∷ 0 ∷ 1 ∷ 6 ∷ 0 ∷ 7 ∷ 4 ∷ 1 ∷ 2 ∷ 7 ∷ [];
      left = 0 ∷ 0 ∷ 3 ∷ 0 ∷ 1 ∷ 6 ∷ 0 ∷ 7 ∷ 4 ∷ 1 ∷ 2 ∷ 7 ∷ [];
      found = 0 ∷ 0 ∷ 3 ∷ 0 ∷ 1 ∷ 6 ∷ 0 ∷ 7 ∷ 4 ∷ [];
    }
    -- a cut inside the first step, by which a word had been restored that differed, or one that did not; a cut behind it
    ∷ record { choice = λ l w. true; acts = Inside (λ w. eqb w 2) ∷ []; place = 0; torn = landed'; left = partly; found = partly }
    ∷ record { choice = λ l w. true; acts = Inside (λ w. eqb w 3) ∷ []; place = 0; torn = landed'; left = landed'; found = partly }
    ∷ record { choice = λ l w. true; acts = Whole ∷ Between ∷ []; place = 0; torn = landed'; left = partly; found = partly }
    -- a cut inside the last step, then recovery from the start
    ∷ record {
      choice = λ l w. true;
      acts = Whole ∷ Inside (λ w. eqb w 0) ∷ [];
      place = 0;
      torn = landed';
      left = 0 ∷ 0 ∷ 3 ∷ 0 ∷ 1 ∷ 6 ∷ 0 ∷ 7 ∷ 4 ∷ [];
      found = 0 ∷ 0 ∷ 3 ∷ 0 ∷ 1 ∷ 6 ∷ 0 ∷ 7 ∷ 4 ∷ [];
    }
    ∷ record {
      choice = λ l w. true;
      acts = Whole ∷ Inside (λ w. eqb w 0) ∷ Whole ∷ [];
      place = 1;
      torn = landed';
      left = 0 ∷ 0 ∷ 3 ∷ 0 ∷ 1 ∷ 6 ∷ 0 ∷ 7 ∷ 4 ∷ [];
      found = saved';
    }
    -- a cut inside a step that restores nothing, behind the last
    ∷ record { choice = λ l w. true; acts = Whole ∷ Whole ∷ Inside (λ w. true) ∷ []; place = 0; torn = landed'; left = saved'; found = saved' }
    ∷ []

holds : TornCase → Bool
holds c =
    same (found_words 0 3 (torn_image c.choice (board_after Zero file))) c.torn
    && (eqb (torn_recovering Zero file c.choice c.acts).at c.place
    && (same (found_words 0 3 (torn_recovering Zero file c.choice c.acts).bytes) c.left
    && same (found_words 0 3 (restore (torn_recovering Zero file c.choice c.acts)).after.bytes) c.found))

table : T (all holds cases)
unfolding holds cases file is_torn mixed torn_from torn_state torn_image torn_by torn_act torn_acts acts found_words line_words same joined read note_read logged wrote stored write dropped kept_entry kept unlocked log_ack landed data_ack opened begin bytes_of num_of words_bytes words_of restores done_region commits earlier earliest_from after_commit freed commit settle settled in_order any_broken reaches_in reaches any_clash contradicts outside closed end_region flown saved_region saved_regions saved_entry saved_thread saved_log saved head_record line_record region_record entry_record encode image count place flat above_from rising_from head_turn line_turn listed_at listed_turn logged_at logged_turn end_turn fields_turn turn_by read_by read_image event_of read_record restore_by restore act tests_of refusal run slot_from without_line renewed written flown_slots carried settled_board setup fence apply step_by step_event step lent_line lent_from start_lines fresh owner_of next_place without walk_from walk entries_of entries_from walk_entries kind_at word_after
table = tt
