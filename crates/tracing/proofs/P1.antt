-- P1: the whole output of the trace program on the bytes of samples/p1.events, computed from the definitions.
use Prim.Native.Nat.{ℕ}
use mathlib.Core.List.{List, [], ◌∷◌}
use lib.Dec.{T}
use Rattle.output.specs.Decimal.{decimal, digits}
use Rattle.rules.proofs.Cases.{same}
use Rattle.rules.specs.Access.{joined, logged, note_read, read, stored, word_after, write, wrote}
use Rattle.rules.specs.Acknowledge.{data_ack, dropped, kept, kept_entry, landed, log_ack, unlocked}
use Rattle.rules.specs.Begin.{begin, opened}
use Rattle.rules.specs.Bytes.{bytes_of, num_of, words_bytes, words_of}
use Rattle.rules.specs.Commit.{after_commit, commit, commits, done_region, earlier, earliest_from, freed, settle, settled}
use Rattle.rules.specs.Contradiction.{any_broken, any_clash, contradicts, in_order, reaches, reaches_in}
use Rattle.rules.specs.End.{closed, end_region, outside}
use Rattle.rules.specs.Flight.{flown}
use Rattle.rules.specs.Image.{encode, entry_record, head_record, image, line_record, region_record, save, saved, saved_entry, saved_log, saved_region, saved_regions, saved_thread}
use Rattle.rules.specs.Kinds.{kind_at}
use Rattle.rules.specs.Lists.{above_from, count, flat, place, rising_from}
use Rattle.rules.specs.Reader.{end_turn, fields_turn, head_turn, line_turn, listed_at, listed_turn, logged_at, logged_turn, read_image, read_by, turn_by}
use Rattle.rules.specs.Record.{event_of, read_record, records_from, records_of}
use Rattle.rules.specs.Recovery.{restore, restore_by}
use Rattle.rules.specs.Refusal.{refusal, tests_of}
use Rattle.rules.specs.Run.{wrote_into}
use Rattle.rules.specs.Slots.{carried, flown_slots, slot_from, written}
use Rattle.rules.specs.Step.{apply, fence, settled_board, setup, step, step_by, step_event}
use Rattle.rules.specs.Tables.{Zero, fresh, lent_from, lent_line, owner_of, start_lines}
use Rattle.rules.specs.Walk.{entries_from, entries_of, next_place, walk, walk_entries, walk_from, without}
use Rattle.wording.specs.Text.{answer_text, cut_text, finish, flat_to, image_buffer, line_text, memory_text, number_text, recovered_text, word_text}
use Rattle.tracing.specs.Text.{behind_text, event_text, trace_text}

pub file : List ℕ
file =
    0 ∷ 2 ∷ 2 ∷ 0 ∷ 0 ∷ 0 ∷ 0 ∷ 0 ∷ 0 ∷ 0 ∷ 0 ∷ 0 ∷ 0 ∷ 0 ∷ 1 ∷ 0 ∷ 4 ∷ 0 ∷ 0 ∷ 0 ∷ 7 ∷ 0 ∷ 0 ∷ 0 ∷ 0 ∷ 0 ∷ 0 ∷ 0 ∷ 1 ∷ 1 ∷ 3 ∷ 1 ∷ 0 ∷ 0
    ∷ 5 ∷ 0 ∷ 2 ∷ 0 ∷ 4 ∷ 1 ∷ 0 ∷ 0 ∷ 9 ∷ 0 ∷ 0 ∷ 0 ∷ 0 ∷ 0 ∷ 0 ∷ 0 ∷ 2 ∷ 1 ∷ 6 ∷ 0 ∷ 8 ∷ []

-- "Whole output"
pub output : List ℕ
output =
    48 ∷ 32 ∷ 48 ∷ 32 ∷ 48 ∷ 10 ∷ 49 ∷ 32 ∷ 48 ∷ 32 ∷ 48 ∷ 10 ∷ 52 ∷ 32 ∷ 48 ∷ 32 ∷ 48 ∷ 10 ∷ 49 ∷ 32 ∷ 48 ∷ 32 ∷ 48 ∷ 10
    ∷ 51 ∷ 32 ∷ 49 ∷ 55 ∷ 32 ∷ 48 ∷ 10 ∷ 53 ∷ 32 ∷ 48 ∷ 32 ∷ 48 ∷ 10 ∷ 50 ∷ 32 ∷ 48 ∷ 32 ∷ 48 ∷ 10 ∷ 52 ∷ 32 ∷ 48 ∷ 32 ∷ 48
    ∷ 10 ∷ 50 ∷ 32 ∷ 48 ∷ 32 ∷ 48 ∷ 10 ∷ 54 ∷ 32 ∷ 48 ∷ 32 ∷ 49 ∷ 10 ∷ 56 ∷ 32 ∷ 48 ∷ 32 ∷ 49 ∷ 10 ∷ 77 ∷ 32 ∷ 48 ∷ 32 ∷ 48
    ∷ 32 ∷ 55 ∷ 10 ∷ []

pub prints : T (same (trace_text (fresh Zero) (records_of file)) output)
unfolding file output same joined read note_read logged wrote stored write dropped kept_entry kept unlocked log_ack landed data_ack opened begin bytes_of num_of words_bytes words_of done_region commits earlier earliest_from after_commit freed commit settle settled in_order any_broken reaches_in reaches any_clash contradicts outside closed end_region flown saved_region saved_regions saved_entry saved_thread saved_log saved head_record line_record region_record entry_record encode image count place flat above_from rising_from head_turn line_turn listed_at listed_turn logged_at logged_turn end_turn fields_turn turn_by read_by read_image event_of read_record restore_by restore tests_of refusal slot_from written flown_slots carried settled_board setup fence apply step_by step_event step lent_line lent_from start_lines fresh owner_of next_place without walk_from walk entries_of entries_from walk_entries save wrote_into records_from digits decimal number_text answer_text word_text flat_to line_text memory_text finish recovered_text image_buffer cut_text behind_text event_text trace_text kind_at word_after
prints = tt
