-- The call that runs an event file: a buffer that is too short, and one that holds the answers.
use Rattle.std.proofs.Common.{◌∙◌, ◌≡◌, ℕ, ◌*◌, ◌/◌, ◌<◌, ◌≤◌, List, length, ap, arith}
use Rattle.std.proofs.lemmas.List.Edits.{sets}
use Rattle.files.proofs.Runs.{answers_long, bytes_long}
use Rattle.lines.proofs.Paste.{sets_paste}
use Rattle.rules.specs.Record.{records_of}
use Rattle.rules.specs.Run.{Wrote, answers_bytes, events_call, run_file, wrote_into}
use Rattle.rules.specs.Tables.{Lent, fresh}
use borrow.Author.Tests.{le-leb, lt-leb}

module _ (file memory d : List ℕ) (n : ℕ) (e : n ≡ length (records_of file)) where
  -- one answer for each record
  count : length (run_file (Lent memory) file).answers ≡ length (records_of file)
  count = answers_long (fresh (Lent memory)) (records_of file)

  long : length (answers_bytes (run_file (Lent memory) file).answers) ≡ 9 * length (records_of file)
  long = bytes_long (run_file (Lent memory) file).answers ∙ ap (λ n. 9 * n) count

  pub call_refused : length d / 9 < n → ◌≡◌ {A = Wrote} (record { answer = record { refusal = 6; value = 0 }; buffer = d }) (events_call file memory d)
  unfolding events_call wrote_into
  call_refused h = rw (lt-leb (length (answers_bytes (run_file (Lent memory) file).answers)) (length d) (omega (arith, long, e)))

  pub call_accepted : n ≤ length d / 9
      → ◌≡◌ {A = Wrote} (record { answer = record { refusal = 0; value = n }; buffer = sets d 0 (answers_bytes (run_file (Lent memory) file).answers) }) (events_call file memory d)
  unfolding events_call wrote_into
  call_accepted h =
      rw (le-leb (length (answers_bytes (run_file (Lent memory) file).answers)) (length d) (omega (arith, long, e)), sets_paste d 0 (answers_bytes (run_file (Lent memory) file).answers) (omega (arith, long, e)), count, e)
