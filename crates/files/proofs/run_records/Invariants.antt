use Rattle.std.proofs.Common.{◌≡◌, ◌*◌, ◌+◌, ◌≤◌, length}
use Rattle.std.proofs.lemmas.List.Edits.{sets}
use Rattle.rules.specs.Record.{records_of}
use Rattle.rules.specs.Run.{answers_bytes, run}
use Rattle.files.proofs.run_records.Given as goal

abbrev pub invariant-loop-record : goal.invariant-loop-record
invariant-loop-record l =
    let left = records_of l.record-iterator.0.now in
    let all = records_of l.file in record {
      board : (run l.board left).board ≡ (run l.initial.board all).board;
      room : 9 * length all ≤ length l.initial.answers → l.at + 9 * length left ≤ length l.initial.answers;
      answers : 9 * length all ≤ length l.initial.answers
          → sets l.answers l.at (answers_bytes (run l.board left).answers) ≡ sets l.initial.answers 0 (answers_bytes (run l.initial.board all).answers);
    }
