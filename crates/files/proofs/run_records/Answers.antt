use Rattle.std.proofs.Common.{◌∙◌, ◌≡◌, ◌+◌, ap, length, arith}
use Rattle.files.proofs.Runs.{turn_board, turn_bytes}
use Rattle.lines.proofs.Room.{put_room}
use Rattle.files.proofs.run_records.Goals as goal

pub loop-record-preserved : goal.loop-record-preserved
loop-record-preserved c =
    let l = c.loop-record in
    let more = c.in-Some.ensures.steps in record {
      board = turn_board l.board _ _ _ _ more c.event-answer.ensures ∙ l.invariant.board;
      room = λ h. omega (arith, ap length more, l.invariant.room h);
      answers = λ h.
          let at : c.saturating_add-at.result ≡ l.at + 9 = omega (arith, ap length more, l.invariant.room h) in
          rw (at, c.put_answer.ensures, put_room 9 l.answers l.at _ (omega (arith, ap length more, l.invariant.room h)))
          (turn_bytes l.board _ _ _ _ more c.event-answer.ensures _ _ ∙ l.invariant.answers h);
    }
