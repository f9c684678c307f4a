use Rattle.std.proofs.Common.{◌+◌, ap, length, sym}
use borrow.Author.Tests.{leb-true}
use Rattle.rules.specs.Step.{Stepped}
use Rattle.tracing.proofs.Texts.{event_put}
use Rattle.tracing.specs.Text.{longest_text}
use Rattle.tracing.proofs.trace_event.Goals as goal

pub returns : goal.returns
returns c =
    let a = c.args in
    let room = sym c.if-not-has_room.ensures in
    record {
      room = room;
      stands = ap (λ (x : Stepped). x.board) c.event-answer.ensures;
      written =
          event_put a.board.now a.bytes.now _ _ _ _ _ c.kind_of-kind.result c.event-answer.ensures c.kind_of-kind.ensures
          (leb-true (a.at + longest_text) (length a.dst.now) room) c.put_text-text.ensures;
      passes = c.record_length.ensures;
    }
