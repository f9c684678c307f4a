use Rattle.std.proofs.Common.{drop, take, refl, sym, ◌∙◌, length-take-le}
use Rattle.pieces.proofs.Flow.{on_ok}
use Rattle.pieces.proofs.Move.{refilled_front, shifted_front}
use Rattle.trace.proofs.Over.{sent_front, sent_text}
use Rattle.trace.specs.Results.{between, piece_text}
use Rattle.trace.proofs.RunStage.turn.Goals as goal

pub returns : goal.returns
returns g c =
    let s = c.args.self.now in
    let f = c.fill-n in
    let t = c.trace_piece-traced in
    let w = c.flush in
    let h = c.shift.ensures in
    let d = f.new.buf in
    let n = f.result in
    let q = f.ensures.filled in
    let counts = q.refilled.counts in
    let l = length-take-le n d counts in
    record {
      came = drop s.state.held (take n d);
      sent = piece_text (between s.board s.piece s.text s.state) (take n d);
      turn =
          record {
            turned =
                record {
                  piece = take n d;
                  begins = refilled_front s.piece d s.state.held n q.refilled f.auto.buf;
                  still = λ e. rw l (q.none e);
                  ends = rw l;
                  traced = t.result;
                  ran = rw l t.ensures;
                  left = rw (h.1, h.0) (shifted_front d t.result.passed n counts);
                  told = rw l;
                };
            comes = refl;
            goes = refl;
          };
      streamed =
          record {
            reads = rw w.ensures.kept.0 f.ensures.comes;
            writes = λ e.
                let sent = sym c.is_ok-sent.ensures.value ∙ e in
                rw (l, ← f.ensures.kept.0) (sent_text _ _ s.text t.new.dst _ t.result.at t.ensures.written t.auto.dst (on_ok w.result w.ensures.fits sent) (on_ok w.result w.ensures.all sent));
            front = rw (l, ← f.ensures.kept.0) (sent_front _ _ s.text t.new.dst _ t.result.at t.ensures.written w.ensures.front);
          };
    }
