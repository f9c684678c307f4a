use Rattle.std.proofs.Common.{◌≡◌, [], take, arith, refl, rules, sym, ◌∙◌}
use mathlib.Core.Bool.{false≢true}
use Rattle.std.proofs.KnownBytes.{Consumes-nil}
use Rattle.pieces.proofs.Flow.{on_ok, streamed_none}
use Rattle.printing.proofs.Lengths.{numbers_short}
use Rattle.printing.specs.Text.{number_text}
use Rattle.rules.specs.Lists.{flat}
use Rattle.totext.proofs.Chain.{text_out}
use Rattle.totext.proofs.NumbersStage.turn.Goals as goal

pub returns-in_default : goal.returns-in_default
returns-in_default g c = record { came = []; sent = []; turn = λ e. absurd (false≢true e); streamed = streamed_none _ _ _ }

pub returns-then-self : goal.returns-then-self
returns-then-self g c =
    let f = c.fill-self in
    let p = c.put_numbers in
    let s = c.args.self.now.0 in
    let a = take s.left.held s.file in
    let q = c.in-Some.ensures.lookup in
    let h : c.in-Some.held.now ≡ a = search rules in
    let out : take p.new.out.cursor.at p.new.out.out.now ≡ flat number_text a =
    text_out s.text p.new.out.out.now (flat number_text a) _ p.new.out.cursor c.new-writer.ensures.empty (rw (← h) p.ensures.1)
    (rw (← h) (omega (arith, numbers_short c.in-Some.held.now, c.in-Some.ensures.lookup))) in
    record {
      came = take f.result f.new.buf;
      sent = flat number_text a;
      turn = λ e. (a, (record { refilled = f.ensures.filled.refilled; comes = refl; goes = refl }, refl));
      streamed =
          record {
            reads = rw (← c.flush.ensures.kept.0) f.ensures.comes;
            writes = λ e. rw (f.ensures.kept.0, ← out) (on_ok c.flush.result c.flush.ensures.all (sym c.is_ok-self.ensures.value ∙ e));
            front = rw (f.ensures.kept.0, ← out) c.flush.ensures.front;
          };
    }

pub returns-else-self : goal.returns-else-self
returns-else-self g c =
    let s = c.args.self.now.0 in
    let p = c.put_numbers in
    record {
      came = [];
      sent = take p.new.out.cursor.at p.new.out.out.now;
      turn = λ e. absurd (false≢true (sym c.if-self.false ∙ e));
      streamed =
          record {
            reads = rw c.flush.ensures.kept.0 (Consumes-nil _);
            writes = λ e. absurd (false≢true (sym c.if-self.false ∙ e));
            front = c.flush.ensures.front;
          };
    }
