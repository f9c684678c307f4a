-- Bytes that go out or come in one behind the other.
use Rattle.std.proofs.Common.{◌≡◌, ℕ, ◌+◌, ◌-◌, ◌≤◌, Bool, true, List, [], ◌++◌, Option, length, take, drop, arith, refl, sym, subst, append_assoc, length-take-le, take-add, take-append-drop, take_all, take_at, drop_at}
use Rattle.std.proofs.lemmas.List.{take-append-le, take_rest}
use borrow.Rule.Slice.PartMut.{put_mid}
use Rattle.std.proofs.Math.Seq.{take-append-add}
use Rattle.std.specs.Io.KnownBytes.{Appends, Consumes, Keeps}
use Rattle.std.proofs.KnownBytes.{Appends-kept, Appends-nil, Appends-trans, Consumes-nil, Consumes-trans}
use mathlib.Core.Bool.{false≢true}
use Rattle.std.specs.Prelude.{Err, Ok, OnOk, Result, is_ok}
use Rattle.pieces.specs.Streams.{AppendsFront, Streamed}

-- what is written of bs: `done` before, `rest` not yet
pub record Sending (a b : Option (List ℕ)) (bs rest : List ℕ) : Type 0 where
  pub done : List ℕ
  pub split : bs ≡ done ++ rest
  pub appended : Appends a b done

-- one write more
pub more_sent : (a b c : Option (List ℕ)) (bs rest : List ℕ) (n : ℕ) → Sending a b bs rest → Appends b c (take n rest) → Sending a c bs (take (length rest - n) (drop n rest))
more_sent a b c bs rest n s p =
    record {
      done = s.done ++ take n rest;
      split = rw (take_rest rest n, append_assoc s.done (take n rest) (drop n rest), take-append-drop) s.split;
      appended = Appends-trans a b c s.done (take n rest) s.appended p;
    }

-- a part from the front went out
pub front_sent : (a b : Option (List ℕ)) (bs rest : List ℕ) → Sending a b bs rest → AppendsFront a b bs
front_sent a b bs rest s = (length s.done, subst (Appends a b) (sym (rw s.split (take_at s.done rest (length s.done) refl))) s.appended)

pub none_more : (a b c : Option (List ℕ)) (bs rest : List ℕ) → Sending a b bs rest → Keeps b c → Sending a c bs rest
none_more a b c bs rest s k = record { done = s.done; split = s.split; appended = Appends-kept a b c s.done s.appended k }

-- what is read behind the first bytes of a buffer
pub read_behind : (d new : List ℕ) (a k n : ℕ) → a ≤ length d → n ≤ length new → drop a (take (a + n) (put_mid a k d new)) ≡ take n new
read_behind d new a k n h l =
    let m = put_mid a k d new in
    let p = length-take-le a d h in
    rw (take-add a n m, take_at (take a d) _ a p, drop_at (take a d) (take n (drop a m)) a p, drop_at (take a d) _ a p) (take-append-le n new _ l)

-- where all before it went out, a part from the front of what is new is one of the whole
front_behind : (a b c : Option (List ℕ)) (sent new : List ℕ) → Appends a b sent → AppendsFront b c new → AppendsFront a c (sent ++ new)
front_behind a b c sent new p (k, q) = (length sent + k, subst (Appends a c) (sym (take-append-add sent new k)) (Appends-trans a b c sent (take k new) p q))

pub streamed_none : (i o : Option (List ℕ)) (all : Bool) → Streamed i i o o [] [] all
streamed_none i o all = record { reads = Consumes-nil i; writes = λ e. Appends-nil o; front = (0, Appends-nil o) }

-- a turn more, where all before it went out
pub streamed_more : (i i₁ i₂ o o₁ o₂ : Option (List ℕ)) (came sent new out : List ℕ) (before all : Bool) → Streamed i i₁ o o₁ came sent before → before ≡ true
    → Streamed i₁ i₂ o₁ o₂ new out all → Streamed i i₂ o o₂ (came ++ new) (sent ++ out) all
streamed_more i i₁ i₂ o o₁ o₂ came sent new out before all s e t =
    record {
      reads = Consumes-trans i i₁ i₂ came new s.reads t.reads;
      writes = λ a. Appends-trans o o₁ o₂ sent out (s.writes e) (t.writes a);
      front = front_behind o o₁ o₂ sent out (s.writes e) t.front;
    }

-- a turn of which all went out
pub streamed_all : (i i' o o' : Option (List ℕ)) (came sent : List ℕ) → Consumes i i' came → Appends o o' sent → Streamed i i' o o' came sent true
streamed_all i i' o o' came sent c a = record { reads = c; writes = λ e. a; front = (length sent, subst (Appends o o') (sym (take_all (length sent) sent (omega arith))) a) }

-- what holds of a value holds where a result is one
pub on_ok : {T E P : Type 0} (r : Result T E) → OnOk r P → is_ok r ≡ true → P
on_ok (Ok x) p e = p
on_ok (Err x) p e = absurd (false≢true e)
