-- The text that is handed over piece by piece is that of the file.
use Rattle.std.specs.Prelude.{Option}
use Prim.Native.Nat.{ℕ}
use mathlib.Core.Bool.{true}
use mathlib.Core.List.{List, [], ◌++◌, append_assoc}
use mathlib.Core.Path.{◌∙◌, ◌≡◌, refl}
use lib.Dec.{leb}
use lib.ListN.{drop, drop_of_length-le, length, take, take-append-drop}
use borrow.Author.Tests.{le-leb}
use Rattle.pieces.specs.Chain.{Chain, ChainedOver, stop, turn}
use Rattle.rules.specs.Record.{records_of}
use Rattle.rules.specs.declared.Board.{Board}
use Rattle.tracing.proofs.Pieces.{goes_on}
use Rattle.tracing.specs.Pieces.{due_in, fitting}
use Rattle.tracing.specs.Text.{trace_text}
use Rattle.trace.specs.Results.{Between, Printed, TracesOver, Turned, between, follows, start}
use Rattle.trace.specs.declared.State.{State}

-- where the input has ended nothing comes with a piece
no_more : (b c : Between) (t : Turned b c) (f : List ℕ) → (c.last ≡ true → f ≡ []) → b.last ≡ true → drop b.held t.piece ++ f ≡ []
no_more b c t f h e = rw (drop_of_length-le t.piece (t.still e), h (t.ends ∙ le-leb (length t.piece) b.held (t.still e)))

pub turns_right : {a : Between} {n : ℕ} {came sent : List ℕ} {c : Between} → Chain follows Printed a n came sent c → a.held ≡ 0 → (f : List ℕ) → (c.last ≡ true → f ≡ [])
    → trace_text a.board (records_of (came ++ f)) ≡ sent ++ trace_text c.board (records_of (take c.held c.buffer ++ f))
turns_right stop z f h = rw z
turns_right (turn {came = came} {new = new} {t = b} {r = c} r m q) z f h =
    let t = q.turned in
    let p = t.piece in
    let last = leb (length p) b.held in
    let k = fitting (length b.out) 0 b.board (due_in last p) in
    let ih = turns_right r z (new ++ f) (λ e. rw q.comes (no_more b c t f h e)) in
    let joined : take b.held b.buffer ++ (new ++ f) ≡ p ++ f = rw (q.comes, ← t.begins, ← append_assoc, take-append-drop) in
    rw (append_assoc came new f, ih, joined, goes_on last b.board p f k (λ e. h (t.ends ∙ e)), ← t.ran.stands, ← t.ran.leaves, ← t.left, q.goes, append_assoc)

-- ---- the whole run

pub traced : (d d' o o' : List ℕ) (b : Board) (r : State) (i i' w w' : Option (List ℕ)) → ChainedOver follows Printed (start d o) (between b d' o' r) i i' w w' r.sent
    → TracesOver i i' w w' d d' o o' r
traced d d' o o' b r i i' w w' c = record { traces = record { board = b; run = c.run; right = turns_right c.run.run refl }; streamed = c.streamed }
