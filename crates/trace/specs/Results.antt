-- What a turn of the program does, and what the whole run does.
use Rattle.std.specs.Prelude.{◌≤◌, ℕ, ◌≡◌, Bool, ◌&&◌, ◌||◌, false, not, true, List, [], ◌++◌, Option, leb, drop, length, take}
use Rattle.pieces.specs.Chain.{Chained}
use Rattle.pieces.specs.Streams.{Streamed}
use Rattle.rules.specs.Record.{records_of}
use Rattle.rules.specs.Tables.{Zero, fresh}
use Rattle.rules.specs.declared.Board.{Board}
use Rattle.trace.specs.declared.State.{State}
use Rattle.tracing.specs.Pieces.{Ran, due_in, fitting}
use Rattle.tracing.specs.Text.{trace_text}
use Rattle.tracing.specs.declared.TracedPiece.{TracedPiece}
use Rattle.undo.proofs.Laws.{and_true}

-- a piece follows: the text went out, and more may come or records found no room
unfoldable pub goes_on : Bool → Bool → Bool → Bool
goes_on sent last full = sent && (not last || full)

-- only where all text so far went out
pub went_out : (sent last full : Bool) → goes_on sent last full ≡ true → sent ≡ true
unfolding goes_on
went_out sent last full e = (and_true sent (not last || full) e).0

-- what stands between two pieces: the board, the buffer of the file with the bytes that are not yet run at its front, the buffer of the text, whether a piece
-- follows, and whether all text went out, which is the system's choice
pub record Between : Type 0 where
  pub board : Board
  pub buffer : List ℕ
  pub out : List ℕ
  pub held : ℕ
  pub last : Bool
  pub more : Bool
  pub sent : Bool

abbrev pub between : Board → List ℕ → List ℕ → State → Between
between b d o s =
    record { board = b; buffer = d; out = o; held = s.held; last = s.last; more = goes_on s.sent s.last s.full; sent = s.sent }

-- a piece that begins with the bytes that are held is run, the last one if nothing more was read: the input has ended, or the buffer was full. Its text is at
-- the front of the output, and what is left of it at the front of the buffer
pub record Turned (a b : Between) : Type 0 where
  pub piece : List ℕ
  pub begins : take a.held piece ≡ take a.held a.buffer
  pub still : a.last ≡ true → length piece ≤ a.held
  pub ends : b.last ≡ leb (length piece) a.held
  pub traced : TracedPiece
  pub ran : Ran (leb (length piece) a.held) a.board b.board piece a.out b.out 0 traced
  pub left : take b.held b.buffer ≡ drop traced.passed piece
  pub told : b.more ≡ goes_on b.sent (leb (length piece) a.held) traced.full

-- the text of the records that a piece of which `held` bytes were there before runs
abbrev pub piece_text : Between → List ℕ → List ℕ
piece_text a piece =
    trace_text a.board (take (fitting (length a.out) 0 a.board (due_in (leb (length piece) a.held) piece)) (due_in (leb (length piece) a.held) piece))

-- a turn: the bytes that came with its piece, and the text that was handed over to be printed
pub record Printed (a b : Between) (new out : List ℕ) : Type 0 where
  pub turned : Turned a b
  pub comes : new ≡ drop a.held turned.piece
  pub goes : out ≡ piece_text a turned.piece

abbrev pub follows : Between → Bool
follows a = a.more

-- "a program starts with zero memory"
abbrev pub start : List ℕ → List ℕ → Between
start d o = record { board = fresh Zero; buffer = d; out = o; held = 0; last = false; more = true; sent = true }

-- all of the input. Whatever comes behind, f, and nothing behind a last piece: the text of the file is the one that was handed over, and then that of what is
-- still held
pub record Traces (d d' o o' : List ℕ) (r : State) : Type 0 where
  pub board : Board
  pub run : Chained follows Printed (start d o) (between board d' o' r)
  pub right : (f : List ℕ) → (r.last ≡ true → f ≡ [])
      → trace_text (fresh Zero) (records_of (run.came ++ f)) ≡ run.sent ++ trace_text board (records_of (take r.held d' ++ f))

-- the same from a reader to a writer: what came was read, and what was handed over went out
pub record TracesOver (i i' o o' : Option (List ℕ)) (d d' t t' : List ℕ) (r : State) : Type 0 where
  pub traces : Traces d d' t t' r
  pub streamed : Streamed i i' o o' traces.run.came traces.run.sent r.sent
