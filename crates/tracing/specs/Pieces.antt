-- An event file that comes in pieces: what is run of a piece, and what is left of it.
use Rattle.std.specs.Prelude.{◌+◌, ◌≤◌, suc, ℕ, ◌≡◌, Bool, cond, true, List, [], ◌++◌, ◌∷◌, leb, ltb, drop, length, take}
use Rattle.rules.specs.Record.{is_whole, read_record, records_of}
use Rattle.rules.specs.Run.{run}
use Rattle.rules.specs.Step.{step}
use Rattle.rules.specs.declared.Board.{Board}
use Rattle.events.specs.Whole.{whole_length}
use Rattle.tracing.specs.Results.{Put}
use Rattle.tracing.specs.Text.{event_text, longest_text, trace_text}
use Rattle.tracing.specs.declared.TracedPiece.{TracedPiece}
use Rattle.undo.specs.Table.{keep}

-- the records of a piece that are run: the whole ones, as more bytes may come behind them; of the last piece all
unfoldable pub due_in : Bool → List ℕ → List (List ℕ)
due_in last piece = cond last (records_of piece) (keep (λ r. is_whole (read_record r)) (records_of piece))

-- how many records find room, one behind the other, in n bytes from `at` on: a record finds it where the longest text would
unfoldable pub fitting : ℕ → ℕ → Board → List (List ℕ) → ℕ
fitting n at b [] = 0
fitting n at b (r ∷ rs) =
    cond (leb (at + longest_text) n) (suc (fitting n (at + length (event_text b r)) (step b r).board rs)) 0

-- the first of some records, with all that stands behind it; where there is none, the end
abbrev pub rest_at : List ℕ → List (List ℕ) → List ℕ
rest_at end [] = end
rest_at end (r ∷ rs) = r

-- what is left of a piece behind k of its records
unfoldable pub left_of : Bool → List ℕ → ℕ → List ℕ
left_of last piece k = rest_at (cond last [] (drop (whole_length piece) piece)) (drop k (due_in last piece))

-- a piece on board b leaves board b', and the text of the first k of its records, as many as find room, in the buffer from `at` on.
-- What is behind the passed bytes is left
pub record RanPiece (last : Bool) (b b' : Board) (piece d d' : List ℕ) (at k : ℕ) (r : TracedPiece) : Type 0 where
  pub stands : b' ≡ (run b (take k (due_in last piece))).board
  pub written : Put d d' at r.at (trace_text b (take k (due_in last piece)))
  pub inside : r.passed ≤ length piece
  pub leaves : drop r.passed piece ≡ left_of last piece k
  pub told : r.full ≡ ltb k (length (due_in last piece))

abbrev pub Ran : Bool → Board → Board → List ℕ → List ℕ → List ℕ → ℕ → TracedPiece → Type 0
Ran last b b' piece d d' at r = RanPiece last b b' piece d d' at (fitting (length d) at b (due_in last piece)) r

-- "reads an event file": whatever comes behind a piece, f, what is to be printed from it on is the text of those records, and then what is to be printed
-- from what is left on
abbrev pub GoesOn : Type 0
GoesOn =
    (last : Bool) (b : Board) (piece f : List ℕ) (k : ℕ) → (last ≡ true → f ≡ [])
    → trace_text b (records_of (piece ++ f))
    ≡ trace_text b (take k (due_in last piece)) ++ trace_text (run b (take k (due_in last piece))).board (records_of (left_of last piece k ++ f))
