-- What a piece of a text leaves, and what the whole run does.
use Rattle.std.specs.Prelude.{◌≡◌, ℕ, ◌+◌, ◌%◌, ◌^◌, Bool, true, false, cond, not, ◌&&◌, ◌||◌, List, [], ◌∷◌, ◌++◌, Option, length, take, drop, nat_le, nat_lt}
use Rattle.output.specs.Decimal.{decimal}
use Rattle.parsing.specs.Read.{bytes_of_text, good_bytes, last_line}
use Rattle.pieces.specs.Chain.{Chained}
use Rattle.pieces.specs.Streams.{Streamed}
use Rattle.tobytes.specs.declared.Left.{Left}
use Rattle.undo.proofs.Laws.{and_true}

-- where the lines of a piece end that are read: behind the last whole line; of the last piece all
unfoldable pub line_end : Bool → List ℕ → ℕ
line_end last piece = cond last (length piece) (last_line piece)

-- the lines that are read of a piece which began with `have` bytes: it is the last one if nothing more came
abbrev pub lines_in : ℕ → List ℕ → List ℕ
lines_in have piece = take (line_end (nat_le (length piece) have) piece) piece

-- `before` lines, and n more
abbrev pub counted : ℕ → ℕ → ℕ
counted before n = (before + n) % 2 ^ 64

-- from a buffer d, of which the first `have` bytes are held and `before` lines are read, to d': the lines of a piece that begins with those bytes are read.
-- What is left of it is at the front
pub record Pieced (d d' : List ℕ) (have before : ℕ) (r : Left) : Type 0 where
  pub piece : List ℕ
  pub begins : take have piece ≡ take have d
  pub left : take r.held d' ≡ drop (line_end (nat_le (length piece) have) piece) piece
  pub reads : r.read ≡ counted before (bytes_of_text (lines_in have piece)).lines
  pub form : r.form ≡ (bytes_of_text (lines_in have piece)).ok
  pub ends : r.last ≡ nat_le (length piece) have

-- a piece follows: more may come, all lines were in the form and their bytes went out, and the buffer has room
unfoldable pub goes_on : Left → ℕ → Bool
goes_on s room = s.sent && (s.form && (not s.last && nat_lt s.held room))

-- only where the bytes of all lines so far went out
pub sent_all : (s : Left) (room : ℕ) → goes_on s room ≡ true → s.sent ≡ true
unfolding goes_on
sent_all s room e = (and_true s.sent (s.form && (not s.last && nat_lt s.held room)) e).0

-- a line is not in the form: one that was read, or one that the buffer can't hold
unfoldable pub is_bad : Left → ℕ → Bool
is_bad s room = not s.form || (s.sent && (not s.last && nat_le room s.held))

-- what stands between two pieces: the buffer of the text, and what is left
pub record Between : Type 0 where
  pub buffer : List ℕ
  pub left : Left

abbrev pub between : List ℕ → Left → Between
between d s = record { buffer = d; left = s }

abbrev pub follows : Between → Bool
follows a = goes_on a.left (length a.buffer)

-- a piece: the text that came with it, and the bytes of its lines
pub record Turned (a b : Between) (new out : List ℕ) : Type 0 where
  pub pieced : Pieced a.buffer b.buffer a.left.held a.left.read b.left
  pub comes : new ≡ drop a.left.held pieced.piece
  pub goes : out ≡ good_bytes (lines_in a.left.held pieced.piece)

abbrev pub start : Left
start = record { held = 0; read = 0; form = true; sent = true; last = false }

-- all pieces. Whatever comes behind, f, and nothing where the input has ended: the bytes that were handed over are those of the text's lines in the form, and
-- if all were, those of what is still held follow
pub record Ran (d d' : List ℕ) (r : Left) : Type 0 where
  pub run : Chained follows Turned (between d start) (between d' r)
  pub right : (f : List ℕ) → (r.last ≡ true → f ≡ []) → good_bytes (run.came ++ f) ≡ run.sent ++ cond r.form (good_bytes (take r.held d' ++ f)) []

-- the same from a reader to a writer: what came was read, and what was handed over went out
pub record RanOver (i i' o o' : Option (List ℕ)) (d d' : List ℕ) (r : Left) : Type 0 where
  pub ran : Ran d d' r
  pub streamed : Streamed i i' o o' ran.run.came ran.run.sent r.sent

-- "line N is not in the form"
abbrev pub complaint_start : List ℕ
complaint_start = 108 ∷ 105 ∷ 110 ∷ 101 ∷ 32 ∷ []

abbrev pub complaint_end : List ℕ
complaint_end = 32 ∷ 105 ∷ 115 ∷ 32 ∷ 110 ∷ 111 ∷ 116 ∷ 32 ∷ 105 ∷ 110 ∷ 32 ∷ 116 ∷ 104 ∷ 101 ∷ 32 ∷ 102 ∷ 111 ∷ 114 ∷ 109 ∷ 10 ∷ []

unfoldable pub complaint : ℕ → List ℕ
complaint n = complaint_start ++ (decimal n ++ complaint_end)
