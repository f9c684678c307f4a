-- What a piece of a file leaves, and what the whole run does.
use Rattle.std.specs.Prelude.{◌≤◌, ℕ, ◌≡◌, Bool, ◌&&◌, false, true, List, ◌++◌, Option, leb, ltb, drop, get_or, length, take}
use Rattle.events.specs.Whole.{record_length, whole_length}
use Rattle.pieces.specs.Chain.{Chained}
use Rattle.pieces.specs.Shift.{Refilled}
use Rattle.pieces.specs.Streams.{Streamed}
use Rattle.printing.specs.Text.{line_text, number_text, text_of, whole_text}
use Rattle.rules.specs.Kinds.{bytes_word, is_kind, longest_record}
use Rattle.rules.specs.Lists.{flat}
use Rattle.totext.specs.declared.Left.{Left}
use Rattle.undo.proofs.Laws.{and_true}

-- a whole record may still come: more was read than was held, and what is left of it begins with a kind, or is empty
unfoldable pub may_come : Bool → List ℕ → Bool
may_come grew rest = grew && is_kind (get_or rest 0 0)

-- from a buffer d, of which the first `have` bytes are held, to d': a piece that begins with those is passed up to the end of its whole records.
-- What is left of it is at the front. Whether its lines went out is the system's choice
pub record Pieced (d d' : List ℕ) (have : ℕ) (r : Left) : Type 0 where
  pub piece : List ℕ
  pub begins : take have piece ≡ take have d
  pub left : take r.held d' ≡ drop (whole_length piece) piece
  pub more : r.more ≡ may_come (ltb have (length piece)) (drop (whole_length piece) piece)
  pub ends : r.last ≡ leb (length piece) have

-- a piece follows
unfoldable pub goes_on : Left → Bool
goes_on s = s.sent && s.more

-- only where all lines so far went out
pub sent_all : (s : Left) → goes_on s ≡ true → s.sent ≡ true
unfolding goes_on
sent_all s e = (and_true s.sent s.more e).0

-- what stands between two pieces: the buffer of the file, and what is left
pub record Between : Type 0 where
  pub buffer : List ℕ
  pub left : Left

abbrev pub between : List ℕ → Left → Between
between d s = record { buffer = d; left = s }

abbrev pub follows : Between → Bool
follows a = goes_on a.left

-- a piece: the bytes that came with it, and the text of its whole records
pub record Turned (a b : Between) (new out : List ℕ) : Type 0 where
  pub pieced : Pieced a.buffer b.buffer a.left.held b.left
  pub comes : new ≡ drop a.left.held pieced.piece
  pub goes : out ≡ whole_text pieced.piece

abbrev pub start : Left
start = record { held = 0; more = true; sent = true; last = false }

-- all pieces. Whatever comes behind, f: the text of the file is the one that was handed over, and then that of what is still held, which begins with no whole
-- record. Where that is as long as the longest record, no record can come of it: its kind is unknown
pub record Ran (d d' : List ℕ) (r : Left) : Type 0 where
  pub run : Chained follows Turned (between d start) (between d' r)
  pub right : (f : List ℕ) → text_of (run.came ++ f) ≡ run.sent ++ text_of (take r.held d' ++ f)
  pub rests : record_length (take r.held d') ≡ 0
  pub unknown : longest_record ≤ length (take r.held d') → is_kind (get_or (take r.held d') 0 0) ≡ false

-- the same from a reader to a writer: what came was read, and what was handed over went out
pub record RanOver (i i' o o' : Option (List ℕ)) (d d' : List ℕ) (r : Left) : Type 0 where
  pub ran : Ran d d' r
  pub streamed : Streamed i i' o o' ran.run.came ran.run.sent r.sent

-- what is left of a file: a buffer of which the first bytes count
pub record Rest : Type 0 where
  pub buffer : List ℕ
  pub count : ℕ

abbrev pub rest : List ℕ → ℕ → Rest
rest d n = record { buffer = d; count = n }

abbrev pub is_left : Rest → Bool
is_left a = ltb 0 a.count

-- a part of it: the bytes that count are handed over to be written as numbers, and those that are read then count
pub record Parted (a b : Rest) (new out : List ℕ) : Type 0 where
  pub refilled : Refilled a.buffer b.buffer 0 b.count
  pub comes : new ≡ take b.count b.buffer
  pub goes : out ≡ take a.count a.buffer

-- the same, handed over as numbers
abbrev pub Numbered : Rest → Rest → List ℕ → List ℕ → Type 0
Numbered a b new out = (bytes : List ℕ) × (Parted a b new bytes × (out ≡ flat number_text bytes))

-- all parts: until nothing more is read. The bytes that were there and those that came are the ones that were handed over, and then those that still count
pub record Rested (d d' : List ℕ) (held : ℕ) : Type 0 where
  pub left : ℕ
  pub run : Chained is_left Parted (rest d held) (rest d' left)
  pub right : take held d ++ run.came ≡ run.sent ++ take left d'

-- the same from a reader to a writer: what came was read, and the bytes that were handed over went out as numbers in a line of bytes
pub record RestedOver (i i' o o' : Option (List ℕ)) (d d' : List ℕ) (held : ℕ) : Type 0 where
  pub rested : Rested d d' held
  pub streamed : Streamed i i' o o' rested.run.came (line_text bytes_word rested.run.sent) true
