-- "The trace program reads an event file on standard input and prints kind, refusal (0 for accepted), value per event": the text of records, by the lines of
-- crate wording.
use Rattle.std.specs.Prelude.{ℕ, cond, List, [], ◌++◌, ◌∷◌, eqb, get_or}
use Rattle.rules.specs.Step.{Stepped, step}
use Rattle.rules.specs.declared.Board.{Board}
use Rattle.wording.specs.Text.{answer_text, cut_text}

-- what stands behind the line of an answer: the recovered words if a cut is accepted
unfoldable pub behind_text : ℕ → Stepped → List ℕ
behind_text k s = cond (eqb k 8) (cond (eqb s.answer.refusal 0) (cut_text s.board) []) []

-- the text of an event of a kind by what it leaves
abbrev pub told_text : ℕ → Stepped → List ℕ
told_text k s = answer_text k s.answer ++ behind_text k s

-- the text of one record of a file, on a board
unfoldable pub event_text : Board → List ℕ → List ℕ
event_text b bs = told_text (get_or bs 0 0) (step b bs)

-- the text of a list of records
unfoldable pub trace_text : Board → List (List ℕ) → List ℕ
trace_text b [] = []
trace_text b (r ∷ rs) = event_text b r ++ trace_text (step b r).board rs

-- the longest text of a record: a line of 63 bytes, and behind a cut 65 for each of 2,048 words
abbrev pub longest_text : ℕ
longest_text = 133183
