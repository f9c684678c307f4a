-- A list of event calls, each on what the last one returned, and the run of an event file.
use Rattle.std.specs.Prelude.{ℕ, cond, List, [], ◌∷◌, eqb, leb, length}
use Rattle.rules.specs.Bytes.{bytes_of, paste}
use Rattle.rules.specs.Lists.{flat}
use Rattle.rules.specs.Record.{records_of, shares_at}
use Rattle.rules.specs.Step.{step, step_event}
use Rattle.rules.specs.Tables.{Lent, Memory, fresh}
use Rattle.rules.specs.declared.Board.{Board}
use Rattle.rules.specs.declared.Answer.{Answer}
use Rattle.rules.specs.declared.Event.TheVariants.{Setup}

pub record Ran : Type 0 where
  pub board : Board
  pub answers : List Answer

-- the calls of a list of records, of any content
unfoldable pub run : Board → List (List ℕ) → Ran
run b [] = record { board = b; answers = [] }
run b (r ∷ rs) = record { board = (run (step b r).board rs).board; answers = (step b r).answer ∷ (run (step b r).board rs).answers }

-- an event file over a starting memory
abbrev pub run_file : Memory → List ℕ → Ran
run_file m file = run (fresh m) (records_of file)

-- "nine bytes per answer (refusal, then value of 8)"
abbrev pub answer_bytes : Answer → List ℕ
answer_bytes a = a.refusal ∷ bytes_of 8 a.value

unfoldable pub answers_bytes : List Answer → List ℕ
answers_bytes as' = flat answer_bytes as'

-- ---- the call that runs an event file over lent memory: the answer, and the buffer after it

pub record Wrote : Type 0 where
  pub answer : Answer
  pub buffer : List ℕ

-- bytes of a list into a buffer, bytes behind them stay; 6 and nothing written if the buffer is too short
unfoldable pub wrote_into : List ℕ → ℕ → List ℕ → Wrote
wrote_into bs v d =
    cond (leb (length bs) (length d))
    (record { answer = record { refusal = 0; value = v }; buffer = paste d 0 bs })
    (record { answer = record { refusal = 6; value = 0 }; buffer = d })

-- "its value is the number of answers"; "a buffer too short for the answers gives 6 before any other check, with nothing written"
unfoldable pub events_call : List ℕ → List ℕ → List ℕ → Wrote
events_call file memory d =
    wrote_into (answers_bytes (run_file (Lent memory) file).answers) (length (run_file (Lent memory) file).answers) d

-- the call that sets up alone: the answer that setup gets over the lent memory, with the parties and reserves as the record has them; like a place not of
-- eight bytes, shares not of ten bytes give 6 before any other check
unfoldable pub start_call : ℕ → ℕ → List ℕ → List ℕ → Answer
start_call n l shares memory =
    cond (eqb (length shares) 10) (step_event (fresh (Lent memory)) (Setup n l (shares_at shares))).answer (record { refusal = 6; value = 0 })
