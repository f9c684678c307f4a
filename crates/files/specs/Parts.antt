-- How far the record at the front of a file reaches, and what a call leaves.
use Rattle.std.specs.Prelude.{suc, ℕ, cond, List, get_or, length}
use Rattle.rules.specs.Record.{body_length, is_whole, read_record}
use Rattle.rules.specs.Run.{Wrote}
use Rattle.rules.specs.declared.Answer.{Answer}

-- the bytes of the record at the front; one that ends its file takes the rest of it
unfoldable pub size_of : List ℕ → ℕ
size_of bs = cond (is_whole (read_record bs)) (suc (body_length (get_or bs 0 0))) (length bs)

-- ---- the contracts

-- the answer and the buffer that a call leaves
abbrev pub wrote : Answer → List ℕ → Wrote
wrote a bs = record { answer = a; buffer = bs }
