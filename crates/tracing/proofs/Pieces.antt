-- In whatever pieces a file comes, the texts of its pieces make the text of the file.
use Prim.Native.Nat.{◌≤◌, suc, zero, ℕ}
use mathlib.Core.Path.{◌≡◌, refl}
use mathlib.Core.Bool.{false, true}
use mathlib.Core.List.{List, [], ◌++◌, ◌∷◌, append_assoc, append-nil}
use lib.ListN.{drop, length, take}
use native.Mathlib.Omega.{arith}
use lib.Seq.{drop-nil}
use Rattle.rules.specs.Record.{body_length, is_whole, read_record, records_from, records_of}
use Rattle.rules.specs.Run.{run}
use Rattle.rules.specs.Step.{step}
use Rattle.rules.specs.declared.Board.{Board}
use Rattle.events.proofs.Records.{kind_front, onto, read_front, records_split, stands, whole_pos, wholes}
use Rattle.events.specs.Whole.{whole_from, whole_length}
use Rattle.tracing.specs.Pieces.{GoesOn, due_in, left_of, rest_at}
use Rattle.tracing.specs.Text.{event_text, trace_text}
use Rattle.undo.proofs.Laws.{test}

no_records : (k : ℕ) → ◌≡◌ {A = List (List ℕ)} (drop k []) []
no_records k = drop-nil k

-- a whole record does the same whatever stands behind it
step_front : (b : Board) (r f : List ℕ) → is_whole (read_record r) ≡ true → step b (r ++ f) ≡ step b r
unfolding step
step_front b r f w = rw (read_front r f w)

event_front : (b : Board) (r f : List ℕ) → is_whole (read_record r) ≡ true → event_text b (r ++ f) ≡ event_text b r
unfolding event_text
event_front b r f w = rw (step_front b r f w, kind_front r f w)

-- ---- the text of some records, and of those behind them

pub trace_split : (b : Board) (rs : List (List ℕ)) (k : ℕ) → trace_text b rs ≡ trace_text b (take k rs) ++ trace_text (run b (take k rs)).board (drop k rs)
unfolding trace_text run
trace_split b rs zero = refl
trace_split b [] (suc k) = refl
trace_split b (r ∷ rs) (suc k) = rw (trace_split (step b r).board rs k, append_assoc)

front : (b : Board) (rs : List (List ℕ)) (f : List ℕ) (ss : List (List ℕ)) (k : ℕ) → trace_text b (onto f (wholes rs) ++ ss) ≡ trace_text b (take k (wholes rs)) ++ trace_text (run b (take k (wholes rs))).board (onto f (drop k (wholes rs)) ++ ss)
unfolding trace_text run
front b rs f ss zero = refl
front b [] f ss (suc k) = refl
front b (r ∷ rs) f ss (suc k) =
    test (is_whole (read_record r))
    (λ w. rw (w, event_front b r f w, step_front b r f w, front (step b r).board rs f ss k, append_assoc))
    (λ w. rw w (front b rs f ss (suc k)))

-- ---- what is left of a piece begins with the records that are left

last_rest : (j : ℕ) (bs : List ℕ) (k : ℕ) → records_of (rest_at [] (drop k (records_from j bs))) ≡ drop k (records_from j bs)
unfolding records_from
last_rest j [] k = rw (no_records k)
last_rest (suc j) (b ∷ bs) k = last_rest j bs k
last_rest zero (b ∷ bs) zero = refl
last_rest zero (b ∷ bs) (suc k) =
    test (is_whole (read_record (b ∷ bs)))
    (λ w. rw w (last_rest (body_length b) bs k))
    (λ w. rw (w, no_records k))

whole_rest : (j : ℕ) (bs f : List ℕ) (k : ℕ) → j ≤ length bs → records_of (rest_at (drop (whole_from j bs) bs) (drop k (wholes (records_from j bs))) ++ f) ≡ onto f (drop k (wholes (records_from j bs))) ++ records_of (drop (whole_from j bs) bs ++ f)
unfolding records_from whole_from whole_length
whole_rest j [] f k h = rw (no_records k)
whole_rest (suc j) (b ∷ bs) f k h = whole_rest j bs f k (omega arith)
whole_rest zero (b ∷ bs) f zero h =
    test (is_whole (read_record (b ∷ bs)))
    (λ w. let s = rw w at (records_split (b ∷ bs) f) in rw w s)
    (λ w. rw w)
whole_rest zero (b ∷ bs) f (suc k) h =
    test (is_whole (read_record (b ∷ bs)))
    (λ w. let s = stands (b ∷ bs) (whole_pos (b ∷ bs) w) in rw w (whole_rest (body_length b) bs f k (omega (arith, s.room_for))))
    (λ w. rw w)

pub goes_on : GoesOn
unfolding due_in left_of whole_length
goes_on true b piece f k h =
    rw (h refl, append-nil piece, append-nil (rest_at [] (drop k (records_of piece))), last_rest 0 piece k) (trace_split b (records_of piece) k)
goes_on false b piece f k h =
    rw (records_split piece f, whole_rest 0 piece f k (omega arith)) (front b (records_of piece) f (records_of (drop (whole_length piece) piece ++ f)) k)
