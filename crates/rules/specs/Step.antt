-- A step: what an accepted event does and the value of its answer; a refusal changes nothing and has the value 0.
use Rattle.std.specs.Prelude.{suc, zero, ℕ, Bool, ◌&&◌, cond, not, true, List, eqb, get_or, length, Err, Ok}
use Rattle.rules.specs.Access.{note_read, read, stored_in, write}
use Rattle.rules.specs.Acknowledge.{data_ack, log_ack}
use Rattle.rules.specs.Begin.{begin}
use Rattle.rules.specs.Commit.{settled}
use Rattle.rules.specs.End.{end_region, shallower}
use Rattle.rules.specs.Lists.{count}
use Rattle.rules.specs.Record.{read_record}
use Rattle.rules.specs.Refusal.{depth_of, is_of_thread, refusal}
use Rattle.rules.specs.Tables.{current, is_held, is_key, line_of, with_cut, with_numbers, with_size, with_tables}
use Rattle.rules.specs.declared.Board.{Board}
use Rattle.rules.specs.declared.Answer.{Answer}
use Rattle.rules.specs.declared.Event.{Event}
use Rattle.rules.specs.declared.Event.TheVariants.{Begin, Cut, DataAck, End, Fence, LogAck, Read, Setup, Write}
use Rattle.rules.specs.Record.{Reading}
use Rattle.rules.specs.declared.Region.{Region}
use Rattle.rules.specs.declared.Shares.{Shares}
use Rattle.rules.specs.declared.Tables.{Tables}
use Rattle.undo.specs.Table.{any}

-- the board and the value of the answer
pub record Did : Type 0 where
  pub board : Board
  pub value : ℕ

abbrev pub did : ℕ → Board → Did
did v b = record { board = b; value = v }

-- "of every other event the number of regions committed in that step"
unfoldable pub settled_board : Board → Did
settled_board b = did (length (settled b.tables).keys) (with_tables (settled b.tables).tables b)

-- "0 setup": T and L stand, with request 1 the parties and reserves too
unfoldable pub setup : ℕ → ℕ → Shares → Tables → Tables
setup n l s ts = with_size (with_numbers n l s ts.size) ts

-- the key of the thread's open region; 0 at depth 0
abbrev pub open_region : ℕ → Tables → ℕ
open_region t ts = cond (eqb (depth_of t ts) 0) 0 (current t ts)

-- an uncommitted region of the thread other than k
abbrev pub is_other : ℕ → ℕ → Region → Bool
is_other t k r = is_of_thread t r && not (is_key k r)

-- "Fence gives 1 if the thread has no uncommitted region (also if it never began one), else 0"
-- request 3: "A fence inside an open region now gives 1 exactly when the thread has no uncommitted region other than the open one"
unfoldable pub fence : ℕ → Tables → ℕ
fence t ts = cond (any (is_other t (open_region t ts)) ts.regions) 0 1

-- what an accepted event does; after a cut nothing but an image can be had. A begin, a read and a write make no region done and commit none
unfoldable pub apply : Board → Event → Did
apply b (Setup n l s) = did 0 (with_tables (setup n l s b.tables) b)
apply b (Begin t) = did 0 (with_tables (begin t b.tables) b)
apply b (End t) = cond (eqb (depth_of t b.tables) 1) (settled_board (end_region t b)) (did 0 (with_tables (shallower t b.tables) b))
apply b (Read t l w) = did (get_or (line_of l b.cur) w 0) (with_tables (note_read t l (read (current t b.tables) l b.tables)) b)
apply b (Write t l w mask v) = did 0 (write t l (stored_in w mask v) b)
apply b (LogAck l) = settled_board (log_ack l b)
apply b (DataAck l) = settled_board (data_ack l b)
apply b (Fence t) = did (fence t b.tables) b
apply b Cut = did (count is_held b.tables.regions) (with_tables (with_cut true b.tables) b)

-- the board after a step, and the answer
pub record Stepped : Type 0 where
  pub board : Board
  pub answer : Answer

abbrev pub accept : Did → Stepped
accept d = record { board = d.board; answer = record { refusal = 0; value = d.value } }

abbrev pub refused : ℕ → Board → Stepped
refused n b = record { board = b; answer = record { refusal = n; value = 0 } }

-- an event, with the refusal that it meets
unfoldable pub step_by : ℕ → Board → Event → Stepped
step_by zero b e = accept (apply b e)
step_by (suc n) b e = refused (suc n) b

unfoldable pub step_event : Board → Event → Stepped
step_event b e = step_by (refusal b.tables e) b e

abbrev pub step_read : Board → Reading → Stepped
step_read b (Err n) = refused n b
step_read b (Ok e) = step_event b e

-- one event call: a record of any content
unfoldable pub step : Board → List ℕ → Stepped
step b bs = step_read b (read_record bs)
