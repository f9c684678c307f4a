-- Request 9, readings shorter than a word: which records are writes, which writes are refused for their mask, and what each byte of memory is after them.
use Rattle.std.specs.Prelude.{◌%◌, ◌<◌, suc, zero, ℕ, ◌≡◌, Bool, ◌&&◌, cond, false, not, true, List, [], ◌++◌, ◌∷◌, eqb, leb, length, set, Err, Ok}
use Rattle.laws.specs.Laws.{Always}
use Rattle.lines.specs.Stores.{is_stored, line_byte}
use Rattle.rules.specs.Access.{stored_in}
use Rattle.rules.specs.Bytes.{byte_of, num_of}
use Rattle.rules.specs.Claim.{board_after}
use Rattle.rules.specs.History.{Account, accepted_in, committed, ends_in, expected, noted, region_in}
use Rattle.rules.specs.Lists.{all}
use Rattle.rules.specs.Measures.{most_lines, whole_word}
use Rattle.rules.specs.Record.{read_record}
use Rattle.rules.specs.Refusal.{refusal}
use Rattle.rules.specs.Step.{Did, apply, step}
use Rattle.rules.specs.Tables.{Memory, fresh, line_of, start_lines}
use Rattle.rules.specs.declared.Board.{Board}
use Rattle.rules.specs.declared.Event.{Event}
use Rattle.rules.specs.declared.Event.TheVariants.{Begin, Cut, DataAck, End, Fence, LogAck, Read, Setup, Write}
use Rattle.rules.specs.Record.{Reading}
use Rattle.rules.specs.declared.Tables.{Tables}
use Rattle.undo.specs.Table.{is_in}

-- ---- "Kind 10 is a write with thread, line, word, a mask byte and 8 value bytes .. Kind 4 becomes the same with all bits set"

pub record WritesRead : Type 0 where
  pub masked : (t l w mask : ℕ) (vs more : List ℕ) → length vs ≡ 8 → read_record (10 ∷ t ∷ l ∷ w ∷ mask ∷ vs ++ more) ≡ Ok (Write t l w mask (num_of vs))
  pub whole : (t l w : ℕ) (vs more : List ℕ) → length vs ≡ 8 → read_record (4 ∷ t ∷ l ∷ w ∷ vs ++ more) ≡ Ok (Write t l w 255 (num_of vs))
  -- kind 9, and every kind above 10, is unknown
  pub unknown : (k : ℕ) (body : List ℕ) → (not (eqb k 9) && leb k 10) ≡ false → read_record (k ∷ body) ≡ Err 2

-- ---- "Checks: 27, mask 0, after 5"

-- the numbers of the tests that come before it
abbrev pub before_mask : List ℕ
before_mask = 6 ∷ 3 ∷ 4 ∷ 5 ∷ []

-- the refusal of a write with a mask, where one of the whole word is refused with c
abbrev pub or_mask : ℕ → ℕ → ℕ
or_mask mask c = cond (eqb mask 0 && not (is_in c before_mask)) 27 c

-- in all else a masked write is a write: two that differ in mask and value alone leave the same tables, old lines and medium
pub record SameButBytes (a b : Did) : Type 0 where
  pub tables : a.board.tables ≡ b.board.tables
  pub old : a.board.log_lines ≡ b.board.log_lines
  pub med : a.board.med ≡ b.board.med
  pub value : a.value ≡ b.value

-- on any tables and any board
pub record MaskTested : Type 0 where
  pub refuses : (ts : Tables) (t l w mask v : ℕ) → refusal ts (Write t l w mask v) ≡ or_mask mask (refusal ts (Write t l w whole_word v))
  pub changes : (b : Board) (t l w mask v u : ℕ) → SameButBytes (apply b (Write t l w mask v)) (apply b (Write t l w whole_word u))

-- ---- "byte i is stored where bit i of the mask (bit 0 the lowest) is set, the rest of the word stays": the bytes of memory, by the list of events alone

-- an accepted write
pub record Written : Type 0 where
  pub region : ℕ
  pub line : ℕ
  pub word : ℕ
  pub mask : ℕ
  pub value : ℕ

-- the writes with that of an accepted event, where es were accepted before it
abbrev pub written_of : Event → List Account → List Written → List Written
written_of (Setup n l s) es ws = ws
written_of (Begin t) es ws = ws
written_of (End t) es ws = ws
written_of (Read t l w) es ws = ws
written_of (Write t l w mask v) es ws = record { region = region_in t es; line = l; word = w; mask = mask; value = v } ∷ ws
written_of (LogAck l) es ws = ws
written_of (DataAck l) es ws = ws
written_of (Fence t) es ws = ws
written_of Cut es ws = ws

abbrev pub written_by : ℕ → Reading → List Account → List Written → List Written
written_by zero (Ok e) es ws = written_of e es ws
written_by zero (Err n) es ws = ws
written_by (suc c) x es ws = ws

-- the accepted writes of a list of records, newest first, before those already noted
unfoldable pub written_from : Board → List (List ℕ) → List Account → List Written → List Written
written_from b [] es ws = ws
written_from b (r ∷ rs) es ws =
    written_from (step b r).board rs (noted (step b r).answer.refusal (read_record r) es) (written_by (step b r).answer.refusal (read_record r) es ws)

abbrev pub written_in : Memory → List (List ℕ) → List Written
written_in m rs = written_from (fresh m) rs [] []

-- the write stores byte j of line x
abbrev pub has_byte : ℕ → ℕ → Written → Bool
has_byte x j w = eqb w.line x && is_stored w.word w.mask j

-- byte j of line x after the writes whose region passes a test: that of the last one that stores it, and b if there is none
unfoldable pub byte_by : (ℕ → Bool) → ℕ → ℕ → List Written → ℕ → ℕ
byte_by p x j [] b = b
byte_by p x j (w ∷ ws) b = cond (p w.region && has_byte x j w) (byte_of (j % 8) w.value) (byte_by p x j ws b)

-- and after the writes of those ended regions that pass a test, "region by region in the order they ended"
unfoldable pub byte_ended : (ℕ → Bool) → ℕ → ℕ → List Written → List ℕ → ℕ → ℕ
byte_ended done x j ws [] b = b
byte_ended done x j ws (k ∷ ks) b = cond (done k) (byte_by (λ r. eqb r k) x j ws (byte_ended done x j ws ks b)) (byte_ended done x j ws ks b)

abbrev pub start_byte : Memory → ℕ → ℕ → ℕ
start_byte m x j = line_byte j (line_of x (start_lines m))

pub record BytesStored (m : Memory) (rs : List (List ℕ)) : Type 0 where
  -- every accepted write has a bit in its mask
  pub masked : all (λ w. not (eqb w.mask 0)) (written_in m rs) ≡ true
  -- current memory, byte by byte
  pub current : (x j : ℕ) → x < most_lines → j < 64 → line_byte j (line_of x (board_after m rs).cur) ≡ byte_by (λ k. true) x j (written_in m rs) (start_byte m x j)
  -- "The writes that recovery applies are then bytes"
  pub recovered : (x j : ℕ) → x < most_lines → j < 64
      → line_byte j (line_of x (expected m rs)) ≡ byte_ended (committed m rs) x j (written_in m rs) (ends_in (accepted_in m rs)) (start_byte m x j)

abbrev pub StoresBytes : Type 0
StoresBytes = Always BytesStored

-- with all bits set a word is stored as document 01 has it
abbrev pub WholeWord : Type 0
WholeWord = (w v : ℕ) (x : List ℕ) → v < 18446744073709551616 → stored_in w whole_word v x ≡ set x w v
