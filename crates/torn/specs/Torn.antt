-- Request 10, half a line in the medium: "At a cut, any of the eight words of each data flight may have reached the medium, and so may any of the words of the line
-- a recovery step was restoring. Recovery must still end at the same memory as document 01 promises, for every such choice of words."
use Rattle.std.specs.Prelude.{◌-◌, suc, ℕ, ◌≡◌, ◌≢◌, Bool, cond, false, true, List, [], ◌∷◌, drop, get_or}
use Rattle.rules.specs.Bytes.{line_at}
use Rattle.rules.specs.Claim.{board_after, is_byte, is_byte_memory, pass_length, restores}
use Rattle.rules.specs.History.{accepted_in, committed, draws_on, expected_bytes, has_cut, memory_found, uses_in}
use Rattle.rules.specs.Image.{Logged, Persistent, encode, saved, with_medium}
use Rattle.rules.specs.Lists.{all}
use Rattle.rules.specs.Reader.{Reads, Refuses, Verdict, read_image}
use Rattle.rules.specs.Recovery.{PowerCut, Recovering, Restore, act, is_finished, line_start, put_back, restore}
use Rattle.rules.specs.Refusal.{in_flight}
use Rattle.rules.specs.Tables.{Memory, line_of}
use Rattle.rules.specs.declared.Board.{Board}
use Rattle.rules.specs.Walk.{walk_entries}

-- the words xs, from word i of their line on; where the choice p says so, those of the line ys
unfoldable pub mixed : (ℕ → Bool) → ℕ → List ℕ → List ℕ → List ℕ
mixed p i [] ys = []
mixed p i (x ∷ xs) ys = cond (p i) (get_or ys i 0) x ∷ mixed p (suc i) xs ys

-- ---- at the cut: "any of the eight words of each data flight"

-- a line that may be torn is one in flight
unfoldable pub is_torn : ℕ → Board → Bool
is_torn l b = in_flight l b.tables

-- lines of the medium, from line l on: of a line that may be torn, the words that p chooses for it are those that its flight carries
unfoldable pub torn_from : (ℕ → ℕ → Bool) → Board → ℕ → List (List ℕ) → List (List ℕ)
torn_from p b l [] = []
torn_from p b l (x ∷ xs) = cond (is_torn l b) (mixed (p l) 0 x (line_of l b.car)) x ∷ torn_from p b (suc l) xs

-- "Log entries count only when acknowledged": all but the medium is what is saved
unfoldable pub torn_state : (ℕ → ℕ → Bool) → Board → Persistent
torn_state p b = with_medium (torn_from p b 0 (saved b).medium) (saved b)

unfoldable pub torn_image : (ℕ → ℕ → Bool) → Board → List ℕ
torn_image p b = encode (torn_state p b)

-- ---- inside a recovery step: ".. any of the words of the line a recovery step was restoring"

-- the entry, with the words of its line as it stands that have not been restored yet
abbrev pub part_of : (ℕ → Bool) → Logged → List ℕ → Logged
part_of p e bs = record { key = e.key; line = e.line; old = mixed p 0 (line_at bs (line_start e.line)) e.old }

-- "A cut sets the place to 0", inside a step too; where the step restores nothing, nothing is torn
unfoldable pub torn_by : (ℕ → Bool) → List Logged → Recovering → Recovering
torn_by p [] r = record { bytes = r.bytes; at = 0 }
torn_by p (e ∷ es) r = record { bytes = put_back (part_of p e r.bytes) r.bytes; at = 0 }

abbrev pub torn_read : (ℕ → Bool) → Verdict Persistent → Recovering → Recovering
torn_read p (Refuses n) r = record { bytes = r.bytes; at = 0 }
torn_read p (Reads q) r = torn_by p (drop r.at (walk_entries q)) r

-- a recovery step; a cut between two steps; a cut inside a step, by which the words that p chooses had been restored
pub data TornAct : Type 0 where
  Whole : TornAct
  Between : TornAct
  Inside : (ℕ → Bool) → TornAct

unfoldable pub torn_act : Recovering → TornAct → Recovering
torn_act r Whole = act r Restore
torn_act r Between = act r PowerCut
torn_act r (Inside p) = torn_read p (read_image r.bytes) r

unfoldable pub torn_acts : Recovering → List TornAct → Recovering
torn_acts r [] = r
torn_acts r (a ∷ as') = torn_acts (torn_act r a) as'

abbrev pub is_cut : TornAct → Bool
is_cut Whole = false
is_cut Between = true
is_cut (Inside p) = true

-- ---- the promise

-- image and place after a list of acts on the image that the choice p of words has left at the cut
abbrev pub torn_recovering : Memory → List (List ℕ) → (ℕ → ℕ → Bool) → List TornAct → Recovering
torn_recovering m rs p as' = torn_acts (record { bytes = torn_image p (board_after m rs); at = 0 }) as'

pub record TornHolds (m : Memory) (rs : List (List ℕ)) (p : ℕ → ℕ → Bool) (as' : List TornAct) : Type 0 where
  -- the next step is accepted
  pub accepts : (restore (torn_recovering m rs p as')).answer.refusal ≡ 0
  -- if it answers 'finished', the memory found is the expected memory
  pub recovers : is_finished (restore (torn_recovering m rs p as')).answer ≡ true
      → memory_found (restore (torn_recovering m rs p as')).after.bytes ≡ expected_bytes m rs
  -- from a cut here on, between two steps or inside one, the last step of a pass answers 'finished': it has as many steps as the image saved has log entries
  pub finishes : (c : TornAct) → is_cut c ≡ true
      → is_finished (restore (restores (pass_length m rs - 1) (torn_act (torn_recovering m rs p as') c))).answer ≡ true
  -- what a committed region drew on had committed
  pub closed : (k q : ℕ) → draws_on k q (uses_in (accepted_in m rs)) ≡ true → q ≢ 0 → committed m rs k ≡ true → committed m rs q ≡ true

-- demand 3 "for every such choice of words": for every starting memory, every list of event records of any content in which a cut was accepted, every choice of words
-- for each line then in flight, and every list of recovery steps, cuts between them and cuts inside them, each with every choice of words
abbrev pub TornRecovery : Type 0
TornRecovery = (m : Memory) (rs : List (List ℕ)) (p : ℕ → ℕ → Bool) (as' : List TornAct) → is_byte_memory m ≡ true → all (all is_byte) rs ≡ true
    → has_cut (accepted_in m rs) ≡ true → TornHolds m rs p as'
