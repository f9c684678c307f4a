-- Demand 3, as one type about two whole lists, and the claims about an image. Their proofs stand in proofs/.
use Rattle.std.specs.Prelude.{◌+◌, ◌-◌, max, suc, zero, ℕ, ◌≡◌, ◌≢◌, Bool, cond, true, List, [], ◌∷◌, eqb, ltb}
use Rattle.rules.specs.History.{accepted_in, committed, draws_on, expected_bytes, has_cut, memory_found, uses_in}
use Rattle.rules.specs.Image.{Persistent, encode, image, saved}
use Rattle.rules.specs.Lists.{all}
use Rattle.rules.specs.Reader.{Reads, image_body, read_image}
use Rattle.rules.specs.Recovery.{Act, PowerCut, Recovering, act, acts, is_finished, restore}
use Rattle.rules.specs.Run.{run}
use Rattle.rules.specs.Tables.{Lent, Memory, Zero, fresh}
use Rattle.rules.specs.declared.Board.{Board}

-- the board after a list of event calls
abbrev pub board_after : Memory → List (List ℕ) → Board
board_after m rs = (run (fresh m) rs).board

-- image and place after a list of recovery steps and cuts on the image then saved: "the saved image starts with place 0"
abbrev pub recovering : Memory → List (List ℕ) → List Act → Recovering
recovering m rs as' = acts (record { bytes = image (board_after m rs); at = 0 }) as'

-- n recovery steps
unfoldable pub restores : ℕ → Recovering → Recovering
restores zero r = r
restores (suc n) r = restores n (restore r).after

-- how many log entries an image holds: its records of kind 35, where n bytes of a record before them are still to come
unfoldable pub entries_in : ℕ → List ℕ → ℕ
entries_in zero [] = 0
entries_in (suc n) [] = 0
entries_in zero (k ∷ bs) = cond (eqb k 35) 1 0 + entries_in (image_body k) bs
entries_in (suc n) (b ∷ bs) = entries_in n bs

-- how many steps a pass takes: "as many steps as the image holds log entries, or the first step if it holds none"
abbrev pub pass_length : Memory → List (List ℕ) → ℕ
pass_length m rs = max 1 (entries_in 0 (image (board_after m rs)))

pub record Holds (m : Memory) (rs : List (List ℕ)) (as' : List Act) : Type 0 where
  -- the next step is accepted
  pub accepts : (restore (recovering m rs as')).answer.refusal ≡ 0
  -- if it answers 'finished', the memory found is the expected memory
  pub recovers : is_finished (restore (recovering m rs as')).answer ≡ true → memory_found (restore (recovering m rs as')).after.bytes ≡ expected_bytes m rs
  -- from a cut here on, the last step of a pass answers 'finished'
  pub finishes : is_finished (restore (restores (pass_length m rs - 1) (act (recovering m rs as') PowerCut))).answer ≡ true
  -- what a committed region drew on had committed
  pub closed : (k q : ℕ) → draws_on k q (uses_in (accepted_in m rs)) ≡ true → q ≢ 0 → committed m rs k ≡ true → committed m rs q ≡ true

-- lent memory and records are bytes
abbrev pub is_byte : ℕ → Bool
is_byte b = ltb b 256

abbrev pub is_byte_memory : Memory → Bool
is_byte_memory Zero = true
is_byte_memory (Lent bs) = all is_byte bs

-- for every starting memory, every list of event records of any content in which a cut was accepted, every list of recovery steps and cuts
abbrev pub Demand3 : Type 0
Demand3 = (m : Memory) (rs : List (List ℕ)) (as' : List Act) → is_byte_memory m ≡ true → all (all is_byte) rs ≡ true
    → has_cut (accepted_in m rs) ≡ true → Holds m rs as'

-- "A saved image reads back to the same persistent state"
abbrev pub ReadsBack : Type 0
ReadsBack = (m : Memory) (rs : List (List ℕ)) → is_byte_memory m ≡ true → all (all is_byte) rs ≡ true → has_cut (accepted_in m rs) ≡ true
    → read_image (image (board_after m rs)) ≡ Reads (saved (board_after m rs))

-- ".. and is the only image of it": bytes that are accepted are the image of what they read back to
abbrev pub OnlyImage : Type 0
OnlyImage = (bs : List ℕ) (p : Persistent) → all is_byte bs ≡ true → read_image bs ≡ Reads p → encode p ≡ bs
