-- What a drill returns, and what is promised of it.
use Rattle.std.specs.Prelude.{ℕ, ◌≡◌, ◌≢◌, Bool, cond, false, true, List, ◌++◌, map, eqb, drop, take}
use Rattle.drill.specs.declared.Act.{Act}
use Rattle.drill.specs.declared.Act.TheVariants as act
use Rattle.drill.specs.declared.DrillAnswers.{DrillAnswers}
use Rattle.rules.specs.Access.{is_set}
use Rattle.rules.specs.Claim.{board_after, is_byte, is_byte_memory}
use Rattle.rules.specs.History.{accepted_in, expected_bytes, has_cut, memory_found}
use Rattle.rules.specs.Image.{image, image_call}
use Rattle.rules.specs.Lists.{all}
use Rattle.rules.specs.Record.{records_of}
use Rattle.rules.specs.Recovery.{Recovering, Restored, is_finished, restore}
use Rattle.rules.specs.Tables.{Lent, Memory}
use Rattle.rules.specs.declared.Answer.{Answer}
use Rattle.torn.specs.Torn.{Between, Inside, TornAct, TornHolds, Whole, torn_act, torn_acts, torn_image}

-- the words that the bits of a byte choose, bit 0 for word 0
abbrev pub choice_of : ℕ → ℕ → Bool
choice_of a w = is_set w a

-- the act of a byte: 255 is a recovery step, 0 a power cut between two steps, any other one inside a step, by which the words of its bits had been restored
unfoldable pub act_of : ℕ → TornAct
act_of a = cond (eqb a 0) Between (cond (eqb a 255) Whole (Inside (choice_of a)))

-- an act as the enum of the program has it
abbrev pub torn_of : Act → TornAct
torn_of act.Step = Whole
torn_of act.CutBetween = Between
torn_of (act.CutInside a) = Inside (choice_of a)

abbrev pub acts_of : List ℕ → List TornAct
acts_of as' = map act_of as'

-- the bytes of an image after a step at a place that was cut inside
abbrev pub cut_inside : List ℕ → ℕ → ℕ → List ℕ
cut_inside bs at a = (torn_act (record { bytes = bs; at = at }) (Inside (choice_of a))).bytes

-- image and place after acts on an image at a place
abbrev pub after_acts : List ℕ → ℕ → List ℕ → Recovering
after_acts bs at as' = torn_acts (record { bytes = bs; at = at }) (acts_of as')

-- the image is what the choice p of words leaves of the list of events, in which a cut was accepted
pub record TornFrom (m : Memory) (rs : List (List ℕ)) (p : ℕ → ℕ → Bool) (bs : List ℕ) : Type 0 where
  pub memory : is_byte_memory m ≡ true
  pub records : all (all is_byte) rs ≡ true
  pub cut : has_cut (accepted_in m rs) ≡ true
  pub image : bs ≡ torn_image p (board_after m rs)

-- an answer, and the bytes of the image
pub record Step : Type 0 where
  pub answer : Answer
  pub bytes : List ℕ

abbrev pub stepped : Answer → List ℕ → Step
stepped a bs = record { answer = a; bytes = bs }

abbrev pub step_of : Restored → Step
step_of s = stepped s.answer s.after.bytes

-- one more step after acts on an image, from place 0 on
abbrev pub last_step : List ℕ → List ℕ → Step
last_step bs as' = step_of (restore (after_acts bs 0 as'))

-- acts on an image and one more step, which answers r and leaves the bytes e
pub record Recovered (bs as' e : List ℕ) (r : Answer) : Type 0 where
  pub steps : stepped r e ≡ last_step bs as'
  -- on every image that a choice of words has left at the cut of a list of events: the step is accepted, and if it answers 'finished', the memory found is the
  -- expected memory
  pub accepts : (m : Memory) (rs : List (List ℕ)) (p : ℕ → ℕ → Bool) → TornFrom m rs p bs → r.refusal ≡ 0
  pub recovers : (m : Memory) (rs : List (List ℕ)) (p : ℕ → ℕ → Bool) → TornFrom m rs p bs → is_finished r ≡ true → memory_found e ≡ expected_bytes m rs

-- the last step of a drill, by the definitions alone: on the image that the events of the file left
abbrev pub ended : List ℕ → List ℕ → List ℕ → Restored
ended file memory as' = restore (after_acts (image (board_after (Lent memory) (records_of file))) 0 as')

-- a drill with a buffer that held d before it and holds e after it
pub record Drilled (file memory as' d e : List ℕ) (r : DrillAnswers) : Type 0 where
  -- the save answers as its definition says
  pub saves : r.saved ≡ (image_call file memory d).answer
  -- a refused save leaves the buffer as it was, and its refusal is the last answer
  pub refuses : r.saved.refusal ≢ 0 → (e ≡ d) × (r.last ≡ r.saved)
  -- after an accepted save the buffer holds the image as the acts and the last step leave it, and what stood behind it
  pub restores : r.saved.refusal ≡ 0 → e ≡ (ended file memory as').after.bytes ++ drop r.saved.value d
  pub answers : r.saved.refusal ≡ 0 → r.last ≡ (ended file memory as').answer
  -- the last step is then accepted
  pub accepts : r.saved.refusal ≡ 0 → r.last.refusal ≡ 0
  -- and if it answers 'finished', the memory found in the buffer is the expected memory
  pub recovers : r.saved.refusal ≡ 0 → is_finished r.last ≡ true → memory_found (take r.saved.value e) ≡ expected_bytes (Lent memory) (records_of file)
  -- and all of demand 3 holds of the file and the acts: a pass finishes in time, and what a committed region drew on had committed
  pub holds : r.saved.refusal ≡ 0 → TornHolds (Lent memory) (records_of file) (λ l w. false) (acts_of as')
