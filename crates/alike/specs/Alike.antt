-- Request 14, recovery: "the new reader takes old and new images and recovers the same memory from either". Demand 3, with what request 10 adds to it, over the new image
-- and the new step; and beside each act the same act on the old image.
use Rattle.std.specs.Prelude.{◌+◌, ◌-◌, max, suc, zero, ℕ, ◌≡◌, ◌≢◌, Bool, cond, false, true, List, [], ◌∷◌, eqb, replicate}
use Rattle.headed.specs.Image.{encode_headed, image_headed}
use Rattle.headed.specs.Reader.{headed_body, held_by, is_header, read_headed}
use Rattle.headed.specs.Recovery.{recovery_headed_call, restore_headed}
use Rattle.laws.specs.Images.{Answers}
use Rattle.rules.specs.Claim.{board_after, is_byte, is_byte_memory}
use Rattle.rules.specs.History.{accepted_in, committed, draws_on, expected_bytes, has_cut, memory_found, uses_in}
use Rattle.rules.specs.Lists.{all}
use Rattle.rules.specs.Recovery.{PowerCut, Recovering, act, is_finished, restore}
use Rattle.rules.specs.Tables.{Memory}
use Rattle.rules.specs.declared.Board.{Board}
use Rattle.torn.specs.Torn.{Between, Inside, TornAct, Whole, is_cut, torn_image, torn_read, torn_recovering, torn_state}

-- ---- the new image, and acts on it with the new step

-- the new image, with the words of lines in flight that had reached the medium
unfoldable pub torn_headed : (ℕ → ℕ → Bool) → Board → List ℕ
torn_headed p b = encode_headed (torn_state p b)

-- a step; a cut between two steps; a cut inside a step, by which the words that p chooses had been restored
unfoldable pub headed_act : Recovering → TornAct → Recovering
headed_act r Whole = (restore_headed r).after
headed_act r Between = act r PowerCut
headed_act r (Inside p) = torn_read p (read_headed r.bytes) r

unfoldable pub headed_acts : Recovering → List TornAct → Recovering
headed_acts r [] = r
headed_acts r (a ∷ as') = headed_acts (headed_act r a) as'

-- how many log entries an image of either form holds, where n bytes of a record before them are still to come
unfoldable pub entries_under : ℕ → List ℕ → ℕ
entries_under zero [] = 0
entries_under (suc n) [] = 0
entries_under zero (k ∷ bs) = cond (is_header k) (held_by k) (cond (eqb k 35) 1 0) + entries_under (headed_body k) bs
entries_under (suc n) (b ∷ bs) = entries_under n bs

-- ---- the promise

-- image and place after a list of acts on the new image that the choice p of words has left at the cut
abbrev pub headed_recovering : Memory → List (List ℕ) → (ℕ → ℕ → Bool) → List TornAct → Recovering
headed_recovering m rs p as' = headed_acts (record { bytes = torn_headed p (board_after m rs); at = 0 }) as'

-- how many steps a pass takes
abbrev pub headed_pass : Memory → List (List ℕ) → ℕ
headed_pass m rs = max 1 (entries_under 0 (image_headed (board_after m rs)))

-- the recovery of the new image goes as that of the old one: the same place, the same lines, the same answer to the next step
pub record GoesAlike (old new : Recovering) : Type 0 where
  pub at : new.at ≡ old.at
  pub lines : memory_found new.bytes ≡ memory_found old.bytes
  pub answer : (restore_headed new).answer ≡ (restore old).answer

pub record HeadedHolds (m : Memory) (rs : List (List ℕ)) (p : ℕ → ℕ → Bool) (as' : List TornAct) : Type 0 where
  -- the next step is accepted
  pub accepts : (restore_headed (headed_recovering m rs p as')).answer.refusal ≡ 0
  -- if it answers 'finished', the memory found is the expected memory
  pub recovers : is_finished (restore_headed (headed_recovering m rs p as')).answer ≡ true
      → memory_found (restore_headed (headed_recovering m rs p as')).after.bytes ≡ expected_bytes m rs
  -- from a cut here on, between two steps or inside one, the last step of a pass answers 'finished': it has as many steps as the new image saved has log entries
  pub finishes : (c : TornAct) → is_cut c ≡ true
      → is_finished (restore_headed (headed_acts (headed_act (headed_recovering m rs p as') c) (replicate (headed_pass m rs - 1) Whole))).answer ≡ true
  -- what a committed region drew on had committed
  pub closed : (k q : ℕ) → draws_on k q (uses_in (accepted_in m rs)) ≡ true → q ≢ 0 → committed m rs k ≡ true → committed m rs q ≡ true
  -- "after every step the line records are those of the old image's recovery"
  pub alike : GoesAlike (torn_recovering m rs p as') (headed_recovering m rs p as')
  -- and the old image recovers by the new step as by the old one
  pub either : headed_acts (record { bytes = torn_image p (board_after m rs); at = 0 }) as' ≡ torn_recovering m rs p as'

-- for every starting memory, every list of event records of any content in which a cut was accepted, every choice of words for each line then in flight (with none chosen it is
-- the new image saved, and demand 3), and every list of recovery steps, cuts between them and cuts inside them, each with every choice of words
pub record HeadedRecovery : Type 0 where
  pub holds : (m : Memory) (rs : List (List ℕ)) (p : ℕ → ℕ → Bool) (as' : List TornAct) → is_byte_memory m ≡ true → all (all is_byte) rs ≡ true
      → has_cut (accepted_in m rs) ≡ true → HeadedHolds m rs p as'
  pub none : (b : Board) → torn_headed (λ l w. false) b ≡ image_headed b
  -- on any bytes each answer is one that is listed, of a step at any place and of the call with any bytes as its place
  pub answers : (bs : List ℕ) → ((n : ℕ) → Answers (restore_headed (record { bytes = bs; at = n })).answer) × ((at : List ℕ) → Answers (recovery_headed_call bs at).answer)
