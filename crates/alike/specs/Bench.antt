-- The calls that a bench in C makes on new images: the image call for the new form, then recovery calls that take both forms, where power cuts tear.
use Rattle.std.specs.Prelude.{◌-◌, max, ℕ, ◌≡◌, ◌≢◌, Bool, true, List, [], ◌∷◌, replicate}
use Rattle.alike.specs.Alike.{entries_under, headed_act, torn_headed}
use Rattle.headed.specs.Image.{image_headed_call}
use Rattle.headed.specs.Recovery.{recovery_headed_call}
use Rattle.laws.specs.Bench.{Bench, bench_act, lent_image}
use Rattle.rules.specs.Bytes.{num_of}
use Rattle.rules.specs.Claim.{board_after, is_byte}
use Rattle.rules.specs.History.{accepted_in, committed, draws_on, expected_bytes, memory_found, uses_in}
use Rattle.rules.specs.Lists.{all}
use Rattle.rules.specs.Record.{records_of}
use Rattle.rules.specs.Recovery.{PowerCut, RecoveryCall, is_finished}
use Rattle.rules.specs.Tables.{Lent, Memory}
use Rattle.torn.specs.Torn.{Between, Inside, TornAct, Whole, is_cut}

abbrev pub headed_next : Bench → RecoveryCall
headed_next b = recovery_headed_call b.image b.place

unfoldable pub headed_call : Bench → TornAct → Bench
headed_call b Whole = record { image = (headed_next b).image; place = (headed_next b).place }
headed_call b Between = bench_act b PowerCut
headed_call b (Inside p) = record { image = (headed_act (record { bytes = b.image; at = num_of b.place }) (Inside p)).bytes; place = replicate 8 0 }

unfoldable pub headed_calls : Bench → List TornAct → Bench
headed_calls b [] = b
headed_calls b (a ∷ as') = headed_calls (headed_call b a) as'

-- of a bench that starts as s and has made calls and cuts, for memory m, records rs and an image saved with n log entries
pub record HeadedBenchHolds (m : Memory) (rs : List (List ℕ)) (n : ℕ) (s : Bench) (as' : List TornAct) : Type 0 where
  -- the next call is accepted
  pub accepts : (headed_next (headed_calls s as')).answer.refusal ≡ 0
  -- if it answers 'finished', the memory found is the expected memory
  pub recovers : is_finished (headed_next (headed_calls s as')).answer ≡ true → memory_found (headed_next (headed_calls s as')).image ≡ expected_bytes m rs
  -- from a cut here on, 'finished' comes within n calls, or at the first call if n is 0
  pub finishes : (c : TornAct) → is_cut c ≡ true → is_finished (headed_next (headed_calls (headed_call (headed_calls s as') c) (replicate (max 1 n - 1) Whole))).answer ≡ true
  -- what a committed region drew on had committed
  pub closed : (k q : ℕ) → draws_on k q (uses_in (accepted_in m rs)) ≡ true → q ≢ 0 → committed m rs k ≡ true → committed m rs q ≡ true

-- for every file, lent memory and buffer with which the image call is accepted, every choice of words at the cut, and every list of calls and cuts
abbrev pub HeadedBenchRecovers : Type 0
HeadedBenchRecovers = (file memory d : List ℕ) (p : ℕ → ℕ → Bool) (as' : List TornAct) → all is_byte file ≡ true → all is_byte memory ≡ true
    → (image_headed_call file memory d).answer.refusal ≡ 0
    → HeadedBenchHolds (Lent memory) (records_of file) (entries_under 0 (lent_image (image_headed_call file memory d)).image)
    (record { image = torn_headed p (board_after (Lent memory) (records_of file)); place = replicate 8 0 }) as'
