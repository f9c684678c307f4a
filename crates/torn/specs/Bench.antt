-- The chain of calls that a bench in C makes (crates/laws/specs/Bench.antt), where power cuts tear: the image call on an event file, the image that a choice of words
-- has left at the cut, then recovery calls, cuts between them and cuts inside them.
use Rattle.std.specs.Prelude.{◌-◌, max, ℕ, ◌≡◌, ◌≢◌, Bool, true, List, [], ◌∷◌, replicate}
use Rattle.laws.specs.Bench.{Bench, bench_act, bench_acts, lent_image, next_call}
use Rattle.rules.specs.Bytes.{num_of}
use Rattle.rules.specs.Claim.{board_after, entries_in, is_byte}
use Rattle.rules.specs.History.{accepted_in, committed, draws_on, expected_bytes, memory_found, uses_in}
use Rattle.rules.specs.Image.{image_call}
use Rattle.rules.specs.Lists.{all}
use Rattle.rules.specs.Record.{records_of}
use Rattle.rules.specs.Recovery.{PowerCut, Restore, is_finished}
use Rattle.rules.specs.Tables.{Lent, Memory}
use Rattle.torn.specs.Torn.{Between, Inside, TornAct, Whole, is_cut, torn_act, torn_image}

-- a call that is cut inside leaves the image as its step does, and the eight bytes of the place are set to 0
unfoldable pub torn_call : Bench → TornAct → Bench
torn_call b Whole = bench_act b Restore
torn_call b Between = bench_act b PowerCut
torn_call b (Inside p) = record { image = (torn_act (record { bytes = b.image; at = num_of b.place }) (Inside p)).bytes; place = replicate 8 0 }

unfoldable pub torn_calls : Bench → List TornAct → Bench
torn_calls b [] = b
torn_calls b (a ∷ as') = torn_calls (torn_call b a) as'

-- of a bench that starts as s and has made calls and cuts, for memory m, records rs and an image saved with n log entries
pub record TornBenchHolds (m : Memory) (rs : List (List ℕ)) (n : ℕ) (s : Bench) (as' : List TornAct) : Type 0 where
  -- the next call is accepted
  pub accepts : (next_call (torn_calls s as')).answer.refusal ≡ 0
  -- if it answers 'finished', the memory found is the expected memory
  pub recovers : is_finished (next_call (torn_calls s as')).answer ≡ true → memory_found (next_call (torn_calls s as')).image ≡ expected_bytes m rs
  -- from a cut here on, 'finished' comes within n calls, or at the first call if n is 0
  pub finishes : (c : TornAct) → is_cut c ≡ true → is_finished (next_call (bench_acts (torn_call (torn_calls s as') c) (replicate (max 1 n - 1) Restore))).answer ≡ true
  -- what a committed region drew on had committed
  pub closed : (k q : ℕ) → draws_on k q (uses_in (accepted_in m rs)) ≡ true → q ≢ 0 → committed m rs k ≡ true → committed m rs q ≡ true

-- for every file, lent memory and buffer with which the image call is accepted, every choice of words at the cut, and every list of calls and cuts
abbrev pub TornBenchRecovers : Type 0
TornBenchRecovers = (file memory d : List ℕ) (p : ℕ → ℕ → Bool) (as' : List TornAct) → all is_byte file ≡ true → all is_byte memory ≡ true
    → (image_call file memory d).answer.refusal ≡ 0
    → TornBenchHolds (Lent memory) (records_of file) (entries_in 0 (lent_image (image_call file memory d)).image)
    (record { image = torn_image p (board_after (Lent memory) (records_of file)); place = replicate 8 0 }) as'
