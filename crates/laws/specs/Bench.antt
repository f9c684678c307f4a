-- The chain of calls that a bench in C makes: the image call on an event file, then recovery calls on the image, the place in eight bytes.
use Rattle.std.specs.Prelude.{◌-◌, max, ℕ, ◌≡◌, ◌≢◌, true, List, [], ◌∷◌, replicate, take}
use Rattle.rules.specs.Claim.{entries_in, is_byte}
use Rattle.rules.specs.History.{accepted_in, committed, draws_on, expected_bytes, memory_found, uses_in}
use Rattle.rules.specs.Image.{image_call}
use Rattle.rules.specs.Lists.{all}
use Rattle.rules.specs.Record.{records_of}
use Rattle.rules.specs.Recovery.{Act, PowerCut, RecoveryCall, Restore, is_finished, recovery_call}
use Rattle.rules.specs.Run.{Wrote}
use Rattle.rules.specs.Tables.{Lent, Memory}

-- the bytes that a bench lends to the recovery call
pub record Bench : Type 0 where
  pub image : List ℕ
  pub place : List ℕ

abbrev pub next_call : Bench → RecoveryCall
next_call b = recovery_call b.image b.place

-- "A cut sets the place to 0 and keeps the image"
unfoldable pub bench_act : Bench → Act → Bench
bench_act b Restore = record { image = (next_call b).image; place = (next_call b).place }
bench_act b PowerCut = record { image = b.image; place = replicate 8 0 }

unfoldable pub bench_acts : Bench → List Act → Bench
bench_acts b [] = b
bench_acts b (a ∷ as') = bench_acts (bench_act b a) as'

-- "The value of a save is the image's length; the reader is lent the image alone", with the place 0
abbrev pub lent_image : Wrote → Bench
lent_image w = record { image = take w.answer.value w.buffer; place = replicate 8 0 }

-- of a bench that starts as s and has made calls and cuts, for memory m and records rs
pub record BenchHolds (m : Memory) (rs : List (List ℕ)) (s : Bench) (as' : List Act) : Type 0 where
  -- the next call is accepted
  pub accepts : (next_call (bench_acts s as')).answer.refusal ≡ 0
  -- if it answers 'finished', the memory found is the expected memory
  pub recovers : is_finished (next_call (bench_acts s as')).answer ≡ true → memory_found (next_call (bench_acts s as')).image ≡ expected_bytes m rs
  -- from a cut here on, 'finished' comes within as many calls as the image holds log entries, or at the first call if it holds none
  pub finishes : is_finished (next_call (bench_acts (bench_act (bench_acts s as') PowerCut) (replicate (max 1 (entries_in 0 s.image) - 1) Restore))).answer ≡ true
  -- what a committed region drew on had committed
  pub closed : (k q : ℕ) → draws_on k q (uses_in (accepted_in m rs)) ≡ true → q ≢ 0 → committed m rs k ≡ true → committed m rs q ≡ true

-- demand 3, of the calls: for every file, lent memory and buffer with which the image call is accepted, and every list of recovery calls and cuts
abbrev pub BenchRecovers : Type 0
BenchRecovers = (file memory d : List ℕ) (as' : List Act) → all is_byte file ≡ true → all is_byte memory ≡ true → (image_call file memory d).answer.refusal ≡ 0
    → BenchHolds (Lent memory) (records_of file) (lent_image (image_call file memory d)) as'
