-- The recovered words behind a cut are those of the expected memory: the recovery that the trace makes ends at 'finished', where demand 3 says what is found.
use Prim.Native.Nat.{◌*◌, ◌-◌, ◌≤◌, suc, zero, ℕ}
use mathlib.Core.Path.{◌≡◌, refl}
use mathlib.Core.Bool.{true}
use mathlib.Core.List.{List, [], ◌++◌, ◌∷◌, map}
use lib.Dec.{eqb}
use lib.ListN.{drop, length, length-append, length-map}
use native.Mathlib.Nat.{mul-suc}
use native.Mathlib.Omega.{arith}
use borrow.Author.Tests.{eqb-false, eqb-true}
use Rattle.rules.proofs.Codec.Image.{read_records}
use Rattle.rules.proofs.Recover.Entries.{entries_read}
use Rattle.rules.proofs.Recover.Rising.{rising_length}
use Rattle.rules.proofs.Main.{image_reads_back, recovery_is_right}
use Rattle.rules.proofs.Sim.State.{Simulated, by}
use Rattle.rules.proofs.Sim.All.{every}
use Rattle.rules.specs.Claim.{board_after, is_byte, is_byte_memory, pass_length, recovering, restores}
use Rattle.rules.specs.History.{Account, accepted_in, expected_bytes, has_cut, memory_found}
use Rattle.rules.specs.Image.{Logged, Persistent, image, order_of, saved, saved_entry, saved_log, saved_thread}
use Rattle.rules.specs.Lists.{all, rising}
use Rattle.rules.specs.Reader.{Reads, Refuses, Verdict, read_image}
use Rattle.rules.specs.Recovery.{Act, PowerCut, Recovering, Restore, act, acts, restore, restore_by, restore_read}
use Rattle.rules.specs.Walk.{walk_entries}
use Rattle.rules.specs.Tables.{Memory, thread_at}
use Rattle.rules.specs.declared.Board.{Board}
use Rattle.wording.specs.Text.{finish, recovered}
use Rattle.undo.proofs.Laws.{and_true, test}

-- a step answers 'finished' where it does not answer 'more'
by_finished : (es : List Logged) (r : Recovering) → ((restore_by es r).answer.value ≡ 1 → ⊥) → (restore_by es r).answer.value ≡ 0
unfolding restore_by
by_finished [] r h = refl
by_finished (e ∷ es) r h = test (eqb (length es) 0) (λ q. rw q) (λ q. absurd (h (rw q)))

read_finished : (v : Verdict Persistent) (r : Recovering) → ((restore_read v r).answer.value ≡ 1 → ⊥) → (restore_read v r).answer.value ≡ 0
read_finished (Refuses n) r h = refl
read_finished (Reads p) r h = by_finished (drop r.at (walk_entries p)) r h

finished : (r : Recovering) → ((restore r).answer.value ≡ 1 → ⊥) → (restore r).answer.value ≡ 0
unfolding restore
finished r h = read_finished (read_image r.bytes) r h

acts_on : (r : Recovering) (as' : List Act) → acts r (as' ++ (Restore ∷ [])) ≡ (restore (acts r as')).after
unfolding acts act
acts_on r [] = refl
acts_on r (a ∷ as') = acts_on (act r a) as'

-- a thread has at most 32 log entries in its image, and eight threads have 256
thread_log : (b : Board) (t : ℕ) → length (thread_at t b.tables).log ≡ 32 → length (saved_thread t b) ≤ 32
unfolding saved_thread
thread_log b t h =
    let log = (thread_at t b.tables).log in
    let xs = map order_of log in
    omega (arith, h, length-map log order_of, rising_length 0 (length xs) xs, length-map (rising xs) (saved_entry t log b.log_lines))

all_logs : (b : Board) → ((t : ℕ) → length (thread_at t b.tables).log ≡ 32) → (n t : ℕ) → length (saved_log t n b) ≤ 32 * n
unfolding saved_log
all_logs b h zero t = omega arith
all_logs b h (suc n) t =
    rw (length-append (saved_thread t b) (saved_log (suc t) n b), mul-suc 32 n) (omega (arith, thread_log b t (h t), all_logs b h n (suc t)))

pub image_log : (b : Board) → ((t : ℕ) → length (thread_at t b.tables).log ≡ 32) → length (saved b).log ≤ 256
unfolding saved
image_log b h = all_logs b h 8 0

shaped : {m : Memory} {b : Board} {es : List Account} → Simulated m b es → (t : ℕ) → length (thread_at t b.tables).log ≡ 32
shaped (by s h w i) = i.shape.threads.logs

module _ (m : Memory) (rs : List (List ℕ)) (bm : is_byte_memory m ≡ true) (br : all (all is_byte) rs ≡ true) (cut : has_cut (accepted_in m rs) ≡ true) where
  -- a step that answers 0 leaves the expected memory
  stops : (as' : List Act) → (restore (recovering m rs as')).answer.value ≡ 0 → memory_found (restore (recovering m rs as')).after.bytes ≡ expected_bytes m rs
  stops as' e = let h = recovery_is_right m rs as' bm br cut in h.recovers (rw (h.accepts, e))

  found : (n k : ℕ) (as' : List Act) → k ≤ n → (restore (restores k (recovering m rs as'))).answer.value ≡ 0 → memory_found (finish n (recovering m rs as')) ≡ expected_bytes m rs
  unfolding finish restores
  found zero zero as' h e = stops as' e
  found zero (suc k) as' h e = absurd (omega arith)
  found (suc n) zero as' h e = rw e (stops as' e)
  found (suc n) (suc k) as' h e =
      let r = recovering m rs as' in
      let o : recovering m rs (as' ++ (Restore ∷ [])) ≡ (restore r).after = acts_on (record { bytes = image (board_after m rs); at = 0 }) as' in
      test (eqb (restore r).answer.value 1)
      (λ q. rw (q, ← o) (found n k (as' ++ (Restore ∷ [])) (omega arith) (rw o e)))
      (λ q. let f = finished r (eqb-false (restore r).answer.value 1 q) in rw q (stops as' f))

  pub expected_found : memory_found (recovered (image (board_after m rs))) ≡ expected_bytes m rs
  unfolding acts act
  expected_found =
      let l = image_log (board_after m rs) (shaped (every m rs bm).simulated) in
      let a = (restore (restores (pass_length m rs - 1) (act (recovering m rs []) PowerCut))).answer in
      let e = eqb-true a.value 0 (and_true (eqb a.refusal 0) (eqb a.value 0) (recovery_is_right m rs [] bm br cut).finishes).1 in
      let b = board_after m rs in
      let n = entries_read (image b) (saved b) (read_records (image b) (saved b) (image_reads_back m rs bm br cut)).0 in
      found 256 (pass_length m rs - 1) [] (omega (arith, l, n)) e
