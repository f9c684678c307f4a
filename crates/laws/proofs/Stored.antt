-- The bytes that accepted writes store: in current memory, and in the expected memory.
use Rattle.std.specs.Prelude.{Err, Ok}
use Prim.Native.Nat.{◌%◌, ◌<◌, suc, zero, ℕ}
use mathlib.Core.Path.{◌∙◌, ◌≡◌, ap, refl, sym}
use mathlib.Core.Bool.{Bool, cond, not, true}
use mathlib.Core.List.{List, [], ◌∷◌, map}
use lib.Dec.{eqb}
use lib.ListN.{length, length-set}
use lib.Seq.{get_or-set_other, get_or-set_same}
use native.Mathlib.Omega.{arith}
use borrow.Author.Tests.{eqb-false, eqb-true}
use Rattle.laws.proofs.Current.{current_memory}
use Rattle.laws.proofs.Lines.{Keeping, Lines, applied_lines, change_lines, effects_lines, more, nothing, start_lines_lem}
use Rattle.laws.specs.Stores.{StoresBytes, Written, byte_by, byte_ended, has_byte, written_by, written_from, written_in, written_of}
use Rattle.laws.specs.Words.{all_applied}
use Rattle.lines.proofs.Stores.{stores}
use Rattle.lines.specs.Stores.{line_byte}
use Rattle.rules.proofs.Recover.Expected.{applied_length, effects_length}
use Rattle.rules.proofs.Sim.Store.{word_keeps}
use Rattle.rules.proofs.Start.{start_length}
use Rattle.rules.proofs.Tests.{passed}
use Rattle.rules.specs.Access.{change_line, stored_in}
use Rattle.rules.specs.Bytes.{byte_of}
use Rattle.rules.specs.History.{Account, Change, accepted_from, accepted_in, account_of, applied, committed, effects, ends_in, expected, noted, region_in, writes_in}
use Rattle.rules.specs.Claim.{is_byte_memory}
use Rattle.rules.specs.Lists.{all}
use Rattle.rules.specs.Record.{read_record}
use Rattle.rules.specs.Refusal.{refusal, tests_of}
use Rattle.rules.specs.Step.{step, step_by, step_event, step_read}
use Rattle.rules.specs.Tables.{Memory, fresh, line_of, start_lines}
use Rattle.rules.specs.declared.Board.{Board}
use Rattle.rules.specs.declared.Event.{Event}
use Rattle.rules.specs.declared.Event.TheVariants.{Begin, Cut, DataAck, End, Fence, LogAck, Read, Setup, Write}
use Rattle.rules.specs.Record.{Reading}
use Rattle.rules.specs.declared.Tables.{Tables}
use Rattle.undo.proofs.Laws.{and_true, test}

-- ---- the accepted writes are the changes of the history, and each has a bit in its mask

abbrev as_change : Written → Change
as_change w = record { region = w.region; line = w.line; change = stored_in w.word w.mask w.value }

abbrev is_masked : Written → Bool
is_masked w = not (eqb w.mask 0)

abbrev Fits : List Account → List Written → Type 0
Fits es ws = (writes_in es ≡ map as_change ws) × (all is_masked ws ≡ true)

fits_of : (ts : Tables) (e : Event) (es : List Account) (ws : List Written) → refusal ts e ≡ 0 → Fits es ws → Fits (account_of e ∷ es) (written_of e es ws)
unfolding writes_in tests_of
fits_of ts (Setup n l s) es ws r f = f
fits_of ts (Begin t) es ws r f = f
fits_of ts (End t) es ws r f = f
fits_of ts (Read t l w) es ws r f = f
fits_of ts (Write t l w mask v) es ws r f =
    let c : Change = record { region = region_in t es; line = l; change = stored_in w mask v } in
    (ap (λ cs. c ∷ cs) f.0, rw (passed ts (Write t l w mask v) r 27, f.1))
fits_of ts (LogAck l) es ws r f = f
fits_of ts (DataAck l) es ws r f = f
fits_of ts (Fence t) es ws r f = f
fits_of ts Cut es ws r f = f

step_fits : (b : Board) (es : List Account) (ws : List Written) (x : Reading) → Fits es ws
    → Fits (noted (step_read b x).answer.refusal x es) (written_by (step_read b x).answer.refusal x es ws)
unfolding step_event step_by
step_fits b es ws (Err zero) f = f
step_fits b es ws (Err (suc n)) f = f
step_fits b es ws (Ok e) f = go (refusal b.tables e) refl
  where
    go : (n : ℕ) → refusal b.tables e ≡ n → Fits (noted (step_by n b e).answer.refusal (Ok e) es) (written_by (step_by n b e).answer.refusal (Ok e) es ws)
    go zero r = fits_of b.tables e es ws r f
    go (suc n) r = f

run_fits : (rs : List (List ℕ)) (b : Board) (es : List Account) (ws : List Written) → Fits es ws → Fits (accepted_from b rs es) (written_from b rs es ws)
unfolding accepted_from written_from step
run_fits [] b es ws f = f
run_fits (r ∷ rs) b es ws f =
    run_fits rs (step b r).board (noted (step b r).answer.refusal (read_record r) es) (written_by (step b r).answer.refusal (read_record r) es ws)
    (step_fits b es ws (read_record r) f)

-- ---- memories of lines

keeps_lines : (ws : List Written) → Keeping (map as_change ws)
keeps_lines [] = nothing
keeps_lines (w ∷ ws) = more (word_keeps w.word w.mask w.value) (keeps_lines ws)

all_length : (ws : List Change) (m : List (List ℕ)) → length (all_applied ws m) ≡ length m
unfolding all_applied
all_length [] m = refl
all_length (w ∷ ws) m = length-set (all_applied ws m) w.line (w.change (line_of w.line (all_applied ws m))) ∙ all_length ws m

all_lines : {ws : List Change} (m : List (List ℕ)) → Keeping ws → length m ≡ 256 → Lines m → Lines (all_applied ws m)
unfolding all_applied
all_lines m nothing n h = h
all_lines m (more {w} {ws} c cs) n h = change_lines (all_applied ws m) w.line w.change (all_length ws m ∙ n) c (all_lines m cs n h)

-- ---- byte j of line x

module _ (x j : ℕ) (inside : x < 256) (low : j < 64) where
  abbrev at : List (List ℕ) → ℕ
  at m = line_byte j (line_of x m)

  one_write : (w : Written) (m : List (List ℕ)) → length m ≡ 256 → Lines m
      → at (change_line w.line (as_change w).change m) ≡ cond (has_byte x j w) (byte_of (j % 8) w.value) (at m)
  one_write w m n h =
      test (eqb w.line x)
      (λ e. let l : w.line ≡ x = eqb-true w.line x e in
      let k : length (line_of x m) ≡ 8 = eqb-true (length (line_of x m)) 8 (and_true (eqb (length (line_of x m)) 8) _ (h x inside)).0 in
      rw (e, l, get_or-set_same m x (stored_in w.word w.mask w.value (line_of x m)) [] (omega arith))
      (stores w.word w.mask w.value (line_of x m) k j low))
      (λ e. rw (e, get_or-set_other m w.line x (stored_in w.word w.mask w.value (line_of w.line m)) [] (λ q. eqb-false w.line x e (sym q))))

  -- of the writes of one region, of all writes, of the ended regions in their order
  applied_byte : (k : ℕ) (ws : List Written) (m : List (List ℕ)) → length m ≡ 256 → Lines m → at (applied k (map as_change ws) m) ≡ byte_by (λ r. eqb r k) x j ws (at m)
  unfolding applied byte_by
  applied_byte k [] m n h = refl
  applied_byte k (w ∷ ws) m n h =
      let ih = applied_byte k ws m n h in
      let m' = applied k (map as_change ws) m in
      test (eqb w.region k)
      (λ e. rw e (one_write w m' (applied_length k (map as_change ws) m ∙ n) (applied_lines k m (keeps_lines ws) n h)
      ∙ ap (cond (has_byte x j w) (byte_of (j % 8) w.value)) ih))
      (λ e. rw e ih)

  all_byte : (ws : List Written) (m : List (List ℕ)) → length m ≡ 256 → Lines m → at (all_applied (map as_change ws) m) ≡ byte_by (λ k. true) x j ws (at m)
  unfolding all_applied byte_by
  all_byte [] m n h = refl
  all_byte (w ∷ ws) m n h =
      one_write w (all_applied (map as_change ws) m) (all_length (map as_change ws) m ∙ n) (all_lines m (keeps_lines ws) n h)
      ∙ ap (cond (has_byte x j w) (byte_of (j % 8) w.value)) (all_byte ws m n h)

  ended_byte : (done : ℕ → Bool) (ws : List Written) (m : List (List ℕ)) (ks : List ℕ) → length m ≡ 256 → Lines m
      → at (effects done (map as_change ws) m ks) ≡ byte_ended done x j ws ks (at m)
  unfolding effects byte_ended
  ended_byte done ws m [] n h = refl
  ended_byte done ws m (k ∷ ks) n h =
      let ih = ended_byte done ws m ks n h in
      let m' = effects done (map as_change ws) m ks in
      test (done k)
      (λ e. rw e (applied_byte k ws m' (effects_length done (map as_change ws) m ks ∙ n) (effects_lines done m ks (keeps_lines ws) n h)
      ∙ ap (byte_by (λ r. eqb r k) x j ws) ih))
      (λ e. rw e ih)

pub expected_lines : (m : Memory) (rs : List (List ℕ)) → is_byte_memory m ≡ true → Lines (expected m rs)
unfolding expected writes_in
expected_lines m rs bm =
    rw (run_fits rs (fresh m) [] [] (refl, refl)).0
    (effects_lines (committed m rs) (start_lines m) (ends_in (accepted_in m rs)) (keeps_lines (written_in m rs)) (start_length m) (start_lines_lem m bm))

pub stores_bytes : StoresBytes
unfolding expected writes_in
stores_bytes m rs bm br =
    let f = run_fits rs (fresh m) [] [] (refl, refl) in
    record {
      masked = f.1;
      current = λ x j i low. rw (current_memory m rs bm, f.0) (all_byte x j i low (written_in m rs) (start_lines m) (start_length m) (start_lines_lem m bm));
      recovered = λ x j i low. rw f.0
          (ended_byte x j i low (committed m rs) (written_in m rs) (start_lines m) (ends_in (accepted_in m rs)) (start_length m) (start_lines_lem m bm));
    }
