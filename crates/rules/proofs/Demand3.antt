-- Demand 3, and that a saved image reads back: from what every list of records keeps.
use Rattle.undo.specs.Machine as u
use Rattle.undo.specs.History as v
use Rattle.undo.specs.Claim.{Reach}
use Rattle.undo.proofs.Main.{closes}
use Rattle.rules.proofs.Sim.State.{Kept, Rest, Sim, Simulated, by}
use Rattle.rules.proofs.Sim.Looks.{reach}
use Rattle.rules.specs.History.{accepted_in, committed, draws_on, expected, expected_bytes, uses_in}
use Prim.Native.Nat.{◌-◌, ℕ}
use mathlib.Core.Path.{◌∙◌, ◌≡◌, sym}
use mathlib.Core.Logic.{◌≢◌, ⊎_elim}
use mathlib.Core.Bool.{true}
use mathlib.Core.List.{List}
use lib.Dec.{eqb}
use lib.ListN.{length}
use native.Mathlib.Omega.{arith}
use borrow.Author.Tests.{eqb-true}
use Rattle.rules.proofs.Codec.Back.{image_read, reads_back}
use Rattle.rules.proofs.Commits.{CommitsTold, commits_told}
use Rattle.rules.proofs.Cuts.{cut_is}
use Rattle.rules.proofs.Recover.Entries.{entries_read}
use Rattle.rules.proofs.Recover.Expected.{committed_done, expected_length, expected_same}
use Rattle.rules.proofs.Recover.Sound.{sound}
use Rattle.rules.proofs.Recover.Steps.{acts_stand, cut_stands, memory_found_lem, pass_finishes, start_stands, step_accepted, step_ended, step_stands, walked_length}
use Rattle.rules.proofs.Recover.Valid.{saved_valid}
use Rattle.rules.specs.Acknowledge.{kept}
use Rattle.rules.specs.Claim.{Demand3, Holds, ReadsBack, board_after, entries_in, is_byte_memory, pass_length, recovering}
use Rattle.rules.specs.Image.{image, saved}
use Rattle.rules.specs.Reader.{Reads, read_image}
use Rattle.rules.specs.Recovery.{Act, restore}
use Rattle.rules.specs.Tables.{Memory, line_of, start_lines}
use Rattle.undo.proofs.Laws.{and_true}
use Rattle.undo.proofs.Shape.{rest}

-- what is proved of the events: after every list of records some state of the undo log has the board's tables
abbrev pub EveryKept : Type 0
EveryKept = (m : Memory) (rs : List (List ℕ)) → is_byte_memory m ≡ true → Kept m (board_after m rs) (accepted_in m rs)

module _ (m : Memory) (rs : List (List ℕ)) (told : CommitsTold m rs) {s : u.State (List ℕ)} {h : v.History (List ℕ)}
    (rc : Reach (λ l. line_of l (start_lines m)) s h) (i : Sim (board_after m rs) (accepted_in m rs) s h) where
  -- what a committed region drew on had committed
  closed_by : (k q : ℕ) → draws_on k q (uses_in (accepted_in m rs)) ≡ true → q ≢ 0 → committed m rs k ≡ true → committed m rs q ≡ true
  closed_by k q e n d =
      committed_done m rs told rc i q
      ∙ ⊎_elim
      (λ p. closes (λ l. line_of l (start_lines m)) s h rc k q p (sym (committed_done m rs told rc i k) ∙ d))
      (λ p. p)
      (i.told.uses k q e n)

  entries_held : (board_after m rs).tables.cut ≡ true → length (saved (board_after m rs)).log ≡ entries_in 0 (image (board_after m rs))
  unfolding image
  entries_held cut = let b = board_after m rs in entries_read (image b) (saved b) (reads_back (saved b) (saved_valid rc i (i.shape.cut_setup cut)))

  holds : Rest (board_after m rs) → (board_after m rs).tables.cut ≡ true → (as' : List Act) → Holds m rs as'
  unfolding expected_bytes
  holds rest cut as' =
      let up = i.shape.cut_setup cut in
      let quiet = sound rc i rest in
      let p = acts_stand rc i up quiet as' (start_stands rc i up quiet) in
      let w = walked_length rc i up quiet in
      record {
        accepts = step_accepted rc i up quiet p;
        recovers = λ f. memory_found_lem rc i up quiet (expected m rs) (expected_length m rs) (expected_same m rs told rc i) (step_stands rc i up quiet p)
            (step_ended rc i up quiet p (eqb-true (restore (recovering m rs as')).answer.value 0
            (and_true (eqb (restore (recovering m rs as')).answer.refusal 0) (eqb (restore (recovering m rs as')).answer.value 0) f).1))
            ∙ rw (i.told.lines up);
        finishes = pass_finishes rc i up quiet (pass_length m rs - 1) (cut_stands rc i up quiet p) (omega (arith, entries_held cut));
        closed = closed_by;
      }

  reads_it : Rest (board_after m rs) → (board_after m rs).tables.cut ≡ true → read_image (image (board_after m rs)) ≡ Reads (saved (board_after m rs))
  unfolding image
  reads_it rest cut =
      image_read (saved (board_after m rs)) (saved_valid rc i (i.shape.cut_setup cut)) (sound rc i rest)

pub demand3 : EveryKept → Demand3
demand3 kept m rs as' bm br cut = go (kept m rs bm).simulated
  where
    go : Simulated m (board_after m rs) (accepted_in m rs) → Holds m rs as'
    go (by s h w i) = holds m rs (commits_told m rs bm) (reach w) i (kept m rs bm).rest (cut_is m rs ∙ cut) as'

pub reads_back_all : EveryKept → ReadsBack
reads_back_all kept m rs bm br cut = go (kept m rs bm).simulated
  where
    go : Simulated m (board_after m rs) (accepted_in m rs) → read_image (image (board_after m rs)) ≡ Reads (saved (board_after m rs))
    go (by s h w i) = reads_it m rs (commits_told m rs bm) (reach w) i (kept m rs bm).rest (cut_is m rs ∙ cut)
