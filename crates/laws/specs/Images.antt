-- Laws about images of any content, saved by a board or not. Their proofs stand in proofs/.
use Rattle.std.specs.Prelude.{◌+◌, ◌<◌, ◌≤◌, ℕ, ◌≡◌, ◌≢◌, Bool, ◌&&◌, true, List, [], ◌∷◌, eqb, leb, get_or, length}
use Rattle.rules.specs.Claim.{entries_in, is_byte}
use Rattle.rules.specs.Image.{Logged, Persistent, no_logged}
use Rattle.rules.specs.Lists.{all, count}
use Rattle.rules.specs.Reader.{Reads, read_image}
use Rattle.rules.specs.Recovery.{is_finished, recovery_call, restore}
use Rattle.rules.specs.Walk.{walk_entries}
use Rattle.rules.specs.declared.Answer.{Answer}
use Rattle.undo.specs.Table.{is_in}

-- "Image order: each record in turn 1 if nothing is left, 2, 7 for place, 1, 6, 3, 4, 7 for keys and counts; then 7 for bytes after the end; then 8"
abbrev pub is_image_refusal : ℕ → Bool
is_image_refusal n = is_in n (1 ∷ 2 ∷ 3 ∷ 4 ∷ 6 ∷ 7 ∷ 8 ∷ [])

-- an answer to a recovery step
pub record Answers (a : Answer) : Type 0 where
  pub known : a.refusal ≢ 0 → is_image_refusal a.refusal ≡ true
  -- "'more' (value 1) .., else 'finished' (value 0)"
  pub small : a.value ≤ 1
  pub silent : a.refusal ≢ 0 → a.value ≡ 0

-- of a step at any place, and of the call with any bytes as its place
abbrev pub RecoveryAnswers : Type 0
RecoveryAnswers = (bs : List ℕ) → ((n : ℕ) → Answers (restore (record { bytes = bs; at = n })).answer) × ((at : List ℕ) → Answers (recovery_call bs at).answer)

-- ---- "a circle" is refused, so the walk takes every region and has every log entry once

abbrev pub logged_is : ℕ → Persistent → Logged
logged_is i p = get_or p.log i no_logged

-- a region logs a line once: the two tell which entry it is
abbrev pub is_entry : Logged → Logged → Bool
is_entry a b = eqb a.key b.key && eqb a.line b.line

pub record WholeWalk (p : Persistent) : Type 0 where
  -- by whatever test, as many entries of the walk pass as of the log
  pub whole : (f : Logged → Bool) → count f (walk_entries p) ≡ count f p.log
  -- the log's entry at place i is in the walk, and once
  pub once : (i : ℕ) → i < length p.log → count (is_entry (logged_is i p)) (walk_entries p) ≡ 1

abbrev pub WalkWhole : Type 0
WalkWhole = (bs : List ℕ) (p : Persistent) → all is_byte bs ≡ true → read_image bs ≡ Reads p → WholeWalk p

-- "'more' (value 1) while entries remain after it, else 'finished'": an accepted step says 'finished' exactly if the image holds no entry behind its own
abbrev pub FinishedLast : Type 0
FinishedLast = (bs : List ℕ) (n : ℕ) → all is_byte bs ≡ true → (restore (record { bytes = bs; at = n })).answer.refusal ≡ 0
    → is_finished (restore (record { bytes = bs; at = n })).answer ≡ leb (entries_in 0 bs) (n + 1)
