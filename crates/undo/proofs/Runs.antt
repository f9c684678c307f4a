-- The runs P1 and P2 of document 01 as lists of actions (the read that is refused is none): the side conditions can be met, and what the theorem
-- promises is 7 in both. Region 0 writes 7 to line 0 and ends, region 1 writes 9 to it and ends. Lines hold numbers.
-- Assumes nothing.
use Prim.Native.Nat.{ℕ}
use mathlib.Core.Path.{◌≡◌, refl}
use mathlib.Core.Bool.{cond, true≢false, false≢true}
use mathlib.Core.List.{List, [], ◌∷◌, ◌++◌}
use lib.Dec.{eqb}
use Rattle.undo.specs.Machine.{State, Action, Begin, Depend, First, Fly, LogAck, DataAck, End, Commit, begins, depends, firsts, flies, log_acks, data_acks, ends, commits, fresh, act}
use Rattle.undo.specs.History.{History, empty, note, expected, applied, effects}
use Rattle.undo.specs.Claim.{Reach, start, acts, notes, Run, stop, step}
use Rattle.undo.specs.Recovery.{Undo, Image, Agree, next, finished, undo}
use Rattle.undo.proofs.Laws.{test}
use Rattle.undo.proofs.Steps.{runs}
use Rattle.undo.proofs.Main.{recovers}

zeros : ℕ → ℕ
zeros l = 0

-- ---- both: region 0 writes 7, its log entry is acknowledged, it ends and its data flies; region 1 writes over it and ends

actions : List (Action ℕ)
actions =
    Begin 0
    ∷ (First 0 0 (λ x. 7) ∷ (Begin 1 ∷ (LogAck 0 0 ∷ (End 0 ∷ (Fly 0 0 ∷ (Depend 1 0 ∷ (First 1 0 (λ x. 9) ∷ (End 1 ∷ []))))))))

unfoldable written : State ℕ
unfolding actions
written = acts (fresh zeros) actions

unfoldable told : History ℕ
unfolding actions
told = notes empty actions

actions_run : Run (fresh zeros) actions
unfolding actions act
actions_run =
    step (begins {r = 0})
    (step (firsts {r = 0} {l = 0} {f = λ x. 7} (record { began = refl; goes_on = refl }) refl refl)
    (step (begins {r = 1})
    (step (log_acks {r = 0} {l = 0} refl refl)
    (step (ends {r = 0} (record { began = refl; goes_on = refl }))
    (step (flies {r = 0} {l = 0} refl refl)
    (step (depends {r = 1} {q = 0} (record { began = refl; goes_on = refl }) refl refl)
    (step (firsts {r = 1} {l = 0} {f = λ x. 9} (record { began = refl; goes_on = refl }) refl refl)
    (step (ends {r = 1} (record { began = refl; goes_on = refl })) stop))))))))

written_reached : Reach zeros written told
unfolding written told
written_reached = runs actions_run start

-- ---- P1: the flight of region 0 lands, and it commits

unfoldable landed : State ℕ
landed = act (act written (DataAck 0 0 7)) (Commit 0)

landed_reached : Reach zeros landed (note (note told (DataAck 0 0 7)) (Commit 0))
unfolding landed actions written act
landed_reached =
    runs
    (step (data_acks {r = 0} {l = 0} {v = 7} refl)
    (step (commits {r = 0} refl (λ l. test (eqb l 0) (λ d. rw d) (λ d. rw d)) (λ q. refl)) stop))
    written_reached

-- so the theorem speaks of a state in which region 0 is committed and region 1 is not: what it promises there is 7
landed_expected : expected zeros landed (note (note told (DataAck 0 0 7)) (Commit 0)) 0 ≡ 7
unfolding actions landed written told act note applied effects
landed_expected = refl

-- ---- P2: the log acknowledgement comes instead; it drops the flight, region 0 commits, and its value stands in the entry of region 1

unfoldable dropped : State ℕ
dropped = act (act written (LogAck 1 0)) (Commit 0)

dropped_reached : Reach zeros dropped (note (note told (LogAck 1 0)) (Commit 0))
unfolding dropped actions written act
dropped_reached =
    runs
    (step (log_acks {r = 1} {l = 0} refl refl)
    (step (commits {r = 0} refl (λ l. test (eqb l 0) (λ d. rw d) (λ d. rw d)) (λ q. refl)) stop))
    written_reached

-- its image: region 1, with the entry that puts 7 back
entries : List (Undo ℕ)
entries = record { line = 0; old = 7 } ∷ []

image : Image dropped (1 ∷ []) (λ r. cond (eqb r 1) entries [])
unfolding entries dropped actions written act
image = record {
  all = λ r b d. test (eqb r 1)
      (λ p. rw p)
      (λ p. test (eqb r 0) (λ q. absurd (true≢false (rw q at d))) (λ q. absurd (false≢true (rw (p, q) at b))));
  order = next refl (λ a k. absurd (false≢true k)) finished;
  entries = λ r l. test (eqb l 0)
      (λ p. test (eqb r 1) (λ q. simp (p, q)) (λ q. simp (p, q)))
      (λ p. test (eqb r 1) (λ q. simp (p, q)) (λ q. simp (p, q)));
}

-- the theorem at this image: from every memory, torn or not, that agrees with the zeros of the medium on the other lines
dropped_found : (a : ℕ → ℕ) → Agree dropped a dropped.med → undo (entries ++ []) a 0 ≡ 7
unfolding entries zeros dropped actions written told act note applied effects
dropped_found a ag = recovers zeros dropped _ (1 ∷ []) (λ r. cond (eqb r 1) entries []) dropped_reached image a ag 0
