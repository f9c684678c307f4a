-- The answers of a recovery step, on an image of any content.
use Prim.Native.Nat.{ℕ}
use mathlib.Core.Path.{◌≡◌, refl}
use mathlib.Core.Bool.{true}
use mathlib.Core.List.{List, [], ◌∷◌}
use lib.Dec.{eqb}
use lib.ListN.{length}
use native.Mathlib.Omega.{arith}
use Rattle.laws.specs.Images.{Answers, RecoveryAnswers, is_image_refusal}
use Rattle.rules.proofs.Codec.Refusals.{ImageRefusals, image_refuses, refuses_by}
use Rattle.rules.specs.Bytes.{num_of}
use Rattle.rules.specs.Image.{Logged, Persistent}
use Rattle.rules.specs.Reader.{Reads, Refuses, Verdict, read_image}
use Rattle.rules.specs.Recovery.{Recovering, recovery_call, restore, restore_by, restore_read}
use Rattle.undo.proofs.Laws.{test}

pub listed : ImageRefusals is_image_refusal
listed = record { one = refl; two = refl; three = refl; four = refl; six = refl; seven = refl; eight = refl }

pub refuses_well : (bs : List ℕ) → refuses_by is_image_refusal (read_image bs) ≡ true
refuses_well bs = image_refuses is_image_refusal listed bs

-- ---- the step

by_answers : (es : List Logged) (r : Recovering) → Answers (restore_by es r).answer
unfolding restore_by
by_answers [] r = record { known = λ n. absurd (n refl); small = omega arith; silent = λ n. refl }
by_answers (e ∷ es) r =
    record {
      known = λ n. absurd (n refl);
      small = test (eqb (length es) 0) (λ a. rw a (omega arith)) (λ a. rw a (omega arith));
      silent = λ n. absurd (n refl);
    }

pub read_answers : (v : Verdict Persistent) (r : Recovering) → refuses_by is_image_refusal v ≡ true → Answers (restore_read v r).answer
read_answers (Refuses n) r e = record { known = λ z. e; small = omega arith; silent = λ z. refl }
read_answers (Reads p) r e = by_answers _ r

step_answers : (r : Recovering) → Answers (restore r).answer
unfolding restore
step_answers r = read_answers (read_image r.bytes) r (refuses_well r.bytes)

call_answers : (bs at : List ℕ) → Answers (recovery_call bs at).answer
unfolding recovery_call
call_answers bs at =
    test (eqb (length at) 8) (λ a. rw a (step_answers (record { bytes = bs; at = num_of at })))
    (λ a. rw a (record { known = λ z. refl; small = omega arith; silent = λ z. refl }))

pub recovery_answers : RecoveryAnswers
recovery_answers bs = (λ n. step_answers (record { bytes = bs; at = n }), call_answers bs)
