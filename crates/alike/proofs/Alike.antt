-- Recovery of the new image is that of the old one, act by act; so demand 3 and the promise for torn stores hold of it.
use Prim.Native.Nat.{◌-◌, suc, zero, ℕ}
use mathlib.Core.Path.{◌∙◌, ◌≡◌, ap, refl, sym}
use mathlib.Core.Bool.{Bool, true}
use mathlib.Core.List.{List, [], ◌∷◌}
use lib.Dec.{eqb}
use lib.ListN.{length, replicate}
use native.Mathlib.Omega.{arith}
use Rattle.headed.proofs.Main.{saved_both, unless_stopped}
use Rattle.headed.proofs.Refusals.{headed_refuses}
use Rattle.headed.specs.Image.{image_headed}
use Rattle.headed.specs.Reader.{read_headed}
use Rattle.headed.specs.Recovery.{recovery_call_as, recovery_headed_call, restore_as, restore_headed}
use Rattle.laws.proofs.Answers.{listed, read_answers}
use Rattle.laws.specs.Images.{Answers, is_image_refusal}
use Rattle.rules.proofs.Codec.Back.{image_read, reads_back}
use Rattle.rules.proofs.Codec.Records.{not_reads}
use Rattle.rules.proofs.Cuts.{cut_is}
use Rattle.rules.proofs.Recover.Entries.{entries_read}
use Rattle.rules.proofs.Recover.Sound.{sound}
use Rattle.rules.proofs.Sim.All.{every}
use Rattle.rules.proofs.Sim.Looks.{reach}
use Rattle.rules.proofs.Sim.State.{Simulated, by}
use Rattle.rules.specs.Bytes.{num_of}
use Rattle.rules.specs.Claim.{board_after, is_byte_memory, pass_length, restores}
use Rattle.rules.specs.Contradiction.{contradicts}
use Rattle.rules.specs.History.{accepted_in}
use Rattle.rules.specs.Image.{encode, image, saved}
use Rattle.rules.specs.Reader.{read_image}
use Rattle.rules.specs.Recovery.{Recovering, act, is_finished, restore, restore_read}
use Rattle.rules.specs.Tables.{Memory}
use Rattle.torn.proofs.Choices.{none_torn}
use Rattle.torn.proofs.Torn.{tear_place, torn_recovery, torn_valid}
use Rattle.torn.specs.Torn.{Between, Inside, TornAct, TornHolds, Whole, torn_act, torn_acts, torn_image, torn_read, torn_state}
use Rattle.undo.proofs.Laws.{test}
use Rattle.alike.specs.Alike.{HeadedHolds, HeadedRecovery, headed_act, headed_acts, headed_pass, torn_headed}
use Rattle.alike.proofs.Entries.{entries_under_lem}
use Rattle.alike.proofs.Forms.{Forms, forms, same_lines, same_step, same_tear}

-- ---- act by act

-- an old and a new image of one state, at one place
pub record Beside (r q : Recovering) : Type 0 where
  pub bytes : Forms r.bytes q.bytes
  pub at : q.at ≡ r.at

module _ {r q : Recovering} (b : Beside r q) where
  pub answers_same : (restore_headed q).answer ≡ (restore r).answer
  answers_same = rw b.at (same_step r.at b.bytes).answer

  pub step_beside : Beside (restore r).after (restore_headed q).after
  step_beside = let s = same_step r.at b.bytes in rw b.at (record { bytes = s.bytes; at = s.at })

  pub act_beside : (c : TornAct) → Beside (torn_act r c) (headed_act q c)
  unfolding torn_act headed_act act
  act_beside Whole = step_beside
  act_beside Between = record { bytes = b.bytes; at = refl }
  act_beside (Inside p) =
      record {
        bytes = rw b.at (same_tear r.at p b.bytes);
        at = tear_place p (read_headed q.bytes) q ∙ sym (tear_place p (read_image r.bytes) r);
      }

pub acts_beside : {r q : Recovering} (as' : List TornAct) → Beside r q → Beside (torn_acts r as') (headed_acts q as')
unfolding torn_acts headed_acts
acts_beside [] b = b
acts_beside {r = r} {q = q} (c ∷ as') b = acts_beside {r = torn_act r c} as' (act_beside b c)

pub steps_beside : {r q : Recovering} (n : ℕ) → Beside r q → Beside (restores n r) (headed_acts q (replicate n Whole))
unfolding restores headed_acts headed_act
steps_beside zero b = b
steps_beside {r = r} {q = q} (suc n) b = steps_beside {r = (restore r).after} n (step_beside b)

-- ---- the old image by the new step

reads_same : {bs cs : List ℕ} → Forms bs cs → read_headed bs ≡ read_image bs
reads_same (forms p v c e f) = let r = image_read p v c in unless_stopped _ (λ z. not_reads {q = p} (sym z ∙ rw e r))

act_same : {r q : Recovering} (c : TornAct) → Beside r q → headed_act r c ≡ torn_act r c
unfolding headed_act torn_act act restore_as restore
act_same {r} Whole b = ap (λ v. (restore_read v r).after) (reads_same b.bytes)
act_same Between b = refl
act_same {r} (Inside p) b = ap (λ v. torn_read p v r) (reads_same b.bytes)

acts_same : {r q : Recovering} (as' : List TornAct) → Beside r q → headed_acts r as' ≡ torn_acts r as'
unfolding headed_acts torn_acts
acts_same [] b = refl
acts_same {r = r} {q = q} (c ∷ as') b = rw (act_same c b) (acts_same {r = torn_act r c} as' (act_beside b c))

-- ---- the promise

module _ (m : Memory) (rs : List (List ℕ)) (bm : is_byte_memory m ≡ true) (cut : (board_after m rs).tables.cut ≡ true) where
  -- the state that a choice of words leaves fits, and does not contradict itself
  pub start_beside : (p : ℕ → ℕ → Bool) → Beside (record { bytes = torn_image p (board_after m rs); at = 0 }) (record { bytes = torn_headed p (board_after m rs); at = 0 })
  unfolding torn_image torn_headed torn_state contradicts
  start_beside p = go (every m rs bm).simulated
    where
      go : Simulated m (board_after m rs) (accepted_in m rs) → Beside (record { bytes = torn_image p (board_after m rs); at = 0 }) (record { bytes = torn_headed p (board_after m rs); at = 0 })
      go (by s h w i) =
          let rc = reach w in
          let up = i.shape.cut_setup cut in
          let quiet = sound rc i (every m rs bm).rest in
          record { bytes = forms (torn_state p (board_after m rs)) (torn_valid rc i up quiet p) quiet refl refl; at = refl }

  -- a pass over either has as many steps
  pub same_pass : headed_pass m rs ≡ pass_length m rs
  unfolding image image_headed
  same_pass =
      let b = saved_both m rs bm cut in
      let p = saved (board_after m rs) in
      rw (entries_under_lem p b.0, ← entries_read (encode p) p (reads_back p b.0))

  holds : (p : ℕ → ℕ → Bool) (as' : List TornAct) → TornHolds m rs p as' → HeadedHolds m rs p as'
  holds p as' h =
      let b = acts_beside as' (start_beside p) in
      let a = answers_same b in
      record {
        accepts = ap (λ x. x.refusal) a ∙ h.accepts;
        recovers = λ f. same_lines (step_beside b).bytes ∙ h.recovers (sym (ap is_finished a) ∙ f);
        finishes = λ c e. rw same_pass (ap is_finished (answers_same (steps_beside (pass_length m rs - 1) (act_beside b c))) ∙ h.finishes c e);
        closed = h.closed;
        alike = record { at = b.at; lines = same_lines b.bytes; answer = a };
        either = acts_same as' (start_beside p);
      }

-- ---- any bytes

step_answers : (r : Recovering) → Answers (restore_headed r).answer
unfolding restore_as
step_answers r = read_answers (read_headed r.bytes) r (headed_refuses is_image_refusal listed true r.bytes)

call_answers : (bs at : List ℕ) → Answers (recovery_headed_call bs at).answer
unfolding recovery_call_as
call_answers bs at =
    test (eqb (length at) 8) (λ a. rw a (step_answers (record { bytes = bs; at = num_of at })))
    (λ a. rw a (record { known = λ z. refl; small = omega arith; silent = λ z. refl }))

pub headed_recovery : HeadedRecovery
unfolding torn_headed torn_state image_headed
headed_recovery =
    record {
      holds = λ m rs p as' bm br cut. holds m rs bm (cut_is m rs ∙ cut) p as' (torn_recovery m rs p as' bm br cut);
      none = λ b. rw (none_torn b 0 (saved b).medium);
      answers = λ bs. (λ n. step_answers (record { bytes = bs; at = n }), call_answers bs);
    }
