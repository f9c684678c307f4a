-- The bytes of a file are those of its records; what an accepted and a refused save give; what is then true of a drill.
use Prim.Native.Nat.{◌+◌, ◌<◌, ◌≤◌, suc, ℕ}
use mathlib.Core.Bool.{Bool, ◌&&◌, false, true}
use mathlib.Core.List.{List, ◌++◌}
use mathlib.Core.Logic.{◌≢◌}
use mathlib.Core.Path.{◌∙◌, ◌≡◌, ap, refl, sym}
use lib.Dec.{leb}
use lib.ListN.{drop, drop_of_length-le, get_or, length, length-append, length-take, take}
use lib.Seq.{drop-append_seam, drop-cons, take-append_seam}
use native.Mathlib.Nat.{zero-add}
use native.Mathlib.Omega.{arith}
use Rattle.rules.proofs.Cuts.{cut_is}
use Rattle.rules.proofs.Laws.{records_bytes}
use Rattle.rules.specs.Bytes.{paste}
use Rattle.rules.specs.Claim.{board_after, is_byte}
use Rattle.rules.specs.History.{memory_found}
use Rattle.rules.specs.Image.{image, image_call, save}
use Rattle.rules.specs.Lists.{all}
use Rattle.rules.specs.Record.{records_of}
use Rattle.rules.specs.Recovery.{Recovering, Restored, act, is_finished, restore}
use Rattle.rules.specs.Refusal.{is_set_up}
use Rattle.rules.specs.Run.{Wrote, wrote_into}
use Rattle.rules.specs.Tables.{Lent, Memory}
use Rattle.rules.specs.declared.Board.{Board}
use Rattle.rules.specs.declared.Answer.{Answer}
use Rattle.torn.proofs.Choices.{at_the_cut}
use Rattle.torn.proofs.Torn.{cut_place, torn_recovery}
use Rattle.torn.specs.Torn.{Between, Inside, Whole, TornHolds, torn_act, torn_acts, torn_recovering}
use Rattle.undo.proofs.Laws.{and_true, test}
use Rattle.drill.specs.Drilled.{Drilled, Recovered, Step, TornFrom, act_of, acts_of, after_acts, ended, last_step, step_of, stepped}

-- ---- acts one by one

module _ (r : Recovering) where
  pub act_between : ◌≡◌ {A = Recovering} (record { bytes = r.bytes; at = 0 }) (torn_act r Between)
  unfolding torn_act act
  act_between = refl

  pub act_step : (restore r).after ≡ torn_act r Whole
  unfolding torn_act act
  act_step = refl

  pub act_inside : (p : ℕ → Bool) → ◌≡◌ {A = Recovering} (record { bytes = (torn_act r (Inside p)).bytes; at = 0 }) (torn_act r (Inside p))
  act_inside p =
      let z : (torn_act r (Inside p)).at ≡ 0 = cut_place r (Inside p) refl in
      λ i. record { bytes = (torn_act r (Inside p)).bytes; at = sym z i }

  module _ (as' : List ℕ) (i : ℕ) where
    pub acts_more : i < length as' → (s : Recovering) → s ≡ torn_act r (act_of (get_or as' i 0)) → torn_acts s (acts_of (drop (i + 1) as')) ≡ torn_acts r (acts_of (drop i as'))
    unfolding torn_acts
    acts_more h s e = let n : i + 1 ≡ suc i = omega arith in rw (n, e, drop-cons as' i 0 h)

    pub acts_none : length as' ≤ i → torn_acts r (acts_of (drop i as')) ≡ r
    unfolding torn_acts
    acts_none h = rw (drop_of_length-le as' h)

-- ---- acts and one more step, on a torn image

pub recovered_right : (bs as' e : List ℕ) (r : Answer) → stepped r e ≡ last_step bs as' → Recovered bs as' e r
recovered_right bs as' e r s =
    record {
      steps = s;
      accepts = λ m rs p t. ap (λ (x : Step). x.answer.refusal) (s ∙ begun m rs p t) ∙ (holds m rs p t).accepts;
      recovers = λ m rs p t f. ap (λ (x : Step). memory_found x.bytes) (s ∙ begun m rs p t)
          ∙ (holds m rs p t).recovers (sym (ap (λ (x : Step). is_finished x.answer) (s ∙ begun m rs p t)) ∙ f);
    }
  where
    holds : (m : Memory) (rs : List (List ℕ)) (p : ℕ → ℕ → Bool) → TornFrom m rs p bs → TornHolds m rs p (acts_of as')
    holds m rs p t = torn_recovery m rs p (acts_of as') t.memory t.records t.cut

    begun : (m : Memory) (rs : List (List ℕ)) (p : ℕ → ℕ → Bool) → TornFrom m rs p bs → last_step bs as' ≡ step_of (restore (torn_recovering m rs p (acts_of as')))
    begun m rs p t = ap (λ x. last_step x as') t.image

-- ---- an image at the start of a buffer

-- a part that lies in the buffer has its whole length
pub part_long : (n : ℕ) (d : List ℕ) → n ≤ length d → n ≡ length (take n d)
part_long n d h = simp length-take (omega arith)

take_image : (d bs : List ℕ) → take (length bs) (paste d 0 bs) ≡ bs
take_image d bs = rw (zero-add (length bs)) (take-append_seam bs (drop (length bs) d))

drop_image : (d bs : List ℕ) → drop (length bs) (paste d 0 bs) ≡ drop (length bs) d
drop_image d bs = rw (zero-add (length bs)) (drop-append_seam bs (drop (length bs) d))

image_fits : (d bs : List ℕ) → length bs ≤ length (paste d 0 bs)
image_fits d bs = omega (arith, length-append bs (drop (0 + length bs) d))

module _ (b : Board) (d : List ℕ) where
  abbrev whole : Wrote
  whole = record { answer = record { refusal = 0; value = length (image b) }; buffer = paste d 0 (image b) }

  -- a save is accepted after a cut alone
  save_accepted : (save b d).answer.refusal ≡ 0 → (b.tables.cut ≡ true) × (save b d ≡ whole)
  unfolding save wrote_into
  save_accepted e =
      test (is_set_up b.tables && b.tables.cut)
      (λ t. test (leb (length (image b)) (length d))
      (λ f. ((and_true (is_set_up b.tables) b.tables.cut t).1, rw (t, f)))
      (λ f. let z : ◌≡◌ {A = ℕ} 6 0 = rw (t, f) at e in absurd (omega arith)))
      (λ t. let z : ◌≡◌ {A = ℕ} 6 0 = rw t at e in absurd (omega arith))

  save_refused : (save b d).answer.refusal ≢ 0 → (save b d).buffer ≡ d
  unfolding save wrote_into
  save_refused n =
      test (is_set_up b.tables && b.tables.cut)
      (λ t. test (leb (length (image b)) (length d))
      (λ f. absurd (n (rw (t, f))))
      (λ f. rw (t, f)))
      (λ t. rw t)

-- ---- a drill

module _ (file memory as' d e : List ℕ) (a : Answer) (q : ◌≡◌ {A = Wrote} (record { answer = a; buffer = e }) (image_call file memory d)) where
  abbrev left : Board
  left = board_after (Lent memory) (records_of file)

  saving : ◌≡◌ {A = Wrote} (record { answer = a; buffer = e }) (save left d)
  unfolding image_call
  saving = q

  pub drill_refused : a.refusal ≢ 0 → Drilled file memory as' d e (record { saved = a; last = a })
  drill_refused n =
      record {
        saves = ap (λ (w : Wrote). w.answer) q;
        refuses = λ _. (ap (λ (w : Wrote). w.buffer) saving ∙ save_refused left d (λ z. n (ap (λ (w : Wrote). w.answer.refusal) saving ∙ z)), refl);
        restores = λ z. absurd (n z);
        answers = λ z. absurd (n z);
        accepts = λ z. absurd (n z);
        recovers = λ z. absurd (n z);
        holds = λ z. absurd (n z);
      }

  module _ (z : a.refusal ≡ 0) where
    accepted : (left.tables.cut ≡ true) × (save left d ≡ whole left d)
    accepted = save_accepted left d (sym (ap (λ (w : Wrote). w.answer.refusal) saving) ∙ z)

    size : a.value ≡ length (image left)
    size = ap (λ (w : Wrote). w.answer.value) (saving ∙ accepted.1)

    buffer : e ≡ paste d 0 (image left)
    buffer = ap (λ (w : Wrote). w.buffer) (saving ∙ accepted.1)

    -- the image lies in the buffer
    pub size_fits : a.value ≤ length e
    size_fits = rw (size, buffer) (image_fits d (image left))

    front : take a.value e ≡ image left
    front = rw (size, buffer) (take_image d (image left))

    back : drop a.value e ≡ drop a.value d
    back = rw (size, buffer) (drop_image d (image left))

    module _ (bf : all is_byte file ≡ true) (bm : all is_byte memory ≡ true) where
      holds : TornHolds (Lent memory) (records_of file) (λ l w. false) (acts_of as')
      holds = torn_recovery (Lent memory) (records_of file) (λ l w. false) (acts_of as') bm (records_bytes 0 file bf)
          (sym (cut_is (Lent memory) (records_of file)) ∙ accepted.0)

      -- with no word torn the acts begin on the image saved
      begun : restore (torn_recovering (Lent memory) (records_of file) (λ l w. false) (acts_of as')) ≡ ended file memory as'
      begun = ap (λ bs. restore (after_acts bs 0 as')) (at_the_cut left).none

      -- the buffer's front was lent, and holds zs behind the last step
      pub drill_accepted : (l : Answer) (zs : List ℕ) → length zs ≡ length (take a.value e) → stepped l zs ≡ last_step (take a.value e) as'
          → Drilled file memory as' d (zs ++ drop a.value e) (record { saved = a; last = l })
      drill_accepted l zs g h =
          let s : stepped l zs ≡ step_of (ended file memory as') = h ∙ ap (λ bs. last_step bs as') front in
          let bytes : zs ≡ (ended file memory as').after.bytes = ap (λ (x : Step). x.bytes) s in
          let n : a.value ≡ length zs = size ∙ sym (ap length front) ∙ sym g in
          let t : take a.value (zs ++ drop a.value e) ≡ zs = rw n (take-append_seam zs (drop (length zs) e)) in
          record {
            saves = ap (λ (w : Wrote). w.answer) q;
            refuses = λ f. absurd (f z);
            restores = λ _. ap (λ bs. bs ++ drop a.value e) bytes ∙ ap (λ bs. (ended file memory as').after.bytes ++ bs) back;
            answers = λ _. ap (λ (x : Step). x.answer) s;
            accepts = λ _. ap (λ (x : Step). x.answer.refusal) s ∙ (ap (λ (x : Restored). x.answer.refusal) (sym begun) ∙ holds.accepts);
            recovers = λ _ f. ap memory_found (t ∙ bytes) ∙ (ap (λ (x : Restored). memory_found x.after.bytes) (sym begun)
                ∙ holds.recovers (ap (λ (x : Restored). is_finished x.answer) begun ∙ (sym (ap (λ (x : Step). is_finished x.answer) s) ∙ f)));
            holds = λ _. holds;
          }
