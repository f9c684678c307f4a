-- What a save that is not refused tells, and the recovered words behind it.
use Rattle.rules.specs.Image.{image, save}
use Prim.Native.Nat.{◌≤◌, ℕ}
use mathlib.Core.Path.{◌∙◌, ◌≡◌, ap, sym}
use mathlib.Core.Bool.{◌&&◌}
use mathlib.Core.List.{List, []}
use lib.Dec.{eqb, leb}
use lib.ListN.{length, length-take, take}
use native.Mathlib.Omega.{arith}
use borrow.Author.Tests.{eq-eqb, eqb-true, leb-true, ne_eqb}
use Rattle.rules.specs.Refusal.{is_set_up}
use Rattle.rules.specs.Run.{Wrote, wrote_into}
use Rattle.rules.specs.declared.Board.{Board}
use Rattle.rules.specs.declared.Answer.{Answer}
use Rattle.rules.proofs.Codec.Turns.{size_lines}
use Rattle.wording.proofs.Texts.{memory_short}
use Rattle.wording.specs.Text.{cut_text, image_buffer, memory_text, recovered, recovered_text}
use Rattle.undo.proofs.Laws.{and_true, test}

into_fits : (bs d : List ℕ) → (wrote_into bs (length bs) d).answer.refusal ≡ 0 → (wrote_into bs (length bs) d).answer.value ≤ length d
unfolding wrote_into
into_fits bs d h =
    test (leb (length bs) (length d))
    (λ q. rw q (leb-true (length bs) (length d) q))
    (λ q. let z : ◌≡◌ {A = ℕ} 6 0 = rw q at h in absurd (omega arith))

fits_in : (b : Board) (d : List ℕ) → (save b d).answer.refusal ≡ 0 → (save b d).answer.value ≤ length d
unfolding save
fits_in b d h =
    test (is_set_up b.tables && b.tables.cut)
    (λ q. rw q (into_fits (image b) d (rw q at h)))
    (λ q. let z : ◌≡◌ {A = ℕ} 6 0 = rw q at h in absurd (omega arith))

-- the board is set up, so that it has at most 256 lines
few_lines : (b : Board) (d : List ℕ) → (save b d).answer.refusal ≡ 0 → b.tables.size.lines ≤ 256
unfolding save
few_lines b d h =
    test (is_set_up b.tables && b.tables.cut)
    (λ q. (size_lines b.tables.size.threads b.tables.size.lines (and_true (is_set_up b.tables) b.tables.cut q).0).1)
    (λ q. let z : ◌≡◌ {A = ℕ} 6 0 = rw q at h in absurd (omega arith))

module _ (b : Board) (d d' : List ℕ) (r : Answer) (e : ◌≡◌ {A = Wrote} (record { answer = r; buffer = d' }) (save b d)) where
  pub none_saved : (n : ℕ) → (r.refusal ≡ 0 → ⊥) → recovered_text n (save b d) ≡ []
  unfolding recovered_text
  none_saved n h = rw (← e, ne_eqb r.refusal 0 h)

  pub some_saved : (n : ℕ) → r.refusal ≡ 0 → recovered_text n (save b d) ≡ memory_text n (recovered (take r.value d'))
  unfolding recovered_text
  some_saved n h = rw (← e, eq-eqb r.refusal 0 h)

  module _ (h : r.refusal ≡ 0) where
    is_saved : (save b d).answer.refusal ≡ 0
    is_saved = ap (λ (w : Wrote). w.answer.refusal) (sym e) ∙ h

    -- the image fits the buffer
    pub saved_fits : r.value ≤ length d
    saved_fits = rw (ap (λ (w : Wrote). w.answer.value) e) (fits_in b d is_saved)

-- what recovery makes of a save is at most 256 lines of words
saved_short : (b : Board) (d : List ℕ) → length (recovered_text b.tables.size.lines (save b d)) ≤ 133120
unfolding recovered_text
saved_short b d =
    let s = save b d in
    let bs = recovered (take s.answer.value s.buffer) in
    test (eqb s.answer.refusal 0)
    (λ q. let l = few_lines b d (eqb-true s.answer.refusal 0 q) in rw q (omega (arith, memory_short b.tables.size.lines bs)))
    (λ q. rw q (omega arith))

pub cut_short : (b : Board) → length (cut_text b) ≤ 133120
unfolding cut_text
cut_short b = saved_short b image_buffer

pub taken : (n : ℕ) (l : List ℕ) → n ≤ length l → n ≡ length (take n l)
taken n l h = simp length-take (omega arith)
