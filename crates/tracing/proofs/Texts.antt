-- The text of an event: how it is put where there is room, and how long it is.
use Prim.Native.Nat.{◌+◌, ◌≤◌, suc, ℕ}
use mathlib.Core.Path.{◌∙◌, ◌≡◌, ap}
use mathlib.Core.Bool.{cond, false}
use mathlib.Core.List.{List, [], ◌∷◌}
use lib.Dec.{eqb}
use lib.ListN.{get_or, length, length-append, length-set, set}
use lib.Seq.{sets}
use native.Mathlib.Omega.{arith}
use native.Mathlib.Nat.{add-suc, add-zero, suc-add}
use native.Mathlib.Numerals.{add-one}
use borrow.Author.Tests.{lt-ltb}
use Rattle.output.proofs.Digits.{either_short}
use Rattle.output.specs.Room.{Room, put, puts, room}
use Rattle.output.specs.declared.Cursor.{Cursor}
use Rattle.rules.specs.Step.{Stepped, step}
use Rattle.rules.specs.declared.Board.{Board}
use Rattle.tracing.proofs.Saved.{cut_short}
use Rattle.tracing.specs.Results.{Put}
use Rattle.tracing.specs.Text.{behind_text, event_text, longest_text, told_text}
use Rattle.wording.proofs.Texts.{answer_short}
use Rattle.wording.specs.Text.{answer_text, cut_text}

-- ---- what stands behind an answer

module _ (k : ℕ) (s : Stepped) where
  behind_short : length (behind_text k s) ≤ 133120
  unfolding behind_text
  behind_short =
      let x = cond (eqb s.answer.refusal 0) (cut_text s.board) [] in
      either_short (eqb k 8) x [] 133120
      (either_short (eqb s.answer.refusal 0) (cut_text s.board) [] 133120 (cut_short s.board) (omega arith))
      (omega arith)

-- ---- bytes for which there is room

puts_fit : (d bs : List ℕ) (at : ℕ) → at + length bs ≤ length d
    → puts (room d (record { at = at; short = false })) bs ≡ room (sets d at bs) (record { at = at + length bs; short = false })
unfolding puts put room
puts_fit d [] at h = rw add-zero
puts_fit d (b ∷ bs) at h =
    let l : suc at + length bs ≤ length (set d at b) = rw (length-set d at b) (omega arith) in
    rw (lt-ltb at (length d) (omega arith), add-one at) (rw (add-suc at (length bs), ← suc-add at (length bs)) (puts_fit (set d at b) bs (suc at) l))

-- what an event gives, and its kind, make its text, which is put whole where the longest one has room
pub event_put : (b : Board) (bs d d' : List ℕ) (at : ℕ) (c : Cursor) (s : Stepped) (k : ℕ) → s ≡ step b bs → k ≡ get_or bs 0 0 → at + longest_text ≤ length d
    → room d' c ≡ puts (room d (record { at = at; short = false })) (told_text k s) → Put d d' at c.at (event_text b bs)
unfolding event_text room
event_put b bs d d' at c s k e f h p =
    let l : at + length (told_text k s) ≤ length d =
    omega (arith, length-append (answer_text k s.answer) (behind_text k s), answer_short k s.answer, behind_short k s) in
    let g = p ∙ puts_fit d (told_text k s) at l in
    rw (← e, ← f) (ap (λ (r : Room). r.buffer) g, ap (λ (r : Room). r.cursor.at) g)
