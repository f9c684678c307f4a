-- Recovery over any list of entries: where the whole list leads from every memory that agrees with the medium on some lines, to which it puts nothing back, to one
-- goal, every pass does, wherever passes before it were cut.
-- Assumes nothing.
use Prim.Native.Nat.{ℕ, zero, suc, ◌≤◌}
use mathlib.Core.Path.{◌≡◌, sym, ◌∙◌}
use mathlib.Core.Bool.{false}
use mathlib.Core.List.{List, [], ◌∷◌, ◌++◌, append-eq-nil_iff}
use lib.Dec.{eqb}
use lib.ListN.{length, take, drop, drop_of_length-le, take-append-drop}
use Rattle.undo.specs.Table.{put}
use Rattle.undo.specs.Recovery.{Undo, aimed, undo, AgreeOn, TriedOn, at_cut, partly, torn, PlacedOn, begins, restores, cuts, tears}
use Rattle.undo.proofs.Laws.{test, cons_nil}
use Rattle.undo.proofs.Walk.{undo_at, aimed_append}

nil_head : {Val : Type 0} (l : ℕ) (u : Undo Val) (ws : List (Undo Val)) → aimed l (u ∷ ws) ≡ [] → eqb l u.line ≡ false
nil_head l u ws q = test (eqb l u.line) (λ d. absurd (cons_nil (rw d at q))) (λ d. d)

-- a line to which a list of entries puts nothing back
left : {Val : Type 0} (l : ℕ) (vs : List (Undo Val)) (a : ℕ → Val) → aimed l vs ≡ [] → undo vs a l ≡ a l
left l vs a n = undo_at l vs a ∙ rw n

drop_next : {A : Type 0} (n : ℕ) (w : List A) {u : A} {vs : List A} → drop n w ≡ u ∷ vs → drop (suc n) w ≡ vs
drop_next zero [] q = cc
drop_next zero (x ∷ w) q = cc
drop_next (suc n) [] q = cc
drop_next (suc n) (x ∷ w) q = drop_next n w q

module _ {Val : Type 0} (on : ℕ → Type 0) (m goal : ℕ → Val) (w : List (Undo Val)) (spared : (l : ℕ) → on l → aimed l w ≡ [])
    (whole : (a : ℕ → Val) → AgreeOn on a m → (l : ℕ) → undo w a l ≡ goal l) where
  -- ---- passes that are cut leave the spared lines

  parts_nil : (l : ℕ) (vs ws : List (Undo Val)) → w ≡ vs ++ ws → on l → (aimed l vs ≡ []) × (aimed l ws ≡ [])
  parts_nil l vs ws q n =
      (append-eq-nil_iff {p = aimed l vs} {q = aimed l ws}).0 (sym (aimed_append l vs ws) ∙ rw (← q) (spared l n))

  tried_agrees : {a : ℕ → Val} → TriedOn on m w a → AgreeOn on a m
  tried_agrees (at_cut ag) = ag
  tried_agrees (partly {a = a} vs ws q t) = λ l n. left l vs a (parts_nil l vs ws q n).0 ∙ tried_agrees t l n
  tried_agrees (torn {a = a} vs u ws x q t) = λ l n.
      let z = parts_nil l vs (u ∷ ws) q n in
      rw (nil_head l u ws z.1) (left l vs a z.0 ∙ tried_agrees t l n)

  -- the entry at a place is of another line
  head_nil : (l n : ℕ) (u : Undo Val) (vs : List (Undo Val)) → drop n w ≡ u ∷ vs → on l → eqb l u.line ≡ false
  head_nil l n u vs q k = nil_head l u vs (parts_nil l (take n w) (u ∷ vs) (rw (← q) (sym (take-append-drop n w))) k).1

  placed_agrees : {n : ℕ} {a : ℕ → Val} → PlacedOn on m w n a → AgreeOn on a m
  placed_agrees (begins ag) = ag
  placed_agrees (restores n u vs q p) = λ l k. rw (head_nil l n u vs q k) (placed_agrees p l k)
  placed_agrees (cuts n p) = placed_agrees p
  placed_agrees (tears n u vs x q p) = λ l k. rw (head_nil l n u vs q k) (placed_agrees p l k)

  -- ---- so the next pass comes to the goal

  pub tried_ends : {a : ℕ → Val} → TriedOn on m w a → (l : ℕ) → undo w a l ≡ goal l
  tried_ends {a} t l = whole a (tried_agrees t) l

  -- what is ahead of the place, put back, leaves the goal
  pub ahead : {n : ℕ} {a : ℕ → Val} → PlacedOn on m w n a → (l : ℕ) → undo (drop n w) a l ≡ goal l
  unfolding undo
  ahead (begins {a = a} ag) l = whole a ag l
  ahead (restores n u vs q p) l = let z = ahead p l in rw (drop_next n w q) (rw q at z)
  ahead (cuts {a = a} n p) l = whole a (placed_agrees p) l
  ahead (tears {a = a} n u vs x q p) l = whole (put u.line x a) (placed_agrees (tears n u vs x q p)) l

  pub placed_ends : {n : ℕ} {a : ℕ → Val} → PlacedOn on m w n a → length w ≤ n → (l : ℕ) → a l ≡ goal l
  unfolding undo
  placed_ends p k l = let z = ahead p l in rw (drop_of_length-le w k) at z
