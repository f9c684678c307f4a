-- The answer to a setup is its refusal alone, and numbers out of range are refused.
use Prim.Native.Nat.{◌<◌, suc, zero, ℕ}
use mathlib.Core.Path.{◌∙◌, ◌≡◌, refl}
use mathlib.Core.Logic.{◌≢◌}
use mathlib.Core.Bool.{◌&&◌, and-false, false}
use mathlib.Core.List.{List}
use lib.Dec.{leb}
use lib.ListN.{length}
use borrow.Author.Tests.{eq-eqb, lt-leb, ne_eqb}
use Rattle.rules.specs.Record.{shares_at}
use Rattle.rules.specs.Refusal.{in_range, refusal, tests_of}
use Rattle.rules.specs.Run.{start_call}
use Rattle.rules.specs.Step.{apply, step_by, step_event}
use Rattle.rules.specs.Tables.{Lent, fresh, fresh_tables}
use Rattle.rules.specs.declared.Board.{Board}
use Rattle.rules.specs.declared.Event.TheVariants.{Setup}
use Rattle.rules.specs.declared.Shares.{Shares}

by_refusal : (n l : ℕ) (s : Shares) (k : ℕ) (b : Board) → (step_by k b (Setup n l s)).answer ≡ record { refusal = k; value = 0 }
unfolding step_by apply
by_refusal n l s zero b = refl
by_refusal n l s (suc k) b = refl

module _ (n l : ℕ) (shares memory : List ℕ) where
  pub start_short : length shares ≢ 10 → start_call n l shares memory ≡ record { refusal = 6; value = 0 }
  unfolding start_call
  start_short h = rw (ne_eqb (length shares) 10 h)

  pub start_answer : length shares ≡ 10
      → start_call n l shares memory ≡ record { refusal = refusal (fresh_tables false (length memory)) (Setup n l (shares_at shares)); value = 0 }
  unfolding start_call step_event fresh
  start_answer h =
      rw (eq-eqb (length shares) 10 h)
      (by_refusal n l (shares_at shares) (refusal (fresh_tables false (length memory)) (Setup n l (shares_at shares))) (fresh (Lent memory)))

  pub start_far : length shares ≡ 10 → in_range n l ≡ false → start_call n l shares memory ≡ record { refusal = 6; value = 0 }
  unfolding refusal tests_of
  start_far h e = start_answer h ∙ rw e

module _ (n l : ℕ) where
  pub many_threads : 8 < n → in_range n l ≡ false
  many_threads h = rw (lt-leb n 8 h, and-false (leb 1 n))

  pub many_lines : 256 < l → in_range n l ≡ false
  many_lines h = rw (lt-leb l 256 h, and-false (leb 1 l), and-false (leb 1 n && leb n 8))
