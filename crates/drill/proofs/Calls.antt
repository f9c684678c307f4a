-- A chain of event calls is the run of its records, so demand 3 holds of what the calls returned.
use Prim.Native.Nat.{ℕ}
use mathlib.Core.Path.{◌∙◌, ◌≡◌, ap, refl}
use mathlib.Core.List.{List, ◌∷◌}
use Rattle.drill.specs.Calls.{Calls, CallsRecover, call, stop}
use Rattle.rules.proofs.Main.{recovery_is_right}
use Rattle.rules.specs.Run.{run}
use Rattle.rules.specs.Step.{Stepped}
use Rattle.rules.specs.declared.Board.{Board}
use Rattle.rules.specs.declared.Answer.{Answer}
use Rattle.torn.proofs.Torn.{torn_recovery}

pub calls_run : {b c : Board} {rs : List (List ℕ)} {as' : List Answer} → Calls b rs c as' → (c ≡ (run b rs).board) × (as' ≡ (run b rs).answers)
unfolding run
calls_run stop = (refl, refl)
calls_run (call {b = b} {r = r} {rs = rs} {a = a} e k) =
    let h = calls_run k in (
      h.0 ∙ ap (λ (s : Stepped). (run s.board rs).board) e,
      ap (λ as''. a ∷ as'') h.1 ∙ ap (λ (s : Stepped). s.answer ∷ (run s.board rs).answers) e,
    )

pub calls_recover : CallsRecover
calls_recover m rs b as' ss p ts k bm br cut = ((calls_run k).0, (recovery_is_right m rs ss bm br cut, torn_recovery m rs p ts bm br cut))
