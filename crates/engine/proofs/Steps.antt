-- An event's step from what it gave: an accepted one changes the board as `apply` says, and a refusal's number is not 0, so that it changes nothing.
use Rattle.std.proofs.Common.{◌≡◌, ℕ, IfOk, OnErr, Result, Ok, Err, refl}
use Rattle.rules.specs.Codes.{answered, code, code_of}
use Rattle.rules.specs.Refusal.{refusal}
use Rattle.rules.specs.Step.{Stepped, apply, did, refused, step_by, step_event}
use Rattle.rules.specs.declared.Answer.{Answer}
use Rattle.rules.specs.declared.Board.{Board}
use Rattle.rules.specs.declared.Event.{Event}
use Rattle.rules.specs.declared.Refusal.{Refusal}
use Rattle.rules.specs.declared.Refusal.TheVariants.{OutOfRange}

refuses : (r : Refusal) (b : Board) (e : Event) → step_by (code r) b e ≡ refused (code r) b
unfolding step_by
refuses OutOfRange b e = refl
refuses _ b e = refl

pub stepped : (r : Result ℕ Refusal) (b c : Board) (e : Event) (a : Answer) → IfOk r (λ v. did v c ≡ apply b e) → OnErr r (c ≡ b) → code_of r ≡ refusal b.tables e → a ≡ answered r
    → ◌≡◌ {A = Stepped} (record { board = c; answer = a }) (step_event b e)
unfolding step_event step_by
stepped (Ok v) b c e a d k n f = rw (← n, ← d, f)
stepped (Err r) b c e a d k n f = rw (← n, k, f, refuses r b e)
