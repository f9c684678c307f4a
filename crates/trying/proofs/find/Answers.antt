use Rattle.std.proofs.Common.{◌≡◌, ◌-◌, List, ℕ, drop, take, length, arith}
use lib.Dec.{eqb}
use lib.ListN.{length-drop}
use lib.Seq.{take_all}
use Rattle.trying.proofs.Turns.{place_behind, place_found, place_missing}
use Rattle.trying.proofs.find.Goals as goal

pub returns-then-line-from : goal.returns-then-line-from
returns-then-line-from c = record { first = place_behind _ _ _ (omega arith); behind = omega arith; inside = λ h. omega arith }

-- what is lent from a place on
rest : (s : List ℕ) (i : ℕ) → take (length s - i) (drop i s) ≡ drop i s
rest s i = take_all (length s - i) (drop i s) (omega (arith, length-drop {A = ℕ}))

pub returns-in-Some : goal.returns-in-Some
returns-in-Some c =
    let a = c.args in
    let f = place_found (λ x. eqb x a.byte) (drop a.from a.line.now) c.in-Some.at (rw (rest a.line.now a.from) at c.in-Some.ensures) in
    record { first = omega arith; behind = omega arith; inside = λ h. omega (arith, length-drop {A = ℕ}) }

pub returns-in-None : goal.returns-in-None
returns-in-None c =
    let a = c.args in
    let f = place_missing (λ x. eqb x a.byte) (drop a.from a.line.now) (rw (rest a.line.now a.from) at c.in-None.ensures) in
    record { first = omega (arith, length-drop {A = ℕ}); behind = omega arith; inside = λ h. omega arith }
