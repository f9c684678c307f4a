use Rattle.std.proofs.Common.{◌≡◌, ◌-◌, List, ℕ, drop, take, length, arith}
use lib.ListN.{length-drop}
use lib.Seq.{take_all}
use Rattle.lookup.proofs.Lists.{is_place}
use Rattle.rules.proofs.Lists.{place_le}
use Rattle.parsing.specs.Read.{stops}
use Rattle.parsing.proofs.find.Goals as goal

-- what is lent from a place on
rest : (s : List ℕ) (i : ℕ) → take (length s - i) (drop i s) ≡ drop i s
rest s i = take_all (length s - i) (drop i s) (omega (arith, length-drop {A = ℕ}))

pub returns-in-Some : goal.returns-in-Some
returns-in-Some c =
    let a = c.args in
    let f = is_place (stops a.stop) (drop a.from a.bytes.now) _ (rw (rest a.bytes.now a.from) at c.in-Some.ensures) in
    omega (arith, f.0)

pub returns-in-None : goal.returns-in-None
returns-in-None c =
    let a = c.args in
    let f = is_place (stops a.stop) (drop a.from a.bytes.now) _ (rw (rest a.bytes.now a.from) at c.in-None.ensures) in
    omega (arith, f, place_le (stops a.stop) (drop a.from a.bytes.now), length-drop {A = ℕ})
