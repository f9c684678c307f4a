use Prim.Native.Nat.{◌-◌}
use lib.ListN.{drop, take}
use native.Mathlib.Omega.{arith}
use mathlib.Core.Path.{refl}
use Rattle.parsing.proofs.Faults.{bad_line, good_line, line_in, line_length, line_place, never_none, no_line}
use Rattle.parsing.proofs.Reading.{end_in}
use Rattle.parsing.specs.Fault.{fault, no_fault}
use Rattle.parsing.specs.Numbers.{fault_number}
use Rattle.parsing.proofs.first_fault.Goals as goal

pub slice_bounds-line_fault-end : goal.slice_bounds-line_fault-end
slice_bounds-line_fault-end c = end_in c.args.text.now c.loop-at.at c.find-end.result c.loop-at-test.true c.find-end.ensures

pub overflow_add-result : goal.overflow_add-result
overflow_add-result c =
    let at = c.loop-at.at in
    let t = c.args.text.now in
    let e = c.find-end.result in
    let f = c.in-Some.found in
    let place = line_place _ (fault (fault_number f.fault) f.at) c.in-Some.ensures (never_none f.fault) in
    omega (arith, end_in t at e c.loop-at-test.true c.find-end.ensures, place, line_in (take (e - at) (drop at t)), line_length t at e c.find-end.ensures)

pub returns-in-Some : goal.returns-in-Some
returns-in-Some c =
    let f = c.in-Some.found in
    bad_line c.args.text.now c.loop-at.at c.loop-at.invariant.1 c.find-end.result c.loop-at-test.true c.find-end.ensures (fault (fault_number f.fault) f.at) c.in-Some.ensures (never_none f.fault)

pub loop-at-preserved : goal.loop-at-preserved
loop-at-preserved c =
    let at = c.loop-at in
    let t = c.args.text.now in
    let e = c.find-end.result in
    let h = c.loop-at-test.true in
    (omega (arith, end_in t at.at e h c.find-end.ensures), good_line t at.at at.invariant.1 e h c.find-end.ensures no_fault c.in_default.ensures refl)

pub returns : goal.returns
returns c = no_line c.args.text.now c.loop-at.at c.loop-at.invariant.1 c.loop-at-test.false
