use Rattle.std.proofs.Common.{◌≡◌, ◌∙◌, ◌-◌, arith, get_or, map, sym}
use lib.ListN.{get_or-map}
use borrow.Author.Tests.{eq-eqb, ne_eqb}
use Rattle.rules.specs.Marks.{no_mark}
use Rattle.walking.proofs.Indices.{nth_here, nth_less, nth_skip}
use Rattle.walking.specs.Indices.{last_first, nth}
use Rattle.walking.proofs.entry_in.Goals as goal

pub returns-then-left-eq0 : goal.returns-then-left-eq0
returns-then-left-eq0 c =
    let a = c.args in
    let ks = map (λ m. m.key) a.log.now in
    let j = c.loop-i.i - 1 in
    let same = rw (← get_or-map (λ m. m.key) a.log.now j no_mark) at (eq-eqb (get_or a.log.now j no_mark).key a.key c.if-log-i.true) in
    let e : c.loop-i.left ≡ 0 = c.if-left-eq0.true in
    sym (nth_here a.key ks c.loop-i.i j (omega arith) same) ∙ rw e at c.loop-i.invariant

pub loop-i-preserved-then-log-i : goal.loop-i-preserved-then-log-i
loop-i-preserved-then-log-i c =
    let a = c.args in
    let ks = map (λ m. m.key) a.log.now in
    let j = c.loop-i.i - 1 in
    let same = rw (← get_or-map (λ m. m.key) a.log.now j no_mark) at (eq-eqb (get_or a.log.now j no_mark).key a.key c.if-log-i.true) in
    nth_less a.key ks c.loop-i.i j (omega arith) c.loop-i.left (c.loop-i.left - 1) (omega arith) same ∙ c.loop-i.invariant

pub loop-i-preserved : goal.loop-i-preserved
loop-i-preserved c =
    let a = c.args in
    let ks = map (λ m. m.key) a.log.now in
    let j = c.loop-i.i - 1 in
    let other = rw (← get_or-map (λ m. m.key) a.log.now j no_mark) at (ne_eqb (get_or a.log.now j no_mark).key a.key c.if-log-i.false) in
    nth_skip a.key ks c.loop-i.i j (omega arith) c.loop-i.left other ∙ c.loop-i.invariant

pub returns : goal.returns
unfolding last_first nth
returns c =
    let e : c.loop-i.i ≡ 0 = omega arith in
    rw e at c.loop-i.invariant
