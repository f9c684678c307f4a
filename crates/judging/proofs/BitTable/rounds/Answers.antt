use Prim.Native.Nat.{◌≤◌, min, suc, zero, ℕ}
use mathlib.Core.Path.{◌∙◌, ◌≡◌, ap, sym}
use mathlib.Core.List.{List}
use lib.Dec.{leb}
use lib.ListN.{length, length-replicate, replicate, take}
use native.Mathlib.Numerals.{add-one}
use native.Mathlib.Omega.{arith}
use borrow.Author.Rules.{rules}
use borrow.Author.Tests.{leb-false, leb-true}
use Rattle.std.specs.Cmp.Lexicographic.{same_text}
use Rattle.std.proofs.lemmas.List.{length-map, take-replicate}
use Rattle.judging.specs.Reach.{round_of, rounds_of, row_of}
use Rattle.undo.proofs.Laws.{test}
use Rattle.judging.proofs.BitTable.rounds.Goals as goal

-- a round that adds nothing is the last to add anything
still : (ls : List (List ℕ)) (k : ℕ) → round_of ls (rounds_of k ls) ≡ rounds_of k ls → (n : ℕ) → k ≤ n → rounds_of n ls ≡ rounds_of k ls
unfolding rounds_of
still ls k e zero h = let z : zero ≡ k = omega (arith, h) in ap (λ (i : ℕ). rounds_of i ls) z
still ls k e (suc n) h =
    test (leb k n) (λ q. ap (round_of ls) (still ls k e n (leb-true k n q)) ∙ e)
    (λ q. let g = leb-false k n q in let z : suc n ≡ k = omega (arith, h) in ap (λ (i : ℕ). rounds_of i ls) z)

-- a row for each region
long : (ls : List (List ℕ)) (k : ℕ) → length (rounds_of k ls) ≡ length ls
unfolding rounds_of
long ls zero = length-replicate (length ls) 0
long ls (suc k) = length-map ls (row_of (rounds_of k ls))

pub loop-depth-init : goal.loop-depth-init
unfolding rounds_of
loop-depth-init c =
    let a = c.args in
    let e : take (min (length a.regions.now) 32) (replicate 32 0) ≡ replicate (length a.links.now) 0
    = rw (← c.requires) (take-replicate (length a.links.now) 32 0 (omega (arith, c.requires))) in
    (search rules, e)

pub round-wider-requires : goal.round-wider-requires
round-wider-requires c =
    let told = c.loop-depth.invariant.1 in
    rw (told, long c.args.links.now c.loop-depth._depth)

pub returns-then-eq : goal.returns-then-eq
returns-then-eq c =
    let ls = c.args.links.now in
    let k = c.loop-depth._depth in
    let i = c.loop-depth.invariant.1 in
    let nothing = same_text _ _ (sym c.if-eq.true ∙ c.eq.ensures) in
    let e : round_of ls (rounds_of k ls) ≡ rounds_of k ls =
    ap (round_of ls) (sym i) ∙ (sym c.round-wider.ensures.rows ∙ (sym c.rows.ensures ∙ (nothing ∙ (c.rows-in-loop-depth.ensures ∙ i)))) in
    record { same = c.loop-depth.invariant.0; rows = i ∙ sym (still ls k e (length ls) (search rules)) }

pub loop-depth-preserved : goal.loop-depth-preserved
unfolding rounds_of
loop-depth-preserved c =
    let ls = c.args.links.now in
    let told = c.round-wider.ensures in
    (told.same ∙ c.loop-depth.invariant.0, told.rows ∙ (ap (round_of ls) c.loop-depth.invariant.1 ∙ rw (add-one c.loop-depth._depth)))
