-- Between two events nothing is left over.
use Prim.Native.Nat.{suc, zero, ℕ}
use mathlib.Core.Path.{◌∙◌, ◌≡◌, ap, sym}
use mathlib.Core.Logic.{◌≢◌}
use mathlib.Core.Bool.{false, true≢false}
use mathlib.Core.List.{List}
use lib.ListN.{get_or}
use borrow.Author.Tests.{ne_eqb}
use Rattle.laws.specs.Laws.{AtRest, NothingLeft, region_is, slot_is}
use Rattle.rules.proofs.Places.{get_or_same, region_at_lem}
use Rattle.rules.proofs.Sim.State.{Distinct, Rest, Shape, Simulated, by, more, none}
use Rattle.rules.proofs.Sim.All.{every}
use Rattle.rules.proofs.SlotLaws.{names_here, rest_absent}
use Rattle.rules.proofs.Views.{state_of}
use Rattle.rules.specs.Commit.{commits}
use Rattle.rules.specs.Slots.{is_empty, names}
use Rattle.rules.specs.Tables.{Memory, no_slot, region_at}
use Rattle.rules.specs.declared.Board.{Board}
use Rattle.rules.specs.declared.Slot.{Slot}
use Rattle.rules.specs.declared.SlotState.TheVariants.{Empty}
use Rattle.undo.proofs.Laws.{is_same, test}
use Rattle.rules.specs.History.{Account}

-- the state of a slot that is not empty is what the slots say of its line
pub state_at : {ss : List Slot} → Distinct ss → (j : ℕ) → is_empty (get_or ss j no_slot).state ≡ false → state_of (get_or ss j no_slot).line ss ≡ (get_or ss j no_slot).state
unfolding state_of
state_at none j e = absurd (true≢false e)
state_at (more {s = s} {ss = ss} a n r ds) zero e = rw (names_here s.line s.state s.line e (is_same s.line))
state_at (more {s = s} {ss = ss} a n r ds) (suc j) e =
    let ih = state_at ds j e in
    test (names (get_or ss j no_slot).line s.state s.line)
    (λ d. let z : state_of (get_or ss j no_slot).line ss ≡ Empty = rest_absent (get_or ss j no_slot).line d (more {s = s} {ss = ss} a n r ds) in
    absurd (true≢false (ap is_empty (sym z ∙ ih) ∙ e)))
    (λ d. rw d ih)

module _ (b : Board) (sh : Shape b.tables) where
  -- a slot that is not empty is of a listed region
  pub slot_held : (i j : ℕ) → is_empty (slot_is i j b).state ≡ false → (region_is i b).key ≢ 0
  slot_held i j e z = true≢false (rw ((sh.regions.good i).free z, get_or_same 8 j no_slot) at e)

  pub region_is_lem : (i : ℕ) → (region_is i b).key ≢ 0 → region_at (region_is i b).key b.tables.regions ≡ region_is i b
  region_is_lem i n = region_at_lem i b.tables.regions sh.regions.unique n

at_rest : {m : Memory} {b : Board} {es : List Account} → Simulated m b es → Rest b → AtRest b
unfolding commits
at_rest {b = b} (by s h w i) rest =
    record {
      flown = λ p j c w e. let full : is_empty (slot_is p j b).state ≡ false = rw w in
          let n = slot_held b i.shape p j full in
          rest.flown (region_is p b).key (slot_is p j b).line c (rw (region_is_lem b i.shape p n) e)
          (rw (region_is_lem b i.shape p n) (state_at (i.shape.regions.good p).distinct j full ∙ w));
      finished = rest.finished;
      committed = λ p n d. rw (ne_eqb (region_is p b).key 0 n, d) at (rest.settled p);
    }

pub nothing_left : NothingLeft
nothing_left m rs bm br = let k = every m rs bm in at_rest k.simulated k.rest
