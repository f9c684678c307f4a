-- "At most one flight per line exists".
use Rattle.undo.specs.Machine as u
use Prim.Native.Nat.{suc, zero, ℕ}
use mathlib.Core.Path.{◌∙◌, ◌≡◌, ap, refl, sym}
use mathlib.Core.Bool.{false, true≢false}
use mathlib.Core.List.{List}
use lib.ListN.{get_or}
use borrow.Author.Tests.{eqb-true}
use Rattle.laws.proofs.Rest.{region_is_lem, slot_held, state_at}
use Rattle.laws.specs.Laws.{FliesWith, OneFlight, region_is, slot_is}
use Rattle.rules.proofs.Sim.State.{Distinct, Simulated, by, more, none}
use Rattle.rules.proofs.Sim.Looks.{reach}
use Rattle.rules.proofs.Sim.All.{every}
use Rattle.rules.proofs.Views.{state_of}
use Rattle.rules.specs.Slots.{is_empty}
use Rattle.rules.specs.Tables.{Memory, line_of, no_slot, place_of, start_lines}
use Rattle.rules.specs.declared.Board.{Board}
use Rattle.rules.specs.declared.Slot.{Slot}
use Rattle.rules.specs.declared.SlotState.TheVariants.{Empty, InFlight}
use Rattle.undo.proofs.Main.{structured}
use Rattle.rules.specs.History.{Account}

-- in a region each line has one slot at most
pub one_slot : {ss : List Slot} → Distinct ss → (p q : ℕ) → is_empty (get_or ss p no_slot).state ≡ false → is_empty (get_or ss q no_slot).state ≡ false
    → (get_or ss p no_slot).line ≡ (get_or ss q no_slot).line → p ≡ q
one_slot none p q e f l = absurd (true≢false e)
one_slot (more {s = s} {ss = ss} a n r ds) zero zero e f l = refl
one_slot (more {s = s} {ss = ss} a n r ds) zero (suc q) e f l =
    let z : state_of (get_or ss q no_slot).line ss ≡ Empty = rw (← l) (n e) in
    absurd (true≢false (ap is_empty (sym z ∙ state_at ds q f) ∙ f))
one_slot (more {s = s} {ss = ss} a n r ds) (suc p) zero e f l =
    let z : state_of (get_or ss p no_slot).line ss ≡ Empty = rw l (n f) in
    absurd (true≢false (ap is_empty (sym z ∙ state_at ds p e) ∙ e))
one_slot (more {s = s} {ss = ss} a n r ds) (suc p) (suc q) e f l = ap suc (one_slot ds p q e f l)

by_flights : {m : Memory} {b : Board} {es : List Account} → Simulated m b es
    → (l i j p q : ℕ) → FliesWith l (slot_is i p b) → FliesWith l (slot_is j q b) → (i ≡ j) × (p ≡ q)
by_flights {m} {b} {es} (by s h w sim) l i j p q f g = (here, slots here)
  where
    full : (i p : ℕ) → FliesWith l (slot_is i p b) → is_empty (slot_is i p b).state ≡ false
    full i p f = rw f.0

    -- the undo log has the flight
    flies : (i p : ℕ) → FliesWith l (slot_is i p b) → s.slot l (region_is i b).key ≡ u.Flies (line_of l b.car)
    flies i p f =
        let n = slot_held b sim.shape i p (full i p f) in
        let st : state_of l (region_is i b).slots ≡ InFlight
        = ap (λ x. state_of x (region_is i b).slots) (sym f.1) ∙ state_at (sim.shape.regions.good i).distinct p (full i p f) ∙ f.0 in
        sim.slot l (region_is i b).key ∙ rw (region_is_lem b sim.shape i n, st)

    keys : (region_is i b).key ≡ (region_is j b).key
    keys =
        eqb-true (region_is i b).key (region_is j b).key
        ((structured (λ x. line_of x (start_lines m)) s h (reach w)).one_flight l (region_is i b).key (region_is j b).key _ _ (flies i p f) (flies j q g))

    here : i ≡ j
    here =
        sym (sim.shape.regions.unique i (slot_held b sim.shape i p (full i p f)))
        ∙ ap (λ k. place_of k b.tables.regions) keys
        ∙ sim.shape.regions.unique j (slot_held b sim.shape j q (full j q g))

    slots : i ≡ j → p ≡ q
    slots e = let g' : FliesWith l (slot_is i q b) = rw e g in
        one_slot (sim.shape.regions.good i).distinct p q (full i p f) (full i q g') (f.1 ∙ sym g'.1)

pub one_flight : OneFlight
one_flight m rs bm br = by_flights (every m rs bm).simulated
