-- The order of the regions: a region taken out of a list, and one turn and the end of the walk.
use Prim.Native.Nat.{◌+◌, ◌-◌, ◌<◌, ◌≤◌, min, suc, zero, ℕ}
use mathlib.Core.Path.{◌∙◌, ◌≡◌, ap, refl}
use mathlib.Core.Bool.{false, not, true}
use mathlib.Core.List.{List, [], ◌++◌, ◌∷◌, append-nil}
use lib.ListN.{drop, get_or, length, length-append, length-drop, length-set, replicate, set, take}
use lib.Seq.{append_snoc, get_or-take, length-take-le, take_all, take-append_seam, take-suc-set}
use Rattle.std.proofs.lemmas.List.{take-append-le}
use native.Mathlib.Numerals.{add-one}
use native.Mathlib.Omega.{arith}
use borrow.Author.Tests.{le-ltb, lt-ltb}
use Rattle.std.specs.List.{copy_within, position}
use Rattle.std.specs.Prelude.{None, Option, Some}
use Rattle.std.proofs.lemmas.List.Edits.{take-paste}
use Rattle.judging.proofs.Judged.{take_most}
use Rattle.walking.proofs.Held.{held_whole, zeros_more}
use Rattle.walking.specs.Indices.{held_order}
use Rattle.walking.specs.declared.Order.{Order}
use Rattle.faults.proofs.Places.{at_none, at_some}
use Rattle.rules.specs.Image.{no_listed}
use Rattle.rules.specs.Walk.{is_needed, next_place, walk_from, without}
use Rattle.rules.specs.declared.Listed.{Listed}

-- those behind the place move up
pub without_copied : {A : Type 0} (xs : List A) (at n : ℕ) → n ≡ length xs → at < n → take (n - 1) (copy_within xs (at + 1) n at) ≡ without at xs
unfolding without
without_copied xs at n e h =
    let m : n - 1 ≡ at + (n - (at + 1)) = omega arith in
    let low : at ≤ length xs = omega arith in
    let few : n - suc at ≤ length (drop (suc at) xs) = rw (length-drop (suc at) xs) (omega arith) in
    let all : length (drop (suc at) xs) ≤ n - suc at = rw (length-drop (suc at) xs) (omega arith) in
    rw (m, add-one at) (take-paste xs at (drop (suc at) xs) (n - suc at) low few ∙ ap (λ z. take at xs ++ z) (take_all (n - suc at) (drop (suc at) xs) all))

-- ---- one turn of the walk

-- no region is left on which none depends
walk_stops : (n : ℕ) (rs : List Listed) → length rs ≤ next_place rs → walk_from n rs ≡ []
unfolding walk_from
walk_stops zero rs h = refl
walk_stops (suc n) rs h =
    ap (λ b. elim b [ false ↦ [] | true ↦ (get_or rs (next_place rs) no_listed).key ∷ walk_from n (without (next_place rs) rs) ]) (le-ltb (next_place rs) (length rs) h)

walk_takes : (n m : ℕ) (rs : List Listed) → n ≡ suc m → next_place rs < length rs
    → walk_from n rs ≡ (get_or rs (next_place rs) no_listed).key ∷ walk_from m (without (next_place rs) rs)
unfolding walk_from
walk_takes n m rs e h =
    rw e (ap (λ b. elim b [ false ↦ [] | true ↦ (get_or rs (next_place rs) no_listed).key ∷ walk_from m (without (next_place rs) rs) ]) (lt-ltb (next_place rs) (length rs) h))

-- the walk so far, and what the search among the regions that are left has told
module _ (walk : List ℕ) (left : ℕ) (rs : List Listed) (keys : List ℕ) (count : ℕ) (w : take count keys ++ walk_from left rs ≡ walk) (long : length rs ≡ left)
    (r : Option ℕ) (e : r ≡ position (λ x. not (is_needed rs x.key)) rs) where
  -- the region at the next place is entered, and the walk goes on without it
  walks_on : (at : ℕ) → r ≡ Some at → count < length keys
      → take (count + 1) (set keys count (get_or rs at no_listed).key) ++ walk_from (left - 1) (without at rs) ≡ walk
  unfolding next_place
  walks_on at f c =
      let here = at_some (λ x. not (is_needed rs x.key)) rs r e at f in
      let s : left ≡ suc (left - 1) = omega (arith, here.1) in
      rw (add-one count, take-suc-set keys count (get_or rs at no_listed).key c, append_snoc, here.0)
      (rw (walk_takes left (left - 1) rs s (rw (← here.0) here.1)) at w)

  walks_stop : r ≡ None → take count keys ≡ walk
  unfolding next_place
  walks_stop f =
      let none = at_none (λ x. not (is_needed rs x.key)) rs r e f in
      let h : length rs ≤ next_place rs = omega (arith, none) in
      rw (walk_stops left rs h, append-nil) at w

-- ---- the loop: the first regions of an array are left, the first keys of another are those of the walk so far

pub record Walks (walk : List ℕ) (left : ℕ) (regions : List Listed) (count : ℕ) (keys : List ℕ) : Type 0 where
  pub few : count + left ≤ 32
  pub room : length regions ≡ 32
  pub places : length keys ≡ 32
  pub zeros : drop count keys ≡ replicate (32 - count) 0
  pub whole : take count keys ++ walk_from left (take left regions) ≡ walk

-- the first of the regions are copied
pub walks_start : (rs : List Listed) (left : ℕ) → left ≡ min (length rs) 32 → (copied free : List Listed) → copied ≡ take left rs → length free ≡ 32
    → Walks (walk_from (length (take 32 rs)) (take 32 rs)) left (copied ++ drop left free) 0 (replicate 32 0)
walks_start rs left e copied free c l =
    let few : left ≤ length rs = omega (arith, e) in
    let long : length copied ≡ left = ap length c ∙ length-take-le left rs few in
    let most : take left rs ≡ take 32 rs = rw (e, take_most 32 rs) in
    record {
      few = omega (arith, e);
      room = rw (length-append copied (drop left free), length-drop left free) (omega (arith, long, l, e));
      places = refl;
      zeros = refl;
      whole = rw (← long, take-append_seam copied (drop (length copied) free), c, most);
    }

module _ (walk : List ℕ) (left : ℕ) (regions : List Listed) (count : ℕ) (keys : List ℕ) (w : Walks walk left regions count keys)
    (r : Option ℕ) (e : r ≡ position (λ x. not (is_needed (take left regions) x.key)) (take left regions)) where
  many : length (take left regions) ≡ left
  many = length-take-le left regions (omega (arith, w.few, w.room))

  module _ (at : ℕ) (f : r ≡ Some at) where
    pub inside : at < left
    inside = omega (arith, many, (at_some (λ x. not (is_needed (take left regions) x.key)) (take left regions) r e at f).1)

    pub walks_more : (moved : List Listed) → length moved ≡ left → take (length (take left regions) - 1) moved ≡ without at (take left regions)
        → Walks walk (left - 1) (moved ++ drop left regions) (count + 1) (set keys count (get_or regions at no_listed).key)
    walks_more moved l m =
        let h : at < left = inside in
        let c : count < length keys = omega (arith, w.few, w.places, h) in
        record {
          few = omega (arith, w.few, h);
          room = rw (length-append moved (drop left regions), length-drop left regions) (omega (arith, l, w.room, w.few));
          places = simp length-set w.places;
          zeros = zeros_more keys count (get_or regions at no_listed).key (omega (arith, c, w.places)) w.zeros;
          whole =
              rw (take-append-le (left - 1) moved (drop left regions) (omega (arith, l)), rw many at m, ← get_or-take left regions at no_listed h)
              (walks_on walk left (take left regions) keys count w.whole many r e at f c);
        }

  pub walks_end : r ≡ None → ◌≡◌ {A = Order} (record { count = count; keys = keys }) (held_order walk)
  walks_end f = held_whole keys count w.places (omega (arith, w.few)) w.zeros walk (walks_stop walk left (take left regions) keys count w.whole many r e f)
