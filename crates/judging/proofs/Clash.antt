-- One pass over the log from its end, with the places of the regions that logged each line, as bits.
use Prim.Native.Nat.{◌<◌, ◌^◌, ◌≤◌, ℕ}
use mathlib.Core.Path.{◌∙◌, ◌≡◌, refl}
use mathlib.Core.Bool.{false, true}
use mathlib.Core.List.{List, [], ◌∷◌}
use lib.Bits.{and_zero_r, bit_or}
use lib.Dec.{eqb}
use lib.ListN.{get_or, get_or-replicate, length, length-replicate, length-set, replicate, set}
use lib.Seq.{get_or-set_other, get_or-set_same}
use borrow.Author.Tests.{eqb-false, eqb-true, le-ltb, lt-ltb, not-false}
use Rattle.judging.proofs.Bits.{bit_below, meet_if, meet_or}
use Rattle.judging.specs.Marks.{any_pair, is_unlisted}
use Rattle.faults.specs.Faults.{is_region, place_in}
use Rattle.judging.specs.Reach.{apart_from, bit_if, clash_by, is_apart, meet, places_on}
use Rattle.rules.proofs.Lists.{place_lt}
use Rattle.lookup.proofs.Search.{any_place}
use Rattle.rules.specs.Contradiction.{is_listed}
use Rattle.rules.specs.declared.Listed.{Listed}
use Rattle.rules.specs.declared.Mark.{Mark}
use Rattle.undo.proofs.Laws.{or_false, test}
use Rattle.undo.specs.Table.{any}

-- the entries passed: all of listed regions, no two of them clash, and `seen` has for each line the places of their regions
pub record Passed (rs : List Listed) (rows seen : List ℕ) (ms : List Mark) : Type 0 where
  pub long : length seen ≡ 256
  pub listed : any (is_unlisted rs) ms ≡ false
  pub clear : any_pair (clash_by rs rows) ms ≡ false
  pub told : (l : ℕ) → l < 256 → get_or seen l 0 ≡ places_on rs l ms

module _ (rs : List Listed) (rows : List ℕ) where
  pub start : Passed rs rows (replicate 256 0) []
  unfolding any_pair places_on
  start = record { long = length-replicate {A = ℕ} 256 0; listed = refl; clear = refl; told = λ l h. get_or-replicate 256 l 0 0 h }

  module _ (m : Mark) where
    -- a place behind the list is of no listed region
    pub unlisted : length rs ≤ place_in rs m.key → is_unlisted rs m ≡ true
    unlisted h = rw (any_place (is_region m.key) rs, le-ltb (place_in rs m.key) (length rs) h)

    is_listed_lem : place_in rs m.key < length rs → is_unlisted rs m ≡ false
    is_listed_lem h = rw (any_place (is_region m.key) rs, lt-ltb (place_in rs m.key) (length rs) h)

    module _ (h : length rs ≡ length rows) where
      -- the bits tell whether an entry clashes with one of those behind it
      meet_clash : (ms : List Mark) → any (is_unlisted rs) ms ≡ false → meet (apart_from rows (place_in rs m.key)) (places_on rs m.line ms) ≡ any (clash_by rs rows m) ms
      unfolding places_on
      meet_clash [] e = rw (and_zero_r (apart_from rows (place_in rs m.key)))
      meet_clash (y ∷ ms) e =
          let p : ℕ = place_in rs m.key in
          let q : ℕ = place_in rs y.key in
          let z = or_false (is_unlisted rs y) (any (is_unlisted rs) ms) e in
          let l : q < length rows = rw (← h) (place_lt (is_region y.key) rs (not-false (is_listed y.key rs) z.0)) in
          meet_or (apart_from rows p) (bit_if (eqb m.line y.line) q) (places_on rs m.line ms)
          ∙ rw (meet_if (apart_from rows p) (eqb m.line y.line) q, bit_below (is_apart rows p) (length rows) q l, meet_clash ms z.1)

      module _ (ms : List Mark) (seen : List ℕ) (passed : Passed rs rows seen ms) (l : m.line < 256) where
        -- what an entry adds to the places of a line
        places_step : (i : ℕ) → places_on rs i (m ∷ ms) ≡ bit_or (bit_if (eqb i m.line) (place_in rs m.key)) (places_on rs i ms)
        unfolding places_on
        places_step i = refl

        pub clash_told : meet (apart_from rows (place_in rs m.key)) (get_or seen m.line 0) ≡ any (clash_by rs rows m) ms
        clash_told = rw (passed.told m.line l) (meet_clash ms passed.listed)

        -- one entry more
        pub pass : place_in rs m.key < length rs → meet (apart_from rows (place_in rs m.key)) (get_or seen m.line 0) ≡ false
            → Passed rs rows (set seen m.line (bit_or (2 ^ place_in rs m.key) (get_or seen m.line 0))) (m ∷ ms)
        unfolding any_pair
        pass k e =
            record {
              long = simp length-set passed.long;
              listed = rw (is_listed_lem k, passed.listed);
              clear = rw (← clash_told, e, passed.clear);
              told = λ i b.
                  test (eqb i m.line)
                  (λ s. rw (places_step i, s, eqb-true i m.line s, get_or-set_same seen m.line (bit_or (2 ^ place_in rs m.key) (get_or seen m.line 0)) 0 (rw passed.long l), passed.told m.line l))
                  (λ s. rw (places_step i, s, get_or-set_other seen m.line i (bit_or (2 ^ place_in rs m.key) (get_or seen m.line 0)) 0 (eqb-false i m.line s), passed.told i b));
            }
