-- The log entries of an image stand at their spots in the bytes that are read.
use Prim.Native.Nat.{◌%◌, ◌*◌, ◌+◌, ◌-◌, ◌<◌, ◌≤◌, suc, zero, ℕ}
use mathlib.Core.Path.{◌∙◌, ◌≡◌, ap, ap₂, refl, subst, sym}
use mathlib.Core.Bool.{true}
use mathlib.Core.List.{List, [], ◌++◌, ◌∷◌, map}
use lib.ListN.{drop, get_or, length, set}
use native.Mathlib.Numerals.{add-one}
use native.Mathlib.Omega.{arith}
use native.Mathlib.Nat.{add-zero}
use borrow.Author.Tests.{le-leb, le-ltb, leb-true, lt-ltb}
use lib.Seq.{drop-drop, get_or-drop, sets}
use Rattle.headed.specs.Reader.{held_from, held_in}
use Rattle.rules.specs.Bytes.{line_at}
use Rattle.rules.specs.Image.{Logged}
use Rattle.rules.specs.Lists.{all}
use Rattle.rules.specs.Marks.{mark_at, marks_of}
use Rattle.rules.specs.Reader.{key_at}
use Rattle.rules.specs.declared.Mark.{Mark}
use Rattle.undo.proofs.Laws.{and_true, cons_nil}
use Rattle.reading.specs.Spots.{entry_on, held_at, holds, is_inside, mark_on, next_spot, old_at, spot_at, spots_from}
use Rattle.reading.specs.declared.Spot.{Spot}

module _ (ws : List ℕ) where
  -- a byte behind the one at a place, and all that is behind it
  byte_behind : (at i : ℕ) → get_or (drop (suc at) ws) i 0 ≡ get_or ws (at + 1 + i) 0
  byte_behind at i = let o : suc at + i ≡ at + 1 + i = omega arith in get_or-drop (suc at) ws i 0 ∙ ap (λ n. get_or ws n 0) o

  pub rest_behind : (at i : ℕ) → drop i (drop (suc at) ws) ≡ drop (at + 1 + i) ws
  rest_behind at i = let o : suc at + i ≡ at + 1 + i = omega arith in drop-drop i (suc at) ws ∙ ap (λ n. drop n ws) o

  pub mark_is : (s : Spot) → record { key = key_at ws (s.at + 1); line = get_or ws (s.at + 4 + s.entry) 0; at = old_at ws s % 65536 } ≡ mark_on ws s
  mark_is s =
      let o : s.at + 4 + s.entry ≡ s.at + 1 + (3 + s.entry) = omega arith in
      rw (byte_behind s.at (3 + s.entry), byte_behind s.at 0, rest_behind s.at 1, o, add-zero (s.at + 1))

-- ---- marks

pub length_marks : (ps : List ℕ) (es : List Logged) → length (marks_of ps es) ≡ length es
length_marks ps [] = refl
length_marks ps (e ∷ es) = ap suc (length_marks (drop 1 ps) es)

-- ---- entries that stand from one spot to another

pub data Stand (ws : List ℕ) : Spot → List Logged → Spot → Type 0 where
  none : {s : Spot} → Stand ws s [] s
  one : {s t : Spot} {e : Logged} {es : List Logged} → entry_on ws s ≡ e → old_at ws s + 64 ≤ length ws → Stand ws (next_spot ws s) es t → Stand ws s (e ∷ es) t

pub stand_join : {ws : List ℕ} {s t u : Spot} {es fs : List Logged} → Stand ws s es t → Stand ws t fs u → Stand ws s (es ++ fs) u
stand_join none b = b
stand_join (one e h a) b = one e h (stand_join a b)

-- where none stand the two are one
pub stand_none : {ws : List ℕ} {s t : Spot} {es : List Logged} → Stand ws s es t → es ≡ [] → s ≡ t
stand_none none z = refl
stand_none (one e h a) z = absurd (cons_nil z)

-- and where none stand behind the front, the front may grow
pub stand_moved : {ws : List ℕ} {es : List Logged} (a b c d : ℕ) → Stand ws (spot_at a) es (spot_at b) → es ≡ [] → (a ≡ b → c ≡ d) → Stand ws (spot_at c) es (spot_at d)
stand_moved a b c d st z f = rw (z, f (ap (λ x. x.at) (stand_none st z))) none

-- the entries of the record at a place, from entry i on
module _ (ws : List ℕ) (at : ℕ) where
  abbrev many : ℕ
  many = holds (get_or ws at 0)

  abbrev spot : ℕ → Spot
  spot i = record { at = at; entry = i }

  stand_from : (i m : ℕ) → i + suc m ≡ many → at + 4 + 65 * many ≤ length ws
      → Stand ws (spot i) (held_from many (drop (suc at) ws) i (suc m)) (spot_at (at + 4 + 65 * many))
  unfolding held_from next_spot
  stand_from i zero q h =
      let a : Stand ws (next_spot ws (spot i)) [] (spot_at (at + 4 + 65 * many)) = rw (le-ltb (i + 1) many (omega arith)) none in
      one {s = spot i} refl (omega arith) a
  stand_from i (suc m) q h =
      let a : Stand ws (next_spot ws (spot i)) (held_from many (drop (suc at) ws) (suc i) (suc m)) (spot_at (at + 4 + 65 * many))
      = rw (lt-ltb (i + 1) many (omega arith), add-one i) (stand_from (suc i) m (omega arith) h) in
      one {s = spot i} refl (omega arith) a

  pub record_stands : 1 ≤ many → at + 4 + 65 * many ≤ length ws → Stand ws (spot_at at) (held_in many (drop (suc at) ws)) (spot_at (at + 4 + 65 * many))
  record_stands p h = let o : many ≡ suc (many - 1) = omega arith in subst (λ n. Stand ws (spot_at at) (held_from many (drop (suc at) ws) 0 n) (spot_at (at + 4 + 65 * many))) (sym o) (stand_from 0 (many - 1) (omega arith) h)

module _ {ws : List ℕ} where
  -- their old lines are inside the bytes
  pub stand_inside : {s t : Spot} {es : List Logged} → Stand ws s es t → all (is_inside ws) (spots_from (length es) ws s) ≡ true
  unfolding spots_from
  stand_inside none = refl
  stand_inside (one {s = s} e h a) = rw (le-leb (old_at ws s + 64) (length ws) h) (stand_inside a)

  -- and they are the marks of the spots
  pub stand_marks : {s t : Spot} {es : List Logged} → Stand ws s es t
      → map (mark_on ws) (spots_from (length es) ws s) ≡ marks_of (map (old_at ws) (spots_from (length es) ws s)) es
  unfolding spots_from
  stand_marks none = refl
  stand_marks (one {s = s} e h a) = ap₂ ◌∷◌ (ap (mark_at (old_at ws s)) e) (stand_marks a)

  -- each old line stands at its place
  pub stand_at : {s t : Spot} {es : List Logged} → Stand ws s es t → (i : ℕ) (d : Logged) → i < length es
      → (line_at ws (get_or (map (old_at ws) (spots_from (length es) ws s)) i 0) ≡ (get_or es i d).old) × (get_or (map (old_at ws) (spots_from (length es) ws s)) i 0 + 64 ≤ length ws)
  unfolding spots_from
  stand_at none i d h = absurd (omega arith)
  stand_at (one {s = s} e k a) zero d h = (old_here s ∙ ap (λ x. x.old) e, k)
    where
      old_here : (s : Spot) → line_at ws (old_at ws s) ≡ (entry_on ws s).old
      old_here s = let o : old_at ws s ≡ s.at + 1 + (3 + held_at ws s + 64 * s.entry) = omega arith in rw (o, rest_behind ws s.at (3 + held_at ws s + 64 * s.entry))
  stand_at (one e k a) (suc i) d h = stand_at a i d (omega arith)

-- ---- the table of a log, filled spot by spot

-- what is left to fill behind i of n entries gives the table that is wanted
pub record Filling (ws : List ℕ) (n : ℕ) (wanted log : List Mark) (s : Spot) (i : ℕ) : Type 0 where
  pub within : i ≤ n
  pub inside : all (is_inside ws) (spots_from (n - i) ws s) ≡ true
  pub same : sets log i (map (mark_on ws) (spots_from (n - i) ws s)) ≡ wanted

spots_next : (ws : List ℕ) (n i : ℕ) (s : Spot) → i < n → spots_from (n - i) ws s ≡ s ∷ spots_from (n - (i + 1)) ws (next_spot ws s)
unfolding spots_from
spots_next ws n i s h = let o : n - i ≡ suc (n - (i + 1)) = omega arith in rw o

pub filling_none : (ws : List ℕ) (n : ℕ) (log : List Mark) (s : Spot) → all (is_inside ws) (spots_from n ws s) ≡ true
    → Filling ws n (sets log 0 (map (mark_on ws) (spots_from n ws s))) log s 0
filling_none ws n log s a = let o : n - 0 ≡ n = omega arith in record { within = omega arith; inside = rw o a; same = rw o }

module _ {ws : List ℕ} {n : ℕ} {wanted log : List Mark} {s : Spot} {i : ℕ} (f : Filling ws n wanted log s i) where
  pub filling_inside : i < n → old_at ws s + 64 ≤ length ws
  filling_inside h =
      let a : all (is_inside ws) (s ∷ spots_from (n - (i + 1)) ws (next_spot ws s)) ≡ true = rw (spots_next ws n i s h) at f.inside in
      leb-true (old_at ws s + 64) (length ws) (and_true (is_inside ws s) (all (is_inside ws) (spots_from (n - (i + 1)) ws (next_spot ws s))) a).0

  pub filling_next : i < n → Filling ws n wanted (set log i (mark_on ws s)) (next_spot ws s) (i + 1)
  filling_next h =
      let e = spots_next ws n i s h in
      let a : all (is_inside ws) (s ∷ spots_from (n - (i + 1)) ws (next_spot ws s)) ≡ true = rw e at f.inside in
      record {
        within = omega arith;
        inside = (and_true (is_inside ws s) (all (is_inside ws) (spots_from (n - (i + 1)) ws (next_spot ws s))) a).1;
        same = rw (add-one i) (rw (e, add-one i) at f.same);
      }

  pub filling_all : n ≤ i → log ≡ wanted
  unfolding spots_from
  filling_all h = let o : n - i ≡ 0 = omega arith in rw o at f.same
