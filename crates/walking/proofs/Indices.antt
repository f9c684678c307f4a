-- The log entry at a place of the walk.
use Rattle.std.specs.Prelude.{None, Some}
use Prim.Native.Nat.{◌+◌, ◌-◌, ◌<◌, ◌≤◌, suc, zero, ℕ}
use mathlib.Core.Path.{◌∙◌, ◌≡◌, ap, refl, sym}
use mathlib.Core.Bool.{cond, false, true}
use mathlib.Core.List.{List, [], ◌++◌, ◌∷◌, map}
use Rattle.std.specs.List.{count_by}
use Rattle.std.proofs.lemmas.List.Recursion.{is_count_by}
use Rattle.rules.specs.declared.Mark.{Mark}
use lib.Dec.{eqb}
use lib.ListN.{drop, drop_of_length-le, get_or, length, take}
use lib.Seq.{drop-cons, take-length, take-suc}
use native.Mathlib.Numerals.{add-one}
use native.Mathlib.Omega.{arith}
use Rattle.rules.proofs.Codec.Valid.{count_append}
use Rattle.rules.specs.Lists.{count}
use Rattle.undo.proofs.Laws.{test}
use Rattle.walking.specs.Indices.{indices_of, last_first, nth, walk_indices}

-- ---- one region's entries, from the last down

module _ (k : ℕ) (ks : List ℕ) (i j : ℕ) (e : i ≡ suc j) where
  pub nth_skip : (n : ℕ) → eqb (get_or ks j 0) k ≡ false → nth (last_first k j ks) n ≡ nth (last_first k i ks) n
  unfolding last_first
  nth_skip n f = rw (e, f)

  pub nth_here : eqb (get_or ks j 0) k ≡ true → nth (last_first k i ks) 0 ≡ Some j
  unfolding last_first nth
  nth_here f = rw (e, f)

  pub nth_less : (n m : ℕ) → n ≡ suc m → eqb (get_or ks j 0) k ≡ true → nth (last_first k j ks) m ≡ nth (last_first k i ks) n
  unfolding last_first nth
  nth_less n m g f = rw (e, f, g)

-- ---- region by region

pub nth_front : (xs ys : List ℕ) (n : ℕ) → n < length xs → nth (xs ++ ys) n ≡ nth xs n
unfolding nth
nth_front [] ys n h = absurd (omega arith)
nth_front (x ∷ xs) ys zero h = refl
nth_front (x ∷ xs) ys (suc n) h = nth_front xs ys n (omega arith)

pub nth_behind : (xs ys : List ℕ) (n : ℕ) → length xs ≤ n → nth (xs ++ ys) n ≡ nth ys (n - length xs)
unfolding nth
nth_behind [] ys n h = let e : n - 0 ≡ n = omega arith in rw e
nth_behind (x ∷ xs) ys zero h = absurd (omega arith)
nth_behind (x ∷ xs) ys (suc n) h =
    let e : suc n - suc (length xs) ≡ n - length xs = omega arith in
    rw e (nth_behind xs ys n (omega arith))

-- a region has as many indices as entries
last_count : (k : ℕ) (ks : List ℕ) (n : ℕ) → n ≤ length ks → length (last_first k n ks) ≡ count (λ x. eqb x k) (take n ks)
unfolding last_first count
last_count k ks zero h = refl
last_count k ks (suc n) h =
    rw (take-suc ks n 0 (omega arith), count_append (λ x. eqb x k) (take n ks) (get_or ks n 0 ∷ []), ← last_count k ks n (omega arith))
    (test (eqb (get_or ks n 0) k) (λ e. rw e (omega arith)) (λ e. rw e (omega arith)))

pub indices_count : (k : ℕ) (ks : List ℕ) → length (indices_of ks k) ≡ count (λ x. eqb x k) ks
indices_count k ks = last_count k ks (length ks) (omega arith) ∙ ap (count (λ x. eqb x k)) (take-length ks)

-- the same by the entries themselves
module _ (k : ℕ) where
  none_counted : count (λ x. eqb x k) (map (λ (m : Mark). m.key) []) ≡ 0
  unfolding count
  none_counted = refl

  one_counted : (m : Mark) (ms : List Mark)
      → count (λ x. eqb x k) (map (λ m. m.key) (m ∷ ms)) ≡ cond (eqb m.key k) (1 + count (λ x. eqb x k) (map (λ m. m.key) ms)) (count (λ x. eqb x k) (map (λ m. m.key) ms))
  unfolding count
  one_counted m ms = ap (λ n. cond (eqb m.key k) n (count (λ x. eqb x k) (map (λ m. m.key) ms))) (omega arith)

  pub entries_count : (ms : List Mark) → count_by (λ m. eqb m.key k) ms ≡ length (indices_of (map (λ m. m.key) ms) k)
  entries_count ms =
      sym (is_count_by (λ (es : List Mark). count (λ x. eqb x k) (map (λ m. m.key) es)) (λ m. eqb m.key k) none_counted one_counted ms) ∙ sym (indices_count k (map (λ m. m.key) ms))

-- one turn and the end of the loop over the regions
module _ (rs ks : List ℕ) (j left : ℕ) where
  module _ (h : j < length rs) (c : ℕ) (e : c ≡ length (indices_of ks (get_or rs j 0))) where
    pub walk_hit : left < c → nth (indices_of ks (get_or rs j 0)) left ≡ nth (walk_indices (drop j rs) ks) left
    unfolding walk_indices
    walk_hit l =
        let s : left < length (indices_of ks (get_or rs j 0)) = rw (← e) l in
        rw (drop-cons rs j 0 h, nth_front (indices_of ks (get_or rs j 0)) (walk_indices (drop (suc j) rs) ks) left s)

    pub walk_on : c ≤ left → nth (walk_indices (drop (j + 1) rs) ks) (left - c) ≡ nth (walk_indices (drop j rs) ks) left
    unfolding walk_indices
    walk_on l =
        let s : length (indices_of ks (get_or rs j 0)) ≤ left = rw (← e) l in
        rw (add-one j, drop-cons rs j 0 h, nth_behind (indices_of ks (get_or rs j 0)) (walk_indices (drop (suc j) rs) ks) left s, e)

  pub walk_end : length rs ≤ j → None ≡ nth (walk_indices (drop j rs) ks) left
  unfolding walk_indices nth
  walk_end h = rw (drop_of_length-le rs h)
