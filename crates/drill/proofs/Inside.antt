-- A step that is cut inside: words of two lines one by one, and what the step would have restored.
use Prim.Native.Nat.{◌+◌, ◌<◌, ◌≤◌, suc, zero, ℕ}
use mathlib.Core.Bool.{Bool, cond}
use mathlib.Core.List.{List, [], ◌++◌, ◌∷◌, append-nil}
use mathlib.Core.Path.{◌∙◌, ◌≡◌, refl}
use lib.ListN.{drop, drop_of_length-le, get_or, length, set, take}
use lib.Seq.{length-take-le, take_all}
use native.Mathlib.Nat.{add-suc, add-zero, suc-add, zero-add}
use native.Mathlib.Numerals.{add-one}
use native.Mathlib.Omega.{arith}
use Rattle.std.proofs.lemmas.Grind.{common_steps}
use Rattle.std.specs.Prelude.{None, Option, Some, Result, Ok, Err}
use Rattle.recovery.proofs.Steps.{Finds, entry, finds, past, refused}
use Rattle.recovery.specs.Places.{next_of}
use Rattle.recovery.specs.declared.Next.{Next}
use Rattle.rules.specs.Bytes.{line_at, line_bytes, paste}
use Rattle.rules.specs.Reader.{read_image}
use Rattle.rules.specs.Recovery.{line_start}
use Rattle.torn.proofs.Mixed.{mixed_length}
use Rattle.torn.specs.Torn.{mixed, torn_act, torn_by, torn_read}
use Rattle.drill.specs.Drilled.{choice_of, cut_inside}

-- ---- a line, word by word

module _ (p : ℕ → Bool) where
  mixed_at : (i n : ℕ) (xs ys : List ℕ) → n < length xs
      → set (take n (mixed p i xs ys) ++ drop n xs) n (cond (p (i + n)) (get_or ys (i + n) 0) (get_or xs n 0)) ≡ take (suc n) (mixed p i xs ys) ++ drop (suc n) xs
  unfolding mixed
  mixed_at i n [] ys h = absurd (omega arith)
  mixed_at i zero (x ∷ xs) ys h = rw add-zero
  mixed_at i (suc n) (x ∷ xs) ys h = rw (add-suc i n, ← suc-add i n, mixed_at (suc i) n xs ys (omega arith))

  mixed_there : (n : ℕ) (xs ys : List ℕ) → n < length xs → get_or (take n (mixed p 0 xs ys) ++ drop n xs) n 0 ≡ get_or xs n 0
  mixed_there n xs ys h =
      let l : length (take n (mixed p 0 xs ys)) ≡ n = length-take-le n (mixed p 0 xs ys) (omega (arith, mixed_length p 0 xs ys)) in
      grind (arith, common_steps)

  -- the words of the line before n are mixed; one word more
  pub mixed_more : (xs ys zs : List ℕ) (n v : ℕ) → n < length xs → zs ≡ take n (mixed p 0 xs ys) ++ drop n xs → v ≡ cond (p n) (get_or ys n 0) (get_or zs n 0)
      → set zs n v ≡ take (n + 1) (mixed p 0 xs ys) ++ drop (n + 1) xs
  mixed_more xs ys zs n v h e f =
      let g : get_or zs n 0 ≡ get_or xs n 0 = rw e (mixed_there n xs ys h) in
      rw (f, g, e, add-one n) (rw zero-add at (mixed_at 0 n xs ys h))

  pub mixed_all : (xs ys zs : List ℕ) (n : ℕ) → length xs ≤ n → zs ≡ take n (mixed p 0 xs ys) ++ drop n xs → zs ≡ mixed p 0 xs ys
  mixed_all xs ys zs n h e = e ∙ rw (drop_of_length-le xs h, append-nil, take_all n (mixed p 0 xs ys) (omega (arith, mixed_length p 0 xs ys)))

-- ---- what a step that is cut inside leaves

module _ (bs : List ℕ) (at a : ℕ) where
  -- an entry was found, or none
  abbrev inside_by : Result (Option Next) ℕ → List ℕ
  inside_by (Err n) = bs
  inside_by (Ok None) = bs
  inside_by (Ok (Some e)) = paste bs (line_start e.line) (line_bytes (mixed (choice_of a) 0 (line_at bs (line_start e.line)) e.old))

  pub inside_is : inside_by (next_of (read_image bs) at) ≡ cut_inside bs at a
  unfolding torn_act torn_by
  inside_is = go (finds (read_image bs) at)
    where
      go : Finds (read_image bs) at → inside_by (next_of (read_image bs) at) ≡ (torn_read (choice_of a) (read_image bs) (record { bytes = bs; at = at })).bytes
      go (refused n q) = rw q
      go (past p q k) = rw (q, k)
      go (entry p x xs q k) = rw (q, k)
