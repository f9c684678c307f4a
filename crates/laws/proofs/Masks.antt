-- The records that are writes, the refusal of a mask, and a write of the whole word.
use Rattle.std.specs.Prelude.{Err, Ok}
use Prim.Native.Nat.{◌<◌, ◌≤◌, ℕ}
use mathlib.Core.Path.{◌∙◌, ◌≡◌, ap, refl}
use mathlib.Core.Bool.{◌&&◌, false, not, true}
use mathlib.Core.List.{List, [], ◌++◌, ◌∷◌}
use lib.Dec.{eqb, leb, ltb}
use lib.ListN.{drop, length, length-append, set}
use lib.Seq.{take_at}
use native.Mathlib.Omega.{arith}
use borrow.Author.Tests.{le-ltb, not-true}
use Rattle.laws.specs.Stores.{MaskTested, SameButBytes, WholeWord, WritesRead, before_mask, or_mask}
use Rattle.lines.proofs.Stores.{byte_is}
use Rattle.rules.proofs.Codec.Bytes.{num_bytes}
use Rattle.rules.proofs.Laws.{known}
use Rattle.rules.specs.Access.{stored, word_after, write}
use Rattle.rules.specs.Bytes.{bytes_of, num_of}
use Rattle.rules.specs.Flight.{flown}
use Rattle.rules.specs.Kinds.{kind_at}
use Rattle.rules.specs.Lists.{all}
use Rattle.rules.specs.Measures.{whole_word}
use Rattle.rules.specs.Record.{event_of, read_record}
use Rattle.rules.specs.Refusal.{Test, first_bad, is_set_up, refusal, tests_of}
use Rattle.rules.specs.Step.{apply}
use Rattle.rules.specs.declared.Board.{Board}
use Rattle.rules.specs.declared.Event.TheVariants.{Write}
use Rattle.rules.specs.declared.Tables.{Tables}
use Rattle.undo.proofs.Laws.{and_true, test}
use Rattle.undo.specs.Table.{is_in}

-- ---- records

reads_masked : (t l w mask : ℕ) (vs more : List ℕ) → length vs ≡ 8 → read_record (10 ∷ t ∷ l ∷ w ∷ mask ∷ vs ++ more) ≡ Ok (Write t l w mask (num_of vs))
unfolding read_record event_of kind_at
reads_masked t l w mask vs more n =
    let e : 12 ≤ length (t ∷ l ∷ w ∷ mask ∷ vs ++ more) = rw length-append (omega arith) in rw (le-ltb _ 12 e, take_at vs more 8 n)

reads_whole : (t l w : ℕ) (vs more : List ℕ) → length vs ≡ 8 → read_record (4 ∷ t ∷ l ∷ w ∷ vs ++ more) ≡ Ok (Write t l w 255 (num_of vs))
unfolding read_record event_of kind_at
reads_whole t l w vs more n =
    let e : 11 ≤ length (t ∷ l ∷ w ∷ vs ++ more) = rw length-append (omega arith) in rw (le-ltb _ 11 e, take_at vs more 8 n)

reads_unknown : (k : ℕ) (body : List ℕ) → (not (eqb k 9) && leb k 10) ≡ false → read_record (k ∷ body) ≡ Err 2
unfolding read_record
reads_unknown k body e = rw (known k ∙ e)

pub writes_read : WritesRead
writes_read = record { masked = reads_masked; whole = reads_whole; unknown = reads_unknown }

-- ---- the refusal of a mask

-- no test of these numbers, no refusal of them
pub none_first : (ns : List ℕ) (ts : List Test) → is_in 0 ns ≡ false → all (λ t. not (is_in t.code ns)) ts ≡ true → is_in (first_bad ts) ns ≡ false
none_first ns [] z e = z
none_first ns (t ∷ ts) z e =
    let h = and_true (not (is_in t.code ns)) (all (λ t. not (is_in t.code ns)) ts) e in
    test t.bad (λ b. rw b (not-true (is_in t.code ns) h.0)) (λ b. rw b (none_first ns ts z h.1))

mask_refuses : (ts : Tables) (t l w mask v : ℕ) → refusal ts (Write t l w mask v) ≡ or_mask mask (refusal ts (Write t l w whole_word v))
unfolding refusal tests_of
mask_refuses ts t l w mask v =
    test (is_set_up ts)
    (λ a. test (leb ts.size.threads t) (λ b. rw (a, b) (nothing_more 3 refl))
    (λ b. test (leb ts.size.lines l) (λ c. rw (a, b, c) (nothing_more 4 refl))
    (λ c. test (ltb 7 w) (λ d. rw (a, b, c, d) (nothing_more 5 refl))
    (λ d. test (eqb mask 0)
    (λ z. rw (a, b, c, d, z, none_first before_mask (drop 5 (tests_of ts (Write t l w mask v))) refl refl))
    (λ z. rw (a, b, c, d, z))))))
    (λ a. rw a (nothing_more 6 refl))
  where
    nothing_more : (c : ℕ) → is_in c before_mask ≡ true → c ≡ or_mask mask c
    nothing_more c e = test (eqb mask 0) (λ z. rw (z, e)) (λ z. rw z)

mask_changes : (b : Board) (t l w mask v u : ℕ) → SameButBytes (apply b (Write t l w mask v)) (apply b (Write t l w whole_word u))
unfolding apply write flown stored
mask_changes b t l w mask v u = record { tables = refl; old = refl; med = refl; value = refl }

pub mask_tested : MaskTested
mask_tested = record { refuses = mask_refuses; changes = mask_changes }

-- ---- a write of the whole word

word_whole : (v x : ℕ) → v < 18446744073709551616 → word_after whole_word v x ≡ v
unfolding word_after bytes_of num_of
word_whole v x h =
    rw (
      ← byte_is 8 0 v (omega arith),
      ← byte_is 8 1 v (omega arith),
      ← byte_is 8 2 v (omega arith),
      ← byte_is 8 3 v (omega arith),
      ← byte_is 8 4 v (omega arith),
      ← byte_is 8 5 v (omega arith),
      ← byte_is 8 6 v (omega arith),
      ← byte_is 8 7 v (omega arith),
    )
    (num_bytes 8 v h)

pub whole_word_lem : WholeWord
whole_word_lem w v x h = ap (set x w) (word_whole v _ h)
