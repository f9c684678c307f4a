-- An accepted event has passed each of its tests: a proof asks for a test by its number.
use Prim.Native.Nat.{◌+◌, ◌<◌, ℕ}
use mathlib.Core.Path.{◌≡◌, refl}
use mathlib.Core.Bool.{Bool, cond, false, not, true}
use mathlib.Core.List.{List, [], ◌∷◌}
use lib.Dec.{eqb, ltb}
use native.Mathlib.Omega.{arith}
use borrow.Author.Tests.{eq-eqb, ltb-false}
use Rattle.rules.specs.Lists.{all, count}
use Rattle.rules.specs.Measures.{most_in_channel}
use Rattle.rules.specs.Refusal.{Test, depth_of, first_bad, fits, in_range, is_set_up, refusal, tests_of}
use Rattle.rules.specs.Tables.{channel_of, in_channel, thread_at}
use Rattle.rules.specs.declared.Event.{Event}
use Rattle.rules.specs.declared.Event.TheVariants.{Begin, Cut, DataAck, End, Fence, LogAck, Read, Setup, Write}
use Rattle.rules.specs.declared.Shares.{Shares}
use Rattle.rules.specs.declared.Tables.{Tables}
use Rattle.undo.proofs.Laws.{and_true, never, test}

-- what the test of number n says; the first one, where several have it
abbrev pub bad_at : ℕ → List Test → Bool
bad_at n [] = false
bad_at n (x ∷ xs) = cond (eqb x.code n) x.bad (bad_at n xs)

-- every test has a number
abbrev pub numbered : List Test → Bool
numbered ts = all (λ t. not (eqb t.code 0)) ts

-- a test that refuses is not refused with 0
pub unnumbered : {C : Type 0} (x : Test) (xs : List Test) → numbered (x ∷ xs) ≡ true → x.code ≡ 0 → C
unnumbered x xs h e = never (and_true (not (eqb x.code 0)) (numbered xs) h).0 (rw (eq-eqb _ _ e))

pub passes : (n : ℕ) (ts : List Test) → numbered ts ≡ true → first_bad ts ≡ 0 → bad_at n ts ≡ false
passes n [] h z = refl
passes n (x ∷ xs) h z =
    test x.bad
    (λ b. unnumbered x xs h (rw b at z))
    (λ b. test (eqb x.code n) (λ e. rw (e, b)) (λ e. rw e (passes n xs (and_true (not (eqb x.code 0)) (numbered xs) h).1 (rw b at z))))

pub tests_numbered : (ts : Tables) (e : Event) → numbered (tests_of ts e) ≡ true
unfolding tests_of
tests_numbered ts (Setup n l s) = refl
tests_numbered ts (Begin t) = refl
tests_numbered ts (End t) = refl
tests_numbered ts (Read t l w) = refl
tests_numbered ts (Write t l w mask v) = refl
tests_numbered ts (LogAck l) = refl
tests_numbered ts (DataAck l) = refl
tests_numbered ts (Fence t) = refl
tests_numbered ts Cut = refl

-- with `unfolding tests_of` it says the test itself
pub passed : (ts : Tables) (e : Event) → refusal ts e ≡ 0 → (n : ℕ) → bad_at n (tests_of ts e) ≡ false
unfolding refusal
passed ts e r n = passes n (tests_of ts e) (tests_numbered ts e) r

-- a setup has three tests of number 6
pub setup_passed : (ts : Tables) (n l : ℕ) (s : Shares) → refusal ts (Setup n l s) ≡ 0 → (in_range n l ≡ true) × (is_set_up ts ≡ false)
unfolding refusal tests_of
setup_passed ts n l s r =
    test (in_range n l)
    (λ a. test (fits l ts.size)
    (λ f. test (is_set_up ts) (λ u. let z : ◌≡◌ {A = ℕ} 6 0 = rw (a, f, u) at r in absurd (omega arith)) (λ u. (a, u)))
    (λ f. let z : ◌≡◌ {A = ℕ} 6 0 = rw (a, f) at r in absurd (omega arith)))
    (λ a. let z : ◌≡◌ {A = ℕ} 6 0 = rw a at r in absurd (omega arith))

-- a begin that opens a region has a free entry for it in its channel, whatever is kept for the other party
one_free : (held kept : ℕ) → ltb most_in_channel (held + 1 + kept) ≡ false → held < most_in_channel
one_free held kept e = let z = ltb-false most_in_channel (held + 1 + kept) e in omega arith

pub channel_room : (ts : Tables) (t : ℕ) → refusal ts (Begin t) ≡ 0 → eqb (depth_of t ts) 0 ≡ true
    → count (in_channel (channel_of ((thread_at t ts).last + 1))) ts.regions < most_in_channel
unfolding tests_of
channel_room ts t r d = one_free (count (in_channel (channel_of ((thread_at t ts).last + 1))) ts.regions) _ (rw d at (passed ts (Begin t) r 16))
