-- Laws of the definitions: a refusal changes nothing, answers lie in the list of document 01, what commits in a step does not depend on the order of choice,
-- a record holds bytes of its file, and a part of it is the same whatever stands behind it.
use Rattle.std.specs.Prelude.{Err, Ok}
use Prim.Native.Nat.{◌+◌, ◌≤◌, suc, zero, ℕ}
use mathlib.Core.Bool.{Bool, ◌&&◌, ◌||◌, not, true}
use mathlib.Core.List.{List, [], ◌++◌, ◌∷◌}
use mathlib.Core.Logic.{◌≢◌}
use mathlib.Core.Path.{◌≡◌, refl}
use lib.Dec.{eqb, leb, ltb}
use lib.ListN.{drop, length, length-drop, take}
use lib.Seq.{drop-append-le, take-append-le}
use native.Mathlib.Omega.{arith}
use borrow.Author.Tests.{lt-leb, ne_eqb}
use Rattle.undo.proofs.Laws.{and_true, test}
use Rattle.rules.specs.Claim.{is_byte}
use Rattle.rules.specs.Kinds.{is_kind, kind_at}
use Rattle.rules.specs.Lists.{all}
use Rattle.rules.specs.Record.{body_length, event_of, is_whole, read_record, records_from, shares_at}
use Rattle.rules.specs.Refusal.{Test, first_bad, refusal, tests_of}
use Rattle.rules.specs.Step.{step, step_by, step_event, step_read}
use Rattle.rules.specs.declared.Board.{Board}
use Rattle.rules.specs.declared.Event.TheVariants.{Begin, Cut, DataAck, End, Fence, LogAck, Read, Setup, Write}
use Rattle.rules.specs.declared.Event.{Event}
use Rattle.rules.specs.Record.{Reading}
use Rattle.rules.specs.declared.Tables.{Tables}

-- ---- a refusal leaves the board and has the value 0

by_leaves : (n : ℕ) (b : Board) (e : Event) → (step_by n b e).answer.refusal ≢ 0 → ((step_by n b e).board ≡ b) × ((step_by n b e).answer.value ≡ 0)
unfolding step_by
by_leaves zero b e n = absurd (n refl)
by_leaves (suc c) b e n = (refl, refl)

read_leaves : (b : Board) (x : Reading) → (step_read b x).answer.refusal ≢ 0 → ((step_read b x).board ≡ b) × ((step_read b x).answer.value ≡ 0)
unfolding step_event
read_leaves b (Err c) n = (refl, refl)
read_leaves b (Ok e) n = by_leaves (refusal b.tables e) b e n

pub refusal_leaves : (b : Board) (bs : List ℕ) → (step b bs).answer.refusal ≢ 0 → ((step b bs).board ≡ b) × ((step b bs).answer.value ≡ 0)
unfolding step
refusal_leaves b bs n = read_leaves b (read_record bs) n

-- ---- "Refused because of the input" gives an event 1 to 6, 24 or 27, "Refused because of the state" 11 to 22 or 25

abbrev pub is_answer : ℕ → Bool
is_answer n = leb n 6 || ((leb 11 n && leb n 22) || (eqb n 24 || (eqb n 25 || eqb n 27)))

first_answer : (ts : List Test) → all (λ t. is_answer t.code) ts ≡ true → is_answer (first_bad ts) ≡ true
first_answer [] e = refl
first_answer (t ∷ ts) e =
    let p = and_true (is_answer t.code) (all (λ t. is_answer t.code) ts) e in
    test t.bad (λ b. rw b p.0) (λ b. rw b (first_answer ts p.1))

codes_answer : (ts : Tables) (e : Event) → all (λ t. is_answer t.code) (tests_of ts e) ≡ true
unfolding tests_of
codes_answer ts (Setup n l s) = refl
codes_answer ts (Begin t) = refl
codes_answer ts (End t) = refl
codes_answer ts (Read t l w) = refl
codes_answer ts (Write t l w mask v) = refl
codes_answer ts (LogAck l) = refl
codes_answer ts (DataAck l) = refl
codes_answer ts (Fence t) = refl
codes_answer ts Cut = refl

by_answer : (n : ℕ) (b : Board) (e : Event) → is_answer n ≡ true → is_answer (step_by n b e).answer.refusal ≡ true
unfolding step_by
by_answer zero b e p = refl
by_answer (suc n) b e p = p

event_answer : (b : Board) (e : Event) → is_answer (step_event b e).answer.refusal ≡ true
unfolding step_event refusal
event_answer b e = by_answer (first_bad (tests_of b.tables e)) b e (first_answer (tests_of b.tables e) (codes_answer b.tables e))

pub answers : (b : Board) (bs : List ℕ) → is_answer (step b bs).answer.refusal ≡ true
unfolding step read_record
answers b [] = refl
answers b (k ∷ body) =
    test (is_kind k)
    (λ e. test (ltb (length body) (body_length k)) (λ f. rw (e, f)) (λ f. rw (e, f) (event_answer b (event_of k body))))
    (λ e. rw e)

-- ---- which numbers are kinds

pub known : (k : ℕ) → is_kind k ≡ (not (eqb k 9) && leb k 10)
unfolding kind_at
known zero = refl
known (suc zero) = refl
known (suc (suc zero)) = refl
known (suc (suc (suc zero))) = refl
known (suc (suc (suc (suc zero)))) = refl
known (suc (suc (suc (suc (suc zero))))) = refl
known (suc (suc (suc (suc (suc (suc zero)))))) = refl
known (suc (suc (suc (suc (suc (suc (suc zero))))))) = refl
known (suc (suc (suc (suc (suc (suc (suc (suc zero)))))))) = refl
known (suc (suc (suc (suc (suc (suc (suc (suc (suc zero))))))))) = refl
known (suc (suc (suc (suc (suc (suc (suc (suc (suc (suc zero)))))))))) = refl
known (suc (suc (suc (suc (suc (suc (suc (suc (suc (suc (suc k))))))))))) =
    let n : ℕ = suc (suc (suc (suc (suc (suc (suc (suc (suc (suc (suc k)))))))))) in rw (ne_eqb n 9 (λ e. omega arith), lt-leb n 10 (omega arith))

-- ---- a record holds bytes of its file

pub records_bytes : (k : ℕ) (bs : List ℕ) → all is_byte bs ≡ true → all (all is_byte) (records_from k bs) ≡ true
unfolding records_from
records_bytes zero [] h = refl
records_bytes (suc k) [] h = refl
records_bytes (suc k) (b ∷ bs) h = records_bytes k bs (and_true (is_byte b) (all is_byte bs) h).1
records_bytes zero (b ∷ bs) h =
    let r = records_bytes (body_length b) bs (and_true (is_byte b) (all is_byte bs) h).1 in
    test (is_whole (read_record (b ∷ bs))) (λ w. rw (w, h) r) (λ w. rw (w, h) refl)

-- ---- a part of a list is read in the same way whatever stands behind it

pub part_front : (a w : ℕ) (xs ys : List ℕ) → a + w ≤ length xs → take w (drop a (xs ++ ys)) ≡ take w (drop a xs)
part_front a w xs ys h =
    let l : w ≤ length (drop a xs) = rw length-drop (omega arith) in
    rw (drop-append-le a xs ys (omega arith), take-append-le w (drop a xs) ys l)

pub shares_front : (xs f : List ℕ) → 10 ≤ length xs → shares_at (xs ++ f) ≡ shares_at xs
shares_front xs f h = rw (take-append-le 8 xs f (omega arith), part_front 8 2 xs f h)
