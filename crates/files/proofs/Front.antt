-- The record at the front of a file: how far it reaches, and the records behind it.
use Rattle.std.proofs.Common.{◌≡◌, ℕ, ◌<◌, ◌≤◌, suc, zero, cond, eqb, List, [], ◌∷◌, length, drop, refl, arith}
use Rattle.std.proofs.lemmas.List.{take_rest}
use Rattle.undo.proofs.Laws.{test}
use Rattle.rules.specs.Record.{body_length, is_whole, read_record, records_from, records_of}
use Rattle.events.proofs.Records.{fits_on, not_whole, pos, records_skip, stands}
use Rattle.events.specs.Whole.{record_length}
use Rattle.files.specs.Parts.{size_of}
use borrow.Author.Tests.{eqb-false, eqb-true}
use lib.Seq.{drop-length}

pub records_none : (bs : List ℕ) → length bs ≡ 0 → records_of bs ≡ []
unfolding records_from
records_none [] e = refl
records_none (b ∷ bs) e = absurd (omega arith)

pub records_more : (bs : List ℕ) → 0 < length bs → records_of bs ≡ bs ∷ records_of (drop (size_of bs) bs)
unfolding records_from size_of
records_more [] h = absurd (omega arith)
records_more (b ∷ bs) h = test (is_whole (read_record (b ∷ bs))) (λ w. rw (w, records_skip (body_length b) bs)) (λ w. rw (w, drop-length bs))

-- its size by its length, which is 0 where it is not whole
size_last : (bs : List ℕ) → record_length bs ≡ 0 → size_of bs ≡ length bs
unfolding size_of
size_last bs e = rw (not_whole bs e)

size_whole : (bs : List ℕ) → 0 < record_length bs → size_of bs ≡ record_length bs
unfolding size_of
size_whole bs h = let s = stands bs h in rw (s.is_whole_lem, s.is_long)

pub size_is : (bs : List ℕ) → size_of bs ≡ cond (eqb (record_length bs) 0) (length bs) (record_length bs)
size_is bs =
    test (eqb (record_length bs) 0)
    (λ e. rw e (size_last bs (eqb-true _ _ e)))
    (λ e. rw e (size_whole bs (pos _ (eqb-false _ _ e))))

pub size_inside : (bs : List ℕ) → size_of bs ≤ length bs
size_inside bs =
    test (eqb (record_length bs) 0)
    (λ e. omega (arith, size_last bs (eqb-true _ _ e)))
    (λ e. let h : 0 < record_length bs = pos _ (eqb-false _ _ e) in omega (arith, size_whole bs h, fits_on bs h))

pub ruleset front = (records_none, records_more, size_inside, take_rest)

-- each record has a byte of its own
short_from : (k : ℕ) (bs : List ℕ) → length (records_from k bs) ≤ length bs
unfolding records_from
short_from k [] = omega arith
short_from (suc k) (b ∷ bs) = omega (arith, short_from k bs)
short_from zero (b ∷ bs) = test (is_whole (read_record (b ∷ bs))) (λ w. rw w (omega (arith, short_from (body_length b) bs))) (λ w. rw w (omega arith))

pub records_short : (bs : List ℕ) → length (records_of bs) ≤ length bs
records_short bs = short_from 0 bs
