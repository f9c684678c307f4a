-- The log entries that an image holds by its bytes are those that are read.
use Prim.Native.Nat.{◌+◌, suc, zero, ℕ}
use mathlib.Core.Path.{◌≡◌, refl, sym}
use mathlib.Core.Bool.{cond, true}
use mathlib.Core.List.{List, [], ◌++◌, ◌∷◌, append-nil}
use lib.Dec.{eqb, ltb}
use lib.ListN.{drop, get_or, length, length-append, take}
use native.Mathlib.Omega.{arith}
use Rattle.rules.proofs.Codec.Only.{Kind, Taken, end_kind, entry_kind, head_kind, kind_of, line_kind, no_head, not_end, only_end, region_kind}
use Rattle.rules.proofs.Codec.Parts.{listing, logging}
use Rattle.rules.proofs.Codec.Records.{along_read, next_same, past_test, turn_passed}
use Rattle.rules.proofs.Codec.Turns.{persistent_of}
use Rattle.rules.specs.Bytes.{num_of}
use Rattle.rules.specs.Claim.{entries_in}
use Rattle.rules.specs.Image.{Logged, Persistent}
use Rattle.rules.specs.Reader.{Last, Next, Reads, fields_turn, head_turn, image_body, is_image_kind, is_placed, line_turn, listed_at, logged_at, nothing, records_read, turn_of}
use Rattle.rules.specs.Refusal.{in_range}
use Rattle.undo.proofs.Laws.{never, test}

-- the bytes of a body are passed over
passed : (n : ℕ) (bs : List ℕ) → entries_in n bs ≡ entries_in 0 (drop n bs)
unfolding entries_in
passed zero bs = refl
passed (suc n) [] = refl
passed (suc n) (b ∷ bs) = passed n bs

-- nothing is ahead of the end
end_none : (bs : List ℕ) → length bs ≡ 0 → entries_in 0 (36 ∷ bs) ≡ 0
unfolding entries_in
end_none [] e = refl
end_none (b ∷ bs) e = absurd (omega arith)

-- the entries that a record adds; before the head none is read
abbrev pub entries_at : ℕ → List ℕ → List Logged
entries_at k bs = cond (eqb k 35) (logged_at bs ∷ []) []

abbrev pub Headed : Persistent → Type 0
Headed p = eqb p.threads 0 ≡ true → p.log ≡ []

adds : {p q : Persistent} {bs : List ℕ} {k : ℕ} → Headed p → Kind k → Taken p k bs (Next q) → (q.log ≡ p.log ++ entries_at k bs) × (Headed q)
unfolding fields_turn head_turn line_turn
adds {p} {q} {bs} none head_kind c =
    let n = get_or bs 0 0 in
    let l = num_of (take 2 (drop 1 bs)) in
    let x = next_same (past_test (in_range n l) (Next (persistent_of n l [] [] [])) 6 (Next q) refl c.shown).1 in
    let z : eqb p.threads 0 ≡ true
    = test (eqb p.threads 0) (λ a. a) (λ a. absurd (no_head (ltb (length p.medium) p.lines) (eqb (length p.log) 0) (rw a at c.place))) in
    rw (← x, none z) (refl, λ y. refl)
adds {p} {q} none line_kind c = rw (← next_same c.shown) (sym (append-nil p.log), none)
adds {p} {q} {bs} none region_kind c = rw (← (listing p q (listed_at bs) c.shown).after) (sym (append-nil p.log), none)
adds {p} {q} {bs} none entry_kind c = rw (← (logging p q (logged_at bs) c.shown).after) (refl, λ z. never (rw z at c.place) refl)
adds none end_kind c = absurd (not_end c)

pub log_adds : (p q : Persistent) (k : ℕ) (bs : List ℕ) → Headed p → turn_of p (k ∷ bs) ≡ Next q → (q.log ≡ p.log ++ entries_at k bs) × (Headed q)
log_adds p q k bs none t =
    let c = turn_passed is_image_kind is_placed image_body fields_turn p k bs (Next q) refl t in adds none (kind_of k c.known) c

pub log_ends : (p q : Persistent) (k : ℕ) (bs : List ℕ) → turn_of p (k ∷ bs) ≡ Last q → (k ≡ 36) × ((length bs ≡ 0) × (p ≡ q))
log_ends p q k bs t = let c = turn_passed is_image_kind is_placed image_body fields_turn p k bs (Last q) refl t in only_end (kind_of k c.known) c

-- those read and those ahead are the entries of the bytes ws
pub record Counted (ws : List ℕ) (p : Persistent) (bs : List ℕ) : Type 0 where
  pub headed : Headed p
  pub sum : length p.log + entries_in 0 bs ≡ entries_in 0 ws

count_at : (k : ℕ) (bs : List ℕ) → length (entries_at k bs) ≡ cond (eqb k 35) 1 0
count_at k bs = test (eqb k 35) (λ e. rw e) (λ e. rw e)

module _ (ws : List ℕ) where
  goes_on : (p q : Persistent) (b : ℕ) (bs : List ℕ) → Counted ws p (b ∷ bs) → turn_of p (b ∷ bs) ≡ Next q → Counted ws q (drop (image_body b) bs)
  unfolding entries_in
  goes_on p q b bs g t =
      let a = log_adds p q b bs g.headed t in
      let n : length q.log ≡ length p.log + cond (eqb b 35) 1 0 = rw (a.0, ← count_at b bs) (length-append p.log (entries_at b bs)) in
      record { headed = a.1; sum = omega (arith, n, g.sum, passed (image_body b) bs) }

  ends : (p q : Persistent) (b : ℕ) (bs : List ℕ) → Counted ws p (b ∷ bs) → turn_of p (b ∷ bs) ≡ Last q → length q.log ≡ entries_in 0 ws
  ends p q b bs g t =
      let x = log_ends p q b bs t in
      let z : entries_in 0 (b ∷ bs) ≡ 0 = rw x.0 (end_none bs x.1.0) in
      rw (← x.1.1) (omega (arith, g.sum))

pub entries_read : (bs : List ℕ) (q : Persistent) → records_read nothing 0 bs ≡ Reads q → length q.log ≡ entries_in 0 bs
entries_read bs q e =
    along_read turn_of image_body (Counted bs) (λ r. length r.log ≡ entries_in 0 bs) (goes_on bs) (ends bs) bs 0 nothing q
    (record { headed = λ z. refl; sum = omega arith }) e
