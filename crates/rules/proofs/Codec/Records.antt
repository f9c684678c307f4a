-- The walk over records one behind the other, for any state, turn and body length.
use Prim.Native.Nat.{◌≤◌, suc, zero, ℕ}
use mathlib.Core.Path.{◌∙◌, ◌≡◌, ap, refl, subst, sym}
use mathlib.Core.Bool.{Bool, cond, false, true}
use mathlib.Core.List.{List, [], ◌++◌, ◌∷◌}
use lib.Dec.{leb}
use lib.ListN.{drop, length, length-append}
use native.Mathlib.Omega.{arith}
use borrow.Author.Tests.{le-leb, leb-true}
use lib.Seq.{drop_at}
use Rattle.rules.specs.Reader.{Last, Next, Reads, Refuses, Stop, Turn, Verdict, read_by, turn_by}
use Rattle.undo.proofs.Laws.{never}

-- ---- turns and verdicts

module _ {S : Type 0} where
  -- a turn that does not stop, and one that ends
  abbrev pub is_on : Turn S → Bool
  is_on (Stop n) = false
  is_on (Next s) = true
  is_on (Last s) = true

  abbrev pub is_last : Turn S → Bool
  is_last (Stop n) = false
  is_last (Next s) = false
  is_last (Last s) = true

  abbrev pub is_reading : Verdict S → Bool
  is_reading (Refuses n) = false
  is_reading (Reads s) = true

  -- the state of a turn, and what is read; s where there is none
  abbrev pub turn_or : S → Turn S → S
  turn_or s (Stop n) = s
  turn_or s (Next q) = q
  turn_or s (Last q) = q

  abbrev pub read_or : S → Verdict S → S
  read_or s (Refuses n) = s
  read_or s (Reads q) = q

  pub not_reads : {C : Type 0} {n : ℕ} {q : S} → Refuses n ≡ Reads q → C
  not_reads e = never refl (ap is_reading (sym e))

  pub next_same : {s q : S} → Next s ≡ Next q → s ≡ q
  next_same {s} e = ap (turn_or s) e

  pub last_same : {s q : S} → Last s ≡ Last q → s ≡ q
  last_same {s} e = ap (turn_or s) e

  -- tests that were passed on the way to a turn
  pub past_test : (b : Bool) (x : Turn S) (n : ℕ) (u : Turn S) → is_on u ≡ true → cond b x (Stop n) ≡ u → (b ≡ true) × (x ≡ u)
  past_test true x n u g e = (refl, e)
  past_test false x n u g e = never g (ap is_on (sym e))

  pub not_last : (b : Bool) (x : Turn S) (n : ℕ) → is_last x ≡ false → is_last (cond b x (Stop n)) ≡ false
  not_last true x n e = e
  not_last false x n e = refl

-- ---- the walk

module _ {S : Type 0} (turn : S → List ℕ → Turn S) (body : ℕ → ℕ) where
  -- what follows a turn
  abbrev pub after_turn : ℕ → List ℕ → Turn S → Verdict S
  after_turn b bs t = elim t [ Stop n ↦ Refuses n | Next q ↦ read_by turn body q (body b) bs | Last q ↦ Reads q ]

  -- bytes to pass are dropped
  pub skip_bytes : (s : S) (k : ℕ) (bs : List ℕ) → read_by turn body s k bs ≡ read_by turn body s 0 (drop k bs)
  unfolding read_by
  skip_bytes s zero bs = refl
  skip_bytes s (suc k) [] = refl
  skip_bytes s (suc k) (b ∷ bs) = skip_bytes s k bs

  pub turn_stop : (s : S) (n b : ℕ) (bs : List ℕ) → turn s (b ∷ bs) ≡ Stop n → read_by turn body s 0 (b ∷ bs) ≡ Refuses n
  unfolding read_by
  turn_stop s n b bs e = ap (after_turn b bs) e

  pub turn_next : (s q : S) (b : ℕ) (bs : List ℕ) → turn s (b ∷ bs) ≡ Next q → read_by turn body s 0 (b ∷ bs) ≡ read_by turn body q 0 (drop (body b) bs)
  unfolding read_by
  turn_next s q b bs e = ap (after_turn b bs) e ∙ skip_bytes q (body b) bs

  pub turn_last : (s q : S) (b : ℕ) (bs : List ℕ) → turn s (b ∷ bs) ≡ Last q → read_by turn body s 0 (b ∷ bs) ≡ Reads q
  unfolding read_by
  turn_last s q b bs e = ap (after_turn b bs) e

  -- what holds of the state and of the bytes ahead, and is kept by each record, holds of the verdict
  module _ (P : S → List ℕ → Type 0) (Told : Verdict S → Type 0) (short : Told (Refuses 1))
      (stop : (s : S) (n b : ℕ) (bs : List ℕ) → P s (b ∷ bs) → turn s (b ∷ bs) ≡ Stop n → Told (Refuses n))
      (next : (s q : S) (b : ℕ) (bs : List ℕ) → P s (b ∷ bs) → turn s (b ∷ bs) ≡ Next q → P q (drop (body b) bs))
      (last : (s q : S) (b : ℕ) (bs : List ℕ) → P s (b ∷ bs) → turn s (b ∷ bs) ≡ Last q → Told (Reads q)) where
    pub along : (bs : List ℕ) (k : ℕ) (s : S) → P s (drop k bs) → Told (read_by turn body s k bs)
    unfolding read_by
    along [] k s p = short
    along (b ∷ bs) (suc k) s p = along bs k s p
    along (b ∷ bs) zero s p = go (turn s (b ∷ bs)) refl (λ q h. along bs (body b) q h)
      where
        go : (t : Turn S) → turn s (b ∷ bs) ≡ t → ((q : S) → P q (drop (body b) bs) → Told (read_by turn body q (body b) bs)) → Told (after_turn b bs t)
        go (Stop n) e ih = stop s n b bs p e
        go (Next q) e ih = ih q (next s q b bs p e)
        go (Last q) e ih = last s q b bs p e

  -- and of what is read
  module _ (P : S → List ℕ → Type 0) (Q : S → Type 0)
      (next : (s q : S) (b : ℕ) (bs : List ℕ) → P s (b ∷ bs) → turn s (b ∷ bs) ≡ Next q → P q (drop (body b) bs))
      (last : (s q : S) (b : ℕ) (bs : List ℕ) → P s (b ∷ bs) → turn s (b ∷ bs) ≡ Last q → Q q) where
    pub along_read : (bs : List ℕ) (k : ℕ) (s q : S) → P s (drop k bs) → read_by turn body s k bs ≡ Reads q → Q q
    along_read bs k s q p e =
        along P (λ v. (r : S) → v ≡ Reads r → Q r) (λ r f. not_reads f) (λ s n b bs p t r f. not_reads f) next
        (λ s u b bs p t r f. subst Q (ap (read_or u) f) (last s u b bs p t)) bs k s p q e

-- ---- a record at the front

module _ {S : Type 0} (is_kind : ℕ → Bool) (placed : S → ℕ → Bool) (body : ℕ → ℕ) (fields : S → ℕ → List ℕ → Turn S) where
  -- a record that does not stop has passed its tests
  pub record Passed (s : S) (k : ℕ) (bs : List ℕ) (u : Turn S) : Type 0 where
    pub known : is_kind k ≡ true
    pub place : placed s k ≡ true
    pub long : body k ≤ length bs
    pub shown : fields s k bs ≡ u

  pub turn_passed : (s : S) (k : ℕ) (bs : List ℕ) (u : Turn S) → is_on u ≡ true → turn_by is_kind placed body fields s (k ∷ bs) ≡ u → Passed s k bs u
  unfolding turn_by
  turn_passed s k bs u g e =
      let a = past_test (is_kind k) (cond (placed s k) (cond (leb (body k) (length bs)) (fields s k bs) (Stop 1)) (Stop 7)) 2 u g e in
      let b = past_test (placed s k) (cond (leb (body k) (length bs)) (fields s k bs) (Stop 1)) 7 u g a.1 in
      let c = past_test (leb (body k) (length bs)) (fields s k bs) 1 u g b.1 in
      record { known = a.0; place = b.0; long = leb-true (body k) (length bs) c.0; shown = c.1 }

  -- a record of a kind that may stand here, with a body of the right length
  pub record_read : (s q : S) (k : ℕ) (bs more : List ℕ) → is_kind k ≡ true → placed s k ≡ true → length bs ≡ body k
      → fields s k (bs ++ more) ≡ Next q
      → read_by (turn_by is_kind placed body fields) body s 0 (k ∷ (bs ++ more)) ≡ read_by (turn_by is_kind placed body fields) body q 0 more
  unfolding turn_by
  record_read s q k bs more a b c e =
      let h : leb (body k) (length (bs ++ more)) ≡ true = le-leb (body k) (length (bs ++ more)) (simp length-append (omega arith)) in
      let t : turn_by is_kind placed body fields s (k ∷ (bs ++ more)) ≡ Next q = rw (a, b, h) e in
      turn_next (turn_by is_kind placed body fields) body s q k (bs ++ more) t
      ∙ ap (read_by (turn_by is_kind placed body fields) body q 0) (drop_at bs more (body k) c)
