-- Before a record of kind 41 to 47 is met, the reader of both forms does what the old reader does; without these kinds it is the old reader.
use Prim.Native.Nat.{◌≤◌, suc, zero, ℕ}
use mathlib.Core.Path.{◌≡◌, ap, refl}
use mathlib.Core.Bool.{Bool, and-false, and-true, cond, false, false≢true, or-false, true}
use mathlib.Core.List.{List, [], ◌∷◌}
use lib.Dec.{eqb, leb}
use lib.ListN.{length}
use native.Mathlib.Omega.{arith}
use borrow.Author.Tests.{leb-true}
use Rattle.rules.proofs.Codec.Records.{after_turn}
use Rattle.rules.specs.Image.{Persistent}
use Rattle.rules.specs.Reader.{Last, Next, Refuses, Stop, Turn, Verdict, image_body, is_image_kind, is_placed, nothing, read_by, read_image, records_read, turn_by, turn_of, unless_contradicted}
use Rattle.rules.specs.Recovery.{Recovering, recovery_call, restore}
use Rattle.undo.proofs.Laws.{and_true, or_right, test}
use Rattle.undo.specs.Table.{any}
use Rattle.headed.specs.Reader.{Progress, fields_in, headed_body, is_header, is_kind_of, is_placed_in, onward, read_as, records_in, records_read_as, state_read, turn_in, unread}
use Rattle.headed.specs.Recovery.{recovery_call_as, restore_as}

-- ---- the seven kinds are none of the five

pub header_bounds : (k : ℕ) → is_header k ≡ true → (41 ≤ k) × (k ≤ 47)
header_bounds k e = let a = and_true (leb 41 k) (leb k 47) e in (leb-true 41 k a.0, leb-true k 47 a.1)

pub not_old : (k : ℕ) → is_header k ≡ true → is_image_kind k ≡ false
not_old k e =
    let a = (header_bounds k e).0 in
    test (leb k 36) (λ b. let c = leb-true k 36 b in absurd (omega arith)) (λ b. rw b (and-false (leb 32 k)))

-- ---- a record of one of the five kinds, where no header has been read

module _ (headed : Bool) (s : Progress) (k : ℕ) (plain : is_header s.kind ≡ false) (old : is_header k ≡ false) where
  known_as : is_kind_of headed k ≡ is_image_kind k
  known_as = rw (old, and-false headed) (or-false (is_image_kind k))

  placed_as : is_placed_in s k ≡ is_placed s.state k
  placed_as = rw (plain, old, and-false (eqb k 35)) (and-true (is_placed s.state k))

  pub old_turn : (bs : List ℕ) → turn_in headed s (k ∷ bs) ≡ onward s k (turn_of s.state (k ∷ bs))
  unfolding turn_by fields_in
  old_turn bs =
      rw (known_as, placed_as, old)
      (test (is_image_kind k)
      (λ a. rw a (test (is_placed s.state k)
      (λ b. rw b (test (leb (image_body k) (length bs)) (λ c. rw c) (λ c. rw c)))
      (λ b. rw b)))
      (λ a. rw a))

  -- no header has been read behind it either
  pub still_plain : is_header (cond (eqb k 35) 35 s.kind) ≡ false
  still_plain = test (eqb k 35) (λ a. rw a) (λ a. rw a plain)

-- ---- the whole image

-- two readings of the same bytes: the same, or the second has stopped at a header, which the first knows
pub data Alike (headed : Bool) (bs : List ℕ) (v : Verdict Progress) (w : Verdict Persistent) : Type 0 where
  same : state_read v ≡ w → Alike headed bs v w
  stopped : headed ≡ true → any is_header bs ≡ true → w ≡ Refuses 2 → Alike headed bs v w

behind : {headed : Bool} {b : ℕ} {bs : List ℕ} {v : Verdict Progress} {w : Verdict Persistent} → Alike headed bs v w → Alike headed (b ∷ bs) v w
behind (same e) = same e
behind {b = b} (stopped h a e) = stopped h (or_right (is_header b) a) e

module _ (headed : Bool) where
  -- behind a turn of each
  abbrev Here : ℕ → List ℕ → Turn Progress → Turn Persistent → Type 0
  Here b bs t u = Alike headed (b ∷ bs) (after_turn (turn_in headed) headed_body b bs t) (after_turn turn_of image_body b bs u)

  met : (s : Progress) (b : ℕ) (bs : List ℕ) → is_header b ≡ true → Here b bs (turn_in headed s (b ∷ bs)) (turn_of s.state (b ∷ bs))
  unfolding turn_by
  met s b bs e = rw (not_old b e) (test headed (λ h. stopped h (rw e) refl) (λ h. rw h (same refl)))

  pub alike : (bs : List ℕ) (k : ℕ) (s : Progress) → is_header s.kind ≡ false → Alike headed bs (records_in headed s k bs) (records_read s.state k bs)
  unfolding read_by
  alike [] k s plain = same refl
  alike (b ∷ bs) (suc k) s plain = behind (alike bs k s plain)
  alike (b ∷ bs) zero s plain = test (is_header b) (met s b bs) (λ e. rw (old_turn headed s b plain e bs) (goes e (λ q k e. alike bs k q e) (turn_of s.state (b ∷ bs))))
    where
      goes : is_header b ≡ false → ((q : Progress) (k : ℕ) → is_header q.kind ≡ false → Alike headed bs (records_in headed q k bs) (records_read q.state k bs))
          → (t : Turn Persistent) → Here b bs (onward s b t) t
      goes e ih (Stop n) = same refl
      goes e ih (Next q) = rw e (behind (ih (record { state = q; kind = cond (eqb b 35) 35 s.kind }) (image_body b) (still_plain headed s b plain e)))
      goes e ih (Last q) = same refl

pub old_records : (bs : List ℕ) → records_read_as false bs ≡ records_read nothing 0 bs
unfolding records_read_as
old_records bs = go (alike false bs 0 unread refl)
  where
    go : Alike false bs (records_in false unread 0 bs) (records_read nothing 0 bs) → state_read (records_in false unread 0 bs) ≡ records_read nothing 0 bs
    go (same e) = e
    go (stopped h a e) = absurd (false≢true h)

pub old_image : (bs : List ℕ) → read_as false bs ≡ read_image bs
unfolding read_as read_image
old_image bs = ap unless_contradicted (old_records bs)

pub old_step : (r : Recovering) → restore_as false r ≡ restore r
unfolding restore_as restore
old_step r = rw (old_image r.bytes)

pub old_call : (bs at : List ℕ) → recovery_call_as false bs at ≡ recovery_call bs at
unfolding recovery_call_as recovery_call
old_call bs at = rw (old_step _)
