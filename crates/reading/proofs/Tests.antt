-- The kinds of records, and the tests of one record.
use Prim.Native.Nat.{◌*◌, ◌+◌, ◌-◌, ◌<◌, ◌≤◌, suc, zero, ℕ}
use mathlib.Core.Path.{◌≡◌, ap, refl, sym}
use mathlib.Core.Bool.{Bool, ◌&&◌, and-false, cond, false, or-false, true}
use mathlib.Core.List.{List, [], ◌∷◌}
use lib.Dec.{eqb, leb, ltb}
use lib.ListN.{drop, get_or, length, take}
use lib.Seq.{drop-cons, take_all}
use native.Mathlib.Omega.{arith}
use borrow.Author.Tests.{eqb-true, leb-true}
use Rattle.undo.proofs.Laws.{and_true, test}
use Rattle.headed.proofs.Old.{header_bounds}
use Rattle.rules.specs.Lists.{all}
use Rattle.rules.specs.Reader.{is_image_kind}
use Rattle.headed.specs.Reader.{headed_body, held_from, held_in, is_header, is_kind_of, is_on_board}
use Rattle.reading.specs.Item.{fields_item, item_of, placed}
use Rattle.reading.specs.Spots.{holds, is_log_kind}
use Rattle.std.specs.Prelude.{Err}
use Rattle.rules.specs.declared.Refusal.TheVariants.{CutShort, OutOfPlace, UnknownKind}
use Rattle.reading.specs.declared.Tally.{Tally}

-- ---- kinds

pub kind_low : (headed : Bool) (k : ℕ) → is_kind_of headed k ≡ true → 32 ≤ k
kind_low headed k e =
    test (is_header k)
    (λ h. omega (arith, header_bounds k h))
    (λ h. leb-true 32 k (and_true (leb 32 k) (leb k 36) (rw (h, and-false headed, or-false (is_image_kind k)) at e)).0)

-- a log record that is no header is of 35
plain_log : (k : ℕ) → is_log_kind k ≡ true → is_header k ≡ false → k ≡ 35
plain_log k e h = eqb-true k 35 (rw (h, or-false (eqb k 35)) at e)

pub log_high : (k : ℕ) → is_log_kind k ≡ true → 35 ≤ k
log_high k e = test (is_header k) (λ h. omega (arith, header_bounds k h)) (λ h. omega (arith, plain_log k e h))

-- its body, and how many entries it holds
pub log_body : (k : ℕ) → is_log_kind k ≡ true → headed_body k ≡ 3 + 65 * holds k
log_body k e = test (is_header k) (λ h. rw h) (λ h. rw (plain_log k e h))

pub some_held : (k : ℕ) → 1 ≤ holds k
some_held k = test (is_header k) (λ h. rw h (omega (arith, header_bounds k h))) (λ h. rw h (omega arith))

pub few_held : (k : ℕ) → holds k ≤ 7
few_held k = test (is_header k) (λ e. rw e (omega (arith, header_bounds k e))) (λ e. rw e (omega arith))

-- ---- whether the lines of the entries are below l, by their bytes

board_held : (l n : ℕ) (bs : List ℕ) (i m : ℕ) → 3 + i + m ≤ length bs → all (is_on_board l) (held_from n bs i m) ≡ all (λ x. ltb x l) (take m (drop (3 + i) bs))
unfolding held_from
board_held l n bs i zero h = refl
board_held l n bs i (suc m) h =
    let e : drop (3 + i) bs ≡ get_or bs (3 + i) 0 ∷ drop (suc (3 + i)) bs = drop-cons bs (3 + i) 0 (omega arith) in
    let o : 3 + suc i ≡ suc (3 + i) = omega arith in
    rw e (ap (λ b. ltb (get_or bs (3 + i) 0) l && b) (rw o at (board_held l n bs (suc i) m (omega arith))))

pub board_all : (l n m : ℕ) (bs : List ℕ) → m ≡ n → 3 + n ≤ length bs → all (λ x. ltb x l) (take m (drop 3 bs)) ≡ all (is_on_board l) (held_in n bs)
board_all l n m bs e h = rw e (sym (board_held l n bs 0 n (omega arith)))

-- ---- one record

pub item_empty : (headed : Bool) (s : Tally) (bs : List ℕ) → length bs < 1 → item_of headed s bs ≡ Err CutShort
unfolding item_of
item_empty headed s [] e = refl
item_empty headed s (b ∷ bs) e = absurd (omega arith)

-- the bytes behind the first
abbrev pub others : List ℕ → List ℕ
others bs = take (length bs - 1) (drop 1 bs)

pub item_some : (headed : Bool) (s : Tally) (bs : List ℕ) → 1 ≤ length bs → item_of headed s bs
    ≡ cond (is_kind_of headed (get_or bs 0 0))
    (cond (placed s (get_or bs 0 0)) (cond (leb (headed_body (get_or bs 0 0)) (length (others bs))) (fields_item s (get_or bs 0 0) (others bs)) (Err CutShort)) (Err OutOfPlace))
    (Err UnknownKind)
unfolding item_of
item_some headed s [] h = absurd (omega arith)
item_some headed s (b ∷ bs) h =
    let whole : take (length (b ∷ bs) - 1) bs ≡ bs = take_all (length (b ∷ bs) - 1) bs (omega arith) in
    rw whole
