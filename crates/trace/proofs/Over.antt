-- What goes out of the text of a piece.
use Rattle.std.proofs.Common.{◌≡◌, ℕ, ◌+◌, ◌<◌, ◌≤◌, suc, leb, List, [], ◌∷◌, ◌++◌, Option, length, take, drop, refl, subst, arith, length-take, length-take-le, take_all, take_at, take-take, take-append-drop}
use Rattle.std.proofs.lemmas.List.{set_past}
use Rattle.std.proofs.lemmas.List.Edits.{sets}
use Rattle.std.specs.Io.KnownBytes.{Appends}
use borrow.Author.Tests.{leb-false, leb-true}
use Rattle.lines.proofs.Paste.{sets_join, sets_paste, sets_whole}
use Rattle.pieces.specs.Streams.{AppendsFront}
use Rattle.tracing.specs.Results.{Put}
use Rattle.undo.proofs.Laws.{test}

-- ---- the text of a piece stands at the front of its buffer, as much as it has room for

stored_past : (d : List ℕ) (at : ℕ) (x : List ℕ) → length d ≤ at → sets d at x ≡ d
stored_past d at [] h = refl
stored_past d at (a ∷ x) h = rw (set_past d at a h) (stored_past d (suc at) x (omega arith))

text_front : (d d' x : List ℕ) (n : ℕ) → Put d d' 0 n x → take n d' ≡ take (length d) x
text_front d d' x n (e, f) =
    let m = length d in
    let c : n ≡ length x = omega arith in
    test (leb (length x) m)
    (λ t. let l : length x ≤ m = leb-true (length x) m t in
    let l' : 0 + length x ≤ m = omega arith in
    rw (e, c, take_all m x l, sets_paste d 0 x l') (take_at x (drop (0 + length x) d) (length x) refl))
    (λ t. let l : m < length x = leb-false (length x) m t in
    let w : length (take m x) ≡ m = length-take-le m x (omega arith) in
    let s : sets d 0 (take m x ++ drop m x) ≡ take m x =
    rw (sets_join d 0 (take m x) (drop m x), sets_whole d (take m x) w, w) (stored_past (take m x) (0 + m) (drop m x) (omega arith)) in
    let s' : sets d 0 x ≡ take m x = rw (take-append-drop m x) at s in
    rw (e, c, s') (take_all (length x) (take m x) (omega arith)))

-- a part from the front of a front
front_of : (k m : ℕ) (x : List ℕ) → (j : ℕ) × (take k (take m x) ≡ take j x)
front_of k m x =
    test (leb k m)
    (λ t. (k, take-take k m x (leb-true k m t)))
    (λ t. let l : length (take m x) ≤ m = simp length-take (omega arith) in
    (m, take_all k (take m x) (omega (arith, l, leb-false k m t))))

pub sent_front : (o o' : Option (List ℕ)) (d d' x : List ℕ) (n : ℕ) → Put d d' 0 n x → AppendsFront o o' (take n d') → AppendsFront o o' x
sent_front o o' d d' x n p (k, q) =
    let f = front_of k (length d) x in
    let q' : Appends o o' (take k (take (length d) x)) = subst (λ y. Appends o o' (take k y)) (text_front d d' x n p) q in
    (f.0, subst (Appends o o') f.1 q')

pub sent_text : (o o' : Option (List ℕ)) (d d' x : List ℕ) (n : ℕ) → Put d d' 0 n x → length d' ≡ length d → n ≤ length d' → Appends o o' (take n d') → Appends o o' x
sent_text o o' d d' x n p e h q =
    let l : length x ≤ length d = omega (arith, p.1) in
    subst (Appends o o') (take_all (length d) x l) (subst (Appends o o') (text_front d d' x n p) q)
