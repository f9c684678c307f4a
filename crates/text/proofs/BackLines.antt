-- Fields and lines are read back.
use Prim.Native.Nat.{◌*◌, ◌+◌, ◌<◌, ◌^◌, ◌≤◌, suc, zero, ℕ}
use mathlib.Core.Path.{◌∙◌, ◌≡◌, ap, refl, sym}
use mathlib.Core.Bool.{Bool, ◌&&◌, ◌||◌, false≢true, not, true}
use mathlib.Core.List.{List, [], ◌++◌, ◌∷◌, map}
use lib.Dec.{eqb, ltb}
use lib.ListN.{get_or-eq_default, drop, get_or, length, length-drop, replicate, take, take-append-drop}
use native.Mathlib.Omega.{arith}
use borrow.Author.Tests.{eqb-false, eqb-true, lt-ltb, ltb-false, ltb-true, ne_eqb}
use lib.Seq.{length-take-le}
use native.Mathlib.Nat.{add-zero, pow-suc, zero-add}
use Rattle.std.specs.Prelude.{Some}
use Rattle.events.proofs.Table.{body_total, fitting}
use Rattle.events.specs.Row.{is_width}
use Rattle.lines.proofs.Words.{Bytes, a_byte, bytes_num, no_byte}
use Rattle.output.specs.Decimal.{decimal}
use Rattle.parsing.proofs.Numbers.{number_some}
use Rattle.parsing.specs.Read.{behind, bytes_line, complete, field, fields_from, got, kind_bytes, kind_of, kind_then, most_of, no_word, number_in, other_line, same, width_at, words_in, words_read}
use Rattle.printing.proofs.Pieces.{numbers_front}
use Rattle.printing.specs.Text.{number_text, numbers_of}
use Rattle.rules.specs.Bytes.{bytes_of, num_of}
use Rattle.rules.specs.Kinds.{bytes_word, is_kind, kind_at, kinds, no_kind, total, widths_of, word_of}
use Rattle.rules.specs.Lists.{all, flat, place}
use Rattle.rules.specs.Record.{body_length}
use Rattle.text.proofs.Back.{decimal_back, line_words, plain}
use Rattle.undo.proofs.Laws.{and_true, test}
use Rattle.rules.proofs.Codec.Only.{nothing_left}

-- ---- the bytes of a field

num_below : {bs : List ℕ} → Bytes bs → num_of bs < 256 ^ length bs
unfolding num_of
num_below no_byte = omega arith
num_below (a_byte {b} {bs} h hs) = let ih = num_below hs in omega (arith, pow-suc 256 (length bs))

bytes_take : (n : ℕ) {bs : List ℕ} → Bytes bs → Bytes (take n bs)
bytes_take zero hs = no_byte
bytes_take (suc n) no_byte = no_byte
bytes_take (suc n) (a_byte h hs) = a_byte h (bytes_take n hs)

pub bytes_drop : (n : ℕ) {bs : List ℕ} → Bytes bs → Bytes (drop n bs)
bytes_drop zero hs = hs
bytes_drop (suc n) no_byte = no_byte
bytes_drop (suc n) (a_byte h hs) = bytes_drop n hs

-- a width that a field may have: its numbers are those that so many bytes hold
record Width (w : ℕ) : Type 0 where
  some : w ≡ 0 → ⊥
  limit : 256 ^ w ≡ suc (most_of w)
  small : most_of w < 18446744073709551616

width1 : Width 1
unfolding most_of
width1 = record { some = λ e. omega arith; limit = refl; small = omega arith }

width2 : Width 2
unfolding most_of
width2 = record { some = λ e. omega arith; limit = refl; small = omega arith }

width8 : Width 8
unfolding most_of
width8 = record { some = λ e. omega arith; limit = refl; small = omega arith }

field_back : (w : ℕ) (bs : List ℕ) → Width w → Bytes bs → w ≤ length bs → number_in w (decimal (num_of (take w bs))) ≡ Some (num_of (take w bs))
field_back w bs h b l =
    let n = num_of (take w bs) in
    let e : length (take w bs) ≡ w = length-take-le w bs l in
    let s : n < 256 ^ w = rw e at (num_below (bytes_take w b)) in
    let m : n ≤ most_of w = omega (arith, h.limit) in
    number_some w (decimal n) h.some ∙ decimal_back (most_of w) n (omega (arith, h.small)) m

field_bytes : (w : ℕ) (bs : List ℕ) → Bytes bs → w ≤ length bs → bytes_of w (num_of (take w bs)) ≡ take w bs
field_bytes w bs b l = rw (length-take-le w bs l) at (bytes_num (bytes_take w b))

-- ---- the fields of a line

-- the widths ws are those of a line of kind k from field f on
data Follows (k : ℕ) : ℕ → List ℕ → Type 0 where
  done : {f : ℕ} → complete k f ≡ true → Follows k f []
  one : {f w : ℕ} {ws : List ℕ} → width_at k f ≡ w → Width w → Follows k (suc f) ws → Follows k f (w ∷ ws)

got_nil : (k f : ℕ) → complete k f ≡ true → fields_from k f [] ≡ got [] true
unfolding fields_from
got_nil k f e = rw e

got_one : (k f v : ℕ) (w : List ℕ) (ws : List (List ℕ)) → number_in (width_at k f) w ≡ Some v → fields_from k f (w ∷ ws) ≡ behind (bytes_of (width_at k f) v) (fields_from k (suc f) ws)
unfolding fields_from field
got_one k f v w ws e = rw e

pub behind_got : (xs ys : List ℕ) → behind xs (got ys true) ≡ got (xs ++ ys) true
unfolding behind got
behind_got xs ys = refl

fields_back : (k f : ℕ) (ws bs : List ℕ) → Follows k f ws → Bytes bs → length bs ≡ total ws → fields_from k f (map decimal (numbers_of ws bs)) ≡ got bs true
unfolding numbers_of
fields_back k f [] bs (done e) b l = rw (nothing_left bs l) (got_nil k f e)
fields_back k f (w ∷ ws) bs (one e h fs) b l =
    let t : w ≤ length bs = omega arith in
    let d : length (drop w bs) ≡ total ws = rw (length-drop, l) (omega arith) in
    let n : number_in (width_at k f) (decimal (num_of (take w bs))) ≡ Some (num_of (take w bs)) = rw e (field_back w bs h b t) in
    let ih = fields_back k (suc f) ws (drop w bs) fs (bytes_drop w b) d in
    got_one k f (num_of (take w bs)) (decimal (num_of (take w bs))) (map decimal (numbers_of ws (drop w bs))) n ∙ rw (e, ih, field_bytes w bs b t, behind_got (take w bs) (drop w bs), take-append-drop)

-- ---- the kinds

-- a width of the table is one of these
is_width_lem : (w : ℕ) → is_width w ≡ true → Width w
is_width_lem w e = test (eqb w 1) (λ a. rw (eqb-true w 1 a) width1) (λ a. test (eqb w 2) (λ b. rw (eqb-true w 2 b) width2) (λ b. rw (eqb-true w 8 (rw (a, b) at e)) width8))

-- a kind stands in the table
in_table : (k : ℕ) → is_kind k ≡ true → k < length kinds
unfolding kind_at
in_table k h =
    test (ltb k (length kinds)) (λ e. ltb-true k (length kinds) e)
    (λ e. absurd (false≢true (rw (get_or-eq_default kinds no_kind (ltb-false k (length kinds) e)) at h)))

-- the numbers of an event
event_width : (k f : ℕ) → is_kind k ≡ true → width_at k f ≡ get_or (widths_of k) f 0
unfolding width_at
event_width k f h = rw (ne_eqb k bytes_line (λ e. omega (arith, in_table k h)))

event_complete : (k f : ℕ) → is_kind k ≡ true → get_or (widths_of k) f 0 ≡ 0 → complete k f ≡ true
unfolding complete
event_complete k f h e = rw (ne_eqb k bytes_line (λ z. omega (arith, in_table k h)), event_width k f h, e)

follow : (k f : ℕ) (ws : List ℕ) → is_kind k ≡ true → all is_width ws ≡ true → ((i : ℕ) → get_or (widths_of k) (f + i) 0 ≡ get_or ws i 0) → Follows k f ws
follow k f [] h e g = done (event_complete k f h (let z = g 0 in rw add-zero at z))
follow k f (w ∷ ws) h e g =
    let p = and_true (is_width w) (all is_width ws) e in
    one (event_width k f h ∙ (let z = g 0 in rw add-zero at z)) (is_width_lem w p.0)
    (follow k (suc f) ws h p.1 (λ i. let z = g (suc i) in let n : f + suc i ≡ suc f + i = omega arith in rw n at z))

-- every kind of the table has a word that begins its line and nothing else: one test over the table
abbrev named : ℕ → Bool
named k = not (is_kind k) || (all plain (word_of k) && eqb (kind_of (word_of k)) k)

-- a test of every number below n
below : (ℕ → Bool) → ℕ → Bool
below p zero = true
below p (suc n) = p n && below p n

below_at : (p : ℕ → Bool) (n k : ℕ) → below p n ≡ true → k < n → p k ≡ true
unfolding below
below_at p zero k e h = absurd (omega arith)
below_at p (suc n) k e h =
    let q = and_true (p n) (below p n) e in
    test (eqb k n) (λ a. rw (eqb-true k n a) q.0) (λ a. below_at p n k q.1 (omega (arith, eqb-false k n a)))

all_named : below named (length kinds) ≡ true
unfolding below kind_at plain kind_of place same
all_named = refl

record Kind (k : ℕ) : Type 0 where
  some : 0 < length (word_of k)
  pure : all plain (word_of k) ≡ true
  begins : kind_of (word_of k) ≡ k
  follows : Follows k 0 (widths_of k)

kind : (k : ℕ) → is_kind k ≡ true → Kind k
kind k h =
    let t = below_at named (length kinds) k all_named (in_table k h) in
    let b = and_true (all plain (word_of k)) (eqb (kind_of (word_of k)) k) (rw h at t) in
    record {
      some = ltb-true 0 (length (word_of k)) h;
      pure = b.0;
      begins = eqb-true (kind_of (word_of k)) k b.1;
      follows = follow k 0 (widths_of k) h (fitting k).wide (λ i. rw (zero-add i));
    }

-- ---- a line of an event

kind_then_lem : (k : ℕ) (ws : List (List ℕ)) → is_kind k ≡ true → kind_then k ws ≡ behind (k ∷ []) (fields_from k 0 ws)
unfolding kind_then kind_bytes
kind_then_lem k ws h = rw (ne_eqb k no_word (λ e. omega (arith, in_table k h)), ne_eqb k bytes_line (λ e. omega (arith, in_table k h)))

words_first : (w : List ℕ) (ws : List (List ℕ)) → words_read (w ∷ ws) ≡ kind_then (kind_of w) ws
unfolding words_read
words_first w ws = refl

pub name_plain : (k : ℕ) → is_kind k ≡ true → all plain (word_of k) ≡ true
name_plain k h = (kind k h).pure

pub event_back : (k : ℕ) (body : List ℕ) → is_kind k ≡ true → Bytes body → body_length k ≤ length body → words_read (words_in (word_of k ++ flat number_text (numbers_of (widths_of k) body))) ≡ got (k ∷ take (body_length k) body) true
event_back k body h b l =
    let kd = kind k h in
    let n = body_length k in
    let t : length (take n body) ≡ total (widths_of k) = length-take-le n body l ∙ body_total k in
    let f : numbers_of (widths_of k) body ≡ numbers_of (widths_of k) (take n body) = ap (numbers_of (widths_of k)) (sym (take-append-drop n body)) ∙ numbers_front (widths_of k) (take n body) (drop n body) (omega arith) in
    rw (f, line_words (word_of k) (numbers_of (widths_of k) (take n body)) kd.some kd.pure, words_first, kd.begins, kind_then_lem k (map decimal (numbers_of (widths_of k) (take n body))) h, fields_back k 0 (widths_of k) (take n body) kd.follows (bytes_take n b) t, behind_got)

-- ---- a line of bytes

bytes_width : (f : ℕ) → width_at bytes_line f ≡ 1
unfolding width_at
bytes_width f = refl

bytes_complete : (f : ℕ) → 0 < f → complete bytes_line f ≡ true
unfolding complete
bytes_complete f h = lt-ltb 0 f h

bytes_follow : (f n : ℕ) → 0 < f + n → Follows bytes_line f (replicate n 1)
bytes_follow f zero h = done (bytes_complete f (omega arith))
bytes_follow f (suc n) h = one (bytes_width f) width1 (bytes_follow (suc f) n (omega arith))

ones_total : (n : ℕ) → total (replicate n 1) ≡ n
ones_total zero = refl
ones_total (suc n) = rw (ones_total n) (omega arith)

ones_numbers : (bs : List ℕ) → numbers_of (replicate (length bs) 1) bs ≡ bs
unfolding numbers_of num_of
ones_numbers [] = refl
ones_numbers (b ∷ bs) = let e : b + 256 * 0 ≡ b = omega arith in rw (e, ones_numbers bs)

bytes_then : (ws : List (List ℕ)) → kind_then bytes_line ws ≡ behind [] (fields_from bytes_line 0 ws)
unfolding kind_then kind_bytes
bytes_then ws = refl

pub bytes_plain : all plain bytes_word ≡ true
unfolding plain
bytes_plain = refl

bytes_named : kind_of bytes_word ≡ bytes_line
unfolding kind_of other_line place same
bytes_named = refl

pub bytes_back : (bs : List ℕ) → 0 < length bs → Bytes bs → words_read (words_in (bytes_word ++ flat number_text bs)) ≡ got bs true
bytes_back bs z b =
    let ws : List ℕ = replicate (length bs) 1 in
    let f : fields_from bytes_line 0 (map decimal bs) ≡ got bs true = rw (ones_numbers bs) at (fields_back bytes_line 0 ws bs (bytes_follow 0 (length bs) (omega arith)) b (sym (ones_total (length bs)))) in
    rw (line_words bytes_word bs (omega arith) bytes_plain, words_first, bytes_named, bytes_then, f, behind_got)
