-- The lines inside an image: a line that is put back, and the memory found.
use Prim.Native.Nat.{◌*◌, ◌+◌, ◌<◌, ◌^◌, suc, zero, ℕ}
use mathlib.Core.Path.{◌∙◌, ◌≡◌, ap, refl}
use mathlib.Core.Bool.{true}
use mathlib.Core.List.{List, [], ◌++◌, ◌∷◌, append_assoc}
use lib.ListN.{drop, length, length-set, set, take}
use native.Mathlib.Omega.{arith}
use lib.Seq.{drop-append-add, drop_at, drop-drop, take-append-add, take_at}
use Rattle.rules.proofs.Codec.Bytes.{all_set, is_line, length_bytes, length_words, num_bytes}
use Rattle.rules.proofs.Codec.Turns.{size_lines}
use Rattle.rules.proofs.Codec.Valid.{Valid}
use Rattle.rules.specs.Bytes.{bytes_of, line_bytes, num_of, paste}
use Rattle.rules.specs.History.{found_from, memory_found}
use Rattle.rules.specs.Image.{Logged, Persistent, encode, entry_record, head_record, line_record, region_record, with_medium}
use Rattle.rules.specs.Lists.{flat}
use Rattle.rules.specs.Recovery.{put_back}
use Rattle.rules.specs.Refusal.{in_range}

-- bytes behind a front part
paste_behind : (a d bs : List ℕ) (i : ℕ) → paste (a ++ d) (length a + i) bs ≡ a ++ paste d i bs
paste_behind a d bs i =
    let o : length a + i + length bs ≡ length a + (i + length bs) = omega arith in
    rw (o, take-append-add a d i, drop-append-add a d (i + length bs), append_assoc a (take i d) (bs ++ drop (i + length bs) d))

pub length_line : (l : List ℕ) → length (line_record l) ≡ 65
unfolding line_record
length_line l = ap suc (length_words 8 l)

paste_first : (x v t : List ℕ) → paste (line_record x ++ t) 1 (line_bytes v) ≡ line_record v ++ t
unfolding line_record
paste_first x v t = rw (length_words 8 v, drop_at (line_bytes x) t 64 (length_words 8 x))

-- the bytes of line i among the lines
paste_line : (m : List (List ℕ)) (i : ℕ) (v t : List ℕ) → i < length m
    → paste (flat line_record m ++ t) (65 * i + 1) (line_bytes v) ≡ flat line_record (set m i v) ++ t
unfolding flat
paste_line [] i v t h = absurd (omega arith)
paste_line (x ∷ m) zero v t h =
    rw (append_assoc (line_record x) (flat line_record m) t, append_assoc (line_record v) (flat line_record m) t) (paste_first x v (flat line_record m ++ t))
paste_line (x ∷ m) (suc i) v t h =
    let o : 65 * suc i + 1 ≡ length (line_record x) + (65 * i + 1) = omega (arith, length_line x) in
    rw (
      append_assoc (line_record x) (flat line_record m) t,
      append_assoc (line_record x) (flat line_record (set m i v)) t,
      o,
      paste_behind (line_record x) (flat line_record m ++ t) (line_bytes v) (65 * i + 1),
      paste_line m i v t (omega arith),
    )

pub length_head : (n l : ℕ) → length (head_record n l) ≡ 4
unfolding head_record
length_head n l = ap suc (ap suc (length_bytes 2 l))

-- an entry that is put back behind a head and lines, whatever stands behind these
pub put_front : (n l : ℕ) (m : List (List ℕ)) (t : List ℕ) (e : Logged) → e.line < length m
    → put_back e (head_record n l ++ (flat line_record m ++ t)) ≡ head_record n l ++ (flat line_record (set m e.line e.old) ++ t)
put_front n l m t e h =
    let o : 4 + (65 * e.line + 1) ≡ length (head_record n l) + (65 * e.line + 1) = omega (arith, length_head n l) in
    rw (o, paste_behind (head_record n l) (flat line_record m ++ t) (line_bytes e.old) (65 * e.line + 1), paste_line m e.line e.old t h)

-- so an entry that is put back into an image gives the image of the state in which its line is put back
pub put_back_lem : (p : Persistent) (e : Logged) → Valid p → e.line < p.lines → put_back e (encode p) ≡ encode (with_medium (set p.medium e.line e.old) p)
unfolding encode
put_back_lem p e v h =
    put_front p.threads p.lines p.medium (flat region_record p.regions ++ (flat entry_record p.log ++ (36 ∷ []))) e (omega (arith, v.whole))

pub put_valid : (p : Persistent) (e : Logged) → Valid p → is_line e.old ≡ true → Valid (with_medium (set p.medium e.line e.old) p)
put_valid p e v o =
    record {
      size = v.size;
      whole = length-set p.medium e.line e.old ∙ v.whole;
      medium = all_set is_line p.medium e.line e.old v.medium o;
      few = v.few;
      rising = v.rising;
      regions = v.regions;
      room = v.room;
      climbing = v.climbing;
      entries = v.entries;
    }

-- ---- the memory found

take_line : (x t : List ℕ) → take 64 (drop 1 (line_record x ++ t)) ≡ line_bytes x
unfolding line_record
take_line x t = take_at (line_bytes x) t 64 (length_words 8 x)

-- lines that stand behind i others
found_from_lem : (i : ℕ) (bs : List ℕ) (m : List (List ℕ)) (t : List ℕ) → drop (4 + 65 * i) bs ≡ flat line_record m ++ t → found_from i (length m) bs ≡ flat line_bytes m
unfolding found_from flat
found_from_lem i bs [] t e = refl
found_from_lem i bs (x ∷ m) t e =
    let a : drop (4 + 65 * i) bs ≡ line_record x ++ (flat line_record m ++ t) = e ∙ append_assoc (line_record x) (flat line_record m) t in
    let o : 4 + (65 * i + 1) ≡ 4 + 65 * i + 1 = omega arith in
    let q : 4 + 65 * suc i ≡ 4 + 65 * i + 65 = omega arith in
    let b : drop (4 + 65 * suc i) bs ≡ flat line_record m ++ t =
    rw (q, ← drop-drop 65 (4 + 65 * i) bs, a) (drop_at (line_record x) (flat line_record m ++ t) 65 (length_line x)) in
    rw (o, ← drop-drop 1 (4 + 65 * i) bs, a, take_line x (flat line_record m ++ t), found_from_lem (suc i) bs m t b)

-- the number of lines in the head
head_lines : (n l : ℕ) (t : List ℕ) → l < 256 ^ 2 → num_of (take 2 (drop 2 (head_record n l ++ t))) ≡ l
unfolding head_record
head_lines n l t h = rw (take_at (bytes_of 2 l) t 2 (length_bytes 2 l)) (num_bytes 2 l h)

-- of a head and lines, whatever stands behind these
pub found_front : (n l : ℕ) (m : List (List ℕ)) (t : List ℕ) → in_range n l ≡ true → length m ≡ l → memory_found (head_record n l ++ (flat line_record m ++ t)) ≡ flat line_bytes m
found_front n l m t size whole =
    let h = head_record n l in
    let s : l < 256 ^ 2 = omega (arith, (size_lines n l size).1) in
    let d : drop (4 + 65 * 0) (h ++ (flat line_record m ++ t)) ≡ flat line_record m ++ t = drop_at h (flat line_record m ++ t) 4 (length_head n l) in
    rw (head_lines n l (flat line_record m ++ t) s) (rw whole at (found_from_lem 0 (h ++ (flat line_record m ++ t)) m t d))

pub found : (p : Persistent) → Valid p → memory_found (encode p) ≡ flat line_bytes p.medium
unfolding encode
found p v = found_front p.threads p.lines p.medium (flat region_record p.regions ++ (flat entry_record p.log ++ (36 ∷ []))) v.size v.whole
