-- The log entries that a new image holds by its bytes are those of its state.
use Prim.Native.Nat.{◌+◌, ◌-◌, suc, zero, ℕ}
use mathlib.Core.Path.{◌∙◌, ◌≡◌, ap, refl}
use mathlib.Core.Bool.{◌&&◌, cond, true}
use mathlib.Core.List.{List, [], ◌++◌, ◌∷◌, append_assoc}
use lib.Dec.{eqb}
use lib.ListN.{drop, length, length-append}
use lib.Seq.{drop_at}
use native.Mathlib.Omega.{arith}
use borrow.Author.Tests.{eqb-true}
use Rattle.headed.proofs.Groups.{all_grouped, nothing_lost}
use Rattle.headed.proofs.Header.{body_long, header_is, header_body}
use Rattle.headed.specs.Claim.{Grouped, group, held, none}
use Rattle.headed.specs.Image.{encode_headed, headed_record, log_records}
use Rattle.headed.specs.Reader.{headed_body, held_by, is_header}
use Rattle.rules.proofs.Codec.Bytes.{length_bytes, length_words}
use Rattle.rules.proofs.Codec.Turns.{length_region, region_body}
use Rattle.rules.proofs.Codec.Valid.{Valid, fits_region}
use Rattle.rules.specs.Bytes.{bytes_of, line_bytes}
use Rattle.rules.specs.Claim.{is_byte}
use Rattle.rules.specs.Image.{Persistent, head_record, line_record, region_record}
use Rattle.rules.specs.Lists.{all, flat}
use Rattle.rules.specs.Reader.{is_known_thread}
use Rattle.rules.specs.declared.Listed.{Listed}
use Rattle.undo.proofs.Laws.{and_true}
use Rattle.alike.specs.Alike.{entries_under}

passed : (n : ℕ) (bs : List ℕ) → entries_under n bs ≡ entries_under 0 (drop n bs)
unfolding entries_under
passed zero bs = refl
passed (suc n) [] = refl
passed (suc n) (b ∷ bs) = passed n bs

-- a whole record at the front
one_record : (k : ℕ) (bs more : List ℕ) → length bs ≡ headed_body k → entries_under 0 (k ∷ (bs ++ more)) ≡ cond (is_header k) (held_by k) (cond (eqb k 35) 1 0) + entries_under 0 more
unfolding entries_under
one_record k bs more h = rw (passed (headed_body k) (bs ++ more), drop_at bs more (headed_body k) h)

lines_none : (m : List (List ℕ)) (more : List ℕ) → entries_under 0 (flat line_record m ++ more) ≡ entries_under 0 more
unfolding flat line_record
lines_none [] more = refl
lines_none (x ∷ m) more =
    rw (append_assoc (line_bytes x) (flat line_record m) more)
    (one_record 33 (line_bytes x) (flat line_record m ++ more) (length_words 8 x) ∙ omega (arith, lines_none m more))

regions_none : (n : ℕ) (rs : List Listed) (more : List ℕ) → all (fits_region n) rs ≡ true → entries_under 0 (flat region_record rs ++ more) ≡ entries_under 0 more
unfolding flat region_record
regions_none n [] more e = refl
regions_none n (r ∷ rs) more e =
    let a = and_true (fits_region n r) (all (fits_region n) rs) e in
    let b = and_true (all (is_known_thread n) (r.key ∷ r.deps)) (eqb (length r.deps) 4 && is_byte r.state) a.0 in
    let c = and_true (eqb (length r.deps) 4) (is_byte r.state) b.1 in
    rw (append_assoc (region_body r) (flat region_record rs) more)
    (one_record 34 (region_body r) (flat region_record rs ++ more) (length_region r (eqb-true (length r.deps) 4 c.0)) ∙ omega (arith, regions_none n rs more a.1))

headers_all : {gs : List (List _)} (more : List ℕ) → Grouped gs → entries_under 0 (flat headed_record gs ++ more) ≡ length (held gs) + entries_under 0 more
unfolding flat headed_record
headers_all more none = omega arith
headers_all more (group e es gs few same apart g) =
    let j = suc (length es) in
    let i : is_header (40 + j) ≡ true = header_is j (omega arith) (omega arith) in
    let q : 40 + j - 40 ≡ j = omega arith in
    let l : length (header_body (e ∷ es)) ≡ headed_body (40 + j) = rw (i, q) (body_long (e ∷ es)) in
    let one = one_record (40 + j) (header_body (e ∷ es)) (flat headed_record gs ++ more) l in
    rw (append_assoc (header_body (e ∷ es)) (flat headed_record gs) more)
    (one ∙ rw (i, q) (omega (arith, headers_all more g, length-append es (held gs))))

pub entries_under_lem : (p : Persistent) → Valid p → entries_under 0 (encode_headed p) ≡ length p.log
unfolding encode_headed head_record entries_under
entries_under_lem p v =
    let gs = log_records p.log in
    let rest = flat headed_record gs ++ (36 ∷ []) in
    let a = one_record 32 (p.threads ∷ bytes_of 2 p.lines) (flat line_record p.medium ++ (flat region_record p.regions ++ rest)) (ap suc (length_bytes 2 p.lines)) in
    let b = lines_none p.medium (flat region_record p.regions ++ rest) in
    let c = regions_none p.threads p.regions rest v.regions in
    let d = headers_all (36 ∷ []) (all_grouped (length p.log) p.log (omega arith)) in
    let l = ap length (nothing_lost (length p.log) p.log (omega arith)) in
    a ∙ omega (arith, b, c, d, l)
