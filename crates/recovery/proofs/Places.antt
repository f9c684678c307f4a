-- Records of one length, one behind the other, and the lines of an image that is accepted.
use Prim.Native.Nat.{◌*◌, ◌+◌, ◌<◌, ◌≤◌, suc, zero, ℕ}
use mathlib.Core.Bool.{Bool, ◌&&◌, true}
use mathlib.Core.List.{List, [], ◌++◌, ◌∷◌, append_assoc}
use mathlib.Core.Path.{◌≡◌, refl}
use mathlib.Core.Logic.{⊎_elim}
use lib.Dec.{eqb}
use lib.ListN.{drop, get_or, length, length-append}
use lib.Seq.{drop-append-add}
use native.Mathlib.Omega.{arith}
use borrow.Author.Tests.{eqb-true, lt-ltb}
use Rattle.headed.proofs.Groups.{all_grouped, nothing_lost}
use Rattle.headed.proofs.Header.{body_long}
use Rattle.headed.proofs.Only.{records_either_as}
use Rattle.headed.specs.Claim.{Grouped, group, held, none}
use Rattle.headed.specs.Image.{encode_headed, headed_record, log_records}
use Rattle.headed.specs.Reader.{records_read_as}
use Rattle.rules.proofs.Codec.Store.{length_head, length_line}
use Rattle.rules.proofs.Codec.Turns.{entry_long, region_long, size_lines}
use Rattle.rules.proofs.Codec.Valid.{Valid, fits_region}
use Rattle.rules.specs.Claim.{is_byte}
use Rattle.rules.specs.Image.{Logged, Persistent, encode, entry_record, head_record, line_record, region_record}
use Rattle.rules.specs.Lists.{all, flat}
use Rattle.rules.specs.Reader.{Reads, is_known_thread}
use Rattle.rules.specs.Recovery.{line_start}
use Rattle.rules.specs.declared.Listed.{Listed}
use Rattle.undo.proofs.Laws.{and_true}

-- ---- a list of bytes

pub all_bytes : (bs : List ℕ) → ((i : ℕ) → get_or bs i 0 < 256) → all is_byte bs ≡ true
all_bytes [] h = refl
all_bytes (b ∷ bs) h = rw (lt-ltb b 256 (h 0)) (all_bytes bs (λ i. h (suc i)))

-- ---- records of one length, one behind the other

module _ {A : Type 0} (f : A → List ℕ) (w : ℕ) (ok : A → Bool) (long : (x : A) → ok x ≡ true → length (f x) ≡ w) where
  pub flat_length : (xs : List A) → all ok xs ≡ true → length (flat f xs) ≡ w * length xs
  unfolding flat
  flat_length [] e = omega arith
  flat_length (x ∷ xs) e =
      let b = and_true (ok x) (all ok xs) e in
      rw (length-append (f x) (flat f xs), long x b.0, flat_length xs b.1) (omega arith)

  -- at the record of element i
  pub flat_at : (xs : List A) (i : ℕ) (d : A) (t : List ℕ) → all ok xs ≡ true → i < length xs
      → drop (w * i) (flat f xs ++ t) ≡ f (get_or xs i d) ++ (flat f (drop (suc i) xs) ++ t)
  unfolding flat
  flat_at [] i d t e h = absurd (omega arith)
  flat_at (x ∷ xs) zero d t e h = let o : w * 0 ≡ 0 = omega arith in rw o (append_assoc (f x) (flat f xs) t)
  flat_at (x ∷ xs) (suc i) d t e h =
      let b = and_true (ok x) (all ok xs) e in
      let o : w * suc i ≡ length (f x) + w * i = rw (long x b.0) (omega arith) in
      rw (o, append_assoc (f x) (flat f xs) t, drop-append-add (f x) (flat f xs ++ t) (w * i)) (flat_at xs i d t b.1 (omega arith))

-- ---- the records of an image

pub no_test : {A : Type 0} (xs : List A) → all (λ x. true) xs ≡ true
no_test [] = refl
no_test (x ∷ xs) = no_test xs

fit_long : (n : ℕ) (r : Listed) → fits_region n r ≡ true → length (region_record r) ≡ 17
fit_long n r e =
    let a = and_true (all (is_known_thread n) (r.key ∷ r.deps)) (eqb (length r.deps) 4 && is_byte r.state) e in
    let b = and_true (eqb (length r.deps) 4) (is_byte r.state) a.1 in
    region_long r (eqb-true (length r.deps) 4 b.0)

-- ---- the image of a state, in either form

-- the front, what holds the log entries, and the end
abbrev image_by : Persistent → List ℕ → List ℕ
image_by p t = head_record p.threads p.lines ++ (flat line_record p.medium ++ (flat region_record p.regions ++ (t ++ (36 ∷ []))))

-- log entries take at most 69 bytes each
pub record Image (p : Persistent) (bs : List ℕ) : Type 0 where
  pub valid : Valid p
  pub log : List ℕ
  pub short : length log ≤ 69 * length p.log
  pub same : bs ≡ image_by p log

pub old_form : (p : Persistent) → Valid p → Image p (encode p)
unfolding encode
old_form p v =
    let l = flat_length entry_record 69 (λ x. true) (λ x _. entry_long x) p.log (no_test p.log) in
    record { valid = v; log = flat entry_record p.log; short = omega arith; same = refl }

headed_short : {gs : List (List Logged)} → Grouped gs → length (flat headed_record gs) ≤ 69 * length (held gs)
unfolding flat headed_record
headed_short none = omega arith
headed_short (group e es gs few same apart g) =
    let ih = headed_short g in
    omega (arith, length-append (headed_record (e ∷ es)) (flat headed_record gs), body_long (e ∷ es), length-append es (held gs))

new_form : (p : Persistent) → Valid p → Image p (encode_headed p)
unfolding encode_headed
new_form p v =
    let gs = log_records p.log in
    let h = headed_short (all_grouped (length p.log) p.log (omega arith)) in
    record { valid = v; log = flat headed_record gs; short = rw (nothing_lost (length p.log) p.log (omega arith)) at h; same = refl }

-- bytes that are accepted
pub accepted_image : (headed : Bool) (bs : List ℕ) (p : Persistent) → all is_byte bs ≡ true → records_read_as headed bs ≡ Reads p → Image p bs
accepted_image headed bs p y e =
    let a = records_either_as headed bs p y e in
    ⊎_elim (λ q. rw q (old_form p a.0)) (λ q. rw q (new_form p a.0)) a.1

module _ {p : Persistent} {bs : List ℕ} (i : Image p bs) where
  -- no image is longer than that of 256 lines, 32 regions and 256 log entries
  pub image_short : length p.log ≤ 256 → length bs ≤ 34853
  image_short h =
      let v = i.valid in
      let n = head_record p.threads p.lines in
      let m = flat line_record p.medium in
      let r = flat region_record p.regions in
      let e = i.log in
      rw i.same
      (omega (
        arith,
        v.whole,
        v.few,
        i.short,
        (size_lines p.threads p.lines v.size).1,
        length_head p.threads p.lines,
        length-append n (m ++ (r ++ (e ++ (36 ∷ [])))),
        length-append m (r ++ (e ++ (36 ∷ []))),
        length-append r (e ++ (36 ∷ [])),
        length-append e (36 ∷ []),
        flat_length line_record 65 (λ x. true) (λ x _. length_line x) p.medium (no_test p.medium),
        flat_length region_record 17 (fits_region p.threads) (fit_long p.threads) p.regions v.regions,
      ))

  -- the line of a log entry is inside
  pub line_inside : (l : ℕ) → l < p.lines → line_start l + 64 ≤ length bs
  line_inside l h =
      let n = head_record p.threads p.lines in
      let m = flat line_record p.medium in
      let t = flat region_record p.regions ++ (i.log ++ (36 ∷ [])) in
      rw i.same
      (omega (
        arith,
        i.valid.whole,
        length_head p.threads p.lines,
        length-append n (m ++ t),
        length-append m t,
        flat_length line_record 65 (λ x. true) (λ x _. length_line x) p.medium (no_test p.medium),
      ))
