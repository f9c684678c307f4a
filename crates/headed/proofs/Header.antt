-- A record of kind 41 to 47: what is written is read back, and what is read is written back.
use Prim.Native.Nat.{◌*◌, ◌+◌, ◌<◌, ◌≤◌, suc, zero, ℕ}
use mathlib.Core.Path.{◌∙◌, ◌≡◌, ap, refl, sym}
use mathlib.Core.Bool.{true}
use mathlib.Core.List.{List, [], ◌++◌, ◌∷◌, append_assoc, map}
use lib.ListN.{drop, get_or, length, length-append, length-map}
use lib.Seq.{append_snoc, drop_at, drop-cons, drop-drop, get_or_at, get_or-drop}
use native.Mathlib.Omega.{arith}
use borrow.Author.Tests.{eqb-true, le-leb}
use Rattle.rules.proofs.Codec.Bytes.{is_line, key_back, key_part, length_bytes, length_words, line_back, line_part, line_small}
use Rattle.rules.specs.Bytes.{bytes_of, line_at, line_bytes, num_of}
use Rattle.rules.specs.Claim.{is_byte}
use Rattle.rules.specs.Image.{Logged, key_bytes}
use Rattle.rules.specs.Lists.{all, flat}
use Rattle.rules.specs.Reader.{key_at}
use Rattle.rules.specs.Tables.{number_of, thread_of}
use Rattle.undo.proofs.Laws.{and_true, is_same}
use Rattle.headed.specs.Claim.{is_of}
use Rattle.headed.specs.Image.{headed_record, record_key}
use Rattle.headed.specs.Reader.{entry_in, held_from, held_in, is_header}

-- ---- kinds

pub header_is : (n : ℕ) → 1 ≤ n → n ≤ 7 → is_header (40 + n) ≡ true
header_is n a b = rw (le-leb 41 (40 + n) (omega arith), le-leb (40 + n) 47 (omega arith))

-- ---- the parts of a body

abbrev pub lines_in : List Logged → List ℕ
lines_in es = map (λ e. e.line) es

abbrev pub olds_in : List Logged → List ℕ
olds_in es = flat (λ e. line_bytes e.old) es

abbrev pub header_body : List Logged → List ℕ
header_body es = key_bytes (record_key es) ++ (lines_in es ++ olds_in es)

olds_long : (es : List Logged) → length (olds_in es) ≡ 64 * length es
unfolding flat
olds_long [] = refl
olds_long (e ∷ es) = rw (length-append (line_bytes e.old) (olds_in es), length_words 8 e.old, olds_long es) (omega arith)

pub body_long : (es : List Logged) → length (header_body es) ≡ 3 + 65 * length es
body_long es =
    omega (
      arith,
      length-append (key_bytes (record_key es)) (lines_in es ++ olds_in es),
      length-append (lines_in es) (olds_in es),
      length-map es (λ e. e.line),
      olds_long es,
      length_bytes 2 (number_of (record_key es)),
    )

-- ---- read back

lines_append : (es fs : List Logged) → lines_in (es ++ fs) ≡ lines_in es ++ lines_in fs
lines_append [] fs = refl
lines_append (e ∷ es) fs = ap (λ xs. e.line ∷ xs) (lines_append es fs)

olds_append : (es fs : List Logged) → olds_in (es ++ fs) ≡ olds_in es ++ olds_in fs
unfolding flat
olds_append [] fs = refl
olds_append (e ∷ es) fs = rw (olds_append es fs) (sym (append_assoc (line_bytes e.old) (olds_in es) (olds_in fs)))

-- a body by its key and what is behind it
module _ (n k : ℕ) (g : List Logged) (bs more : List ℕ) (key : key_at bs 0 ≡ k) (body : drop 3 bs ≡ lines_in g ++ (olds_in g ++ more)) (whole : length g ≡ n) where
  line_there : (pre : List Logged) (e : Logged) (post : List Logged) → pre ++ (e ∷ post) ≡ g → get_or bs (3 + length pre) 0 ≡ e.line
  line_there pre e post q =
      let r : drop 3 bs ≡ lines_in pre ++ (e.line ∷ (lines_in post ++ (olds_in g ++ more)))
      = body ∙ rw (← q, lines_append pre (e ∷ post)) (append_assoc (lines_in pre) (e.line ∷ lines_in post) (olds_in (pre ++ (e ∷ post)) ++ more)) in
      rw (← get_or-drop 3 bs (length pre) 0, r) (get_or_at (lines_in pre) e.line _ 0 (length pre) (length-map pre (λ e. e.line)))

  old_there : (pre : List Logged) (e : Logged) (post : List Logged) → pre ++ (e ∷ post) ≡ g → is_line e.old ≡ true → (entry_in n bs (length pre)).old ≡ e.old
  unfolding flat
  old_there pre e post q o =
      let i = length pre in
      let a : 3 + n + 64 * i ≡ 3 + (n + 64 * i) = omega arith in
      let b : drop n (lines_in g ++ (olds_in g ++ more)) ≡ olds_in g ++ more = drop_at (lines_in g) (olds_in g ++ more) n (length-map g (λ e. e.line) ∙ whole) in
      let c : olds_in g ++ more ≡ olds_in pre ++ (line_bytes e.old ++ (olds_in post ++ more))
      = rw (← q, olds_append pre (e ∷ post), append_assoc (olds_in pre) (olds_in (e ∷ post)) more) (ap (λ x. olds_in pre ++ x) (append_assoc (line_bytes e.old) (olds_in post) more)) in
      rw (a, ← drop-drop (n + 64 * i) 3 bs, body, ← drop-drop (64 * i) n (lines_in g ++ (olds_in g ++ more)), b, c, drop_at (olds_in pre) (line_bytes e.old ++ (olds_in post ++ more)) (64 * i) (olds_long pre))
      (line_back e.old (olds_in post ++ more) o)

  held_from_lem : (pre post : List Logged) → pre ++ post ≡ g → all (is_of k) post ≡ true → all (λ e. is_line e.old) post ≡ true → held_from n bs (length pre) (length post) ≡ post
  unfolding held_from
  held_from_lem pre [] q a o = refl
  held_from_lem pre (e ∷ post) q a o =
      let ka = and_true (is_of k e) (all (is_of k) post) a in
      let oa = and_true (is_line e.old) (all (λ e. is_line e.old) post) o in
      let kk : key_at bs 0 ≡ e.key = key ∙ sym (eqb-true e.key k ka.0) in
      let l = line_there pre e post q in
      let w = old_there pre e post q oa.0 in
      let ih : held_from n bs (length (pre ++ (e ∷ []))) (length post) ≡ post = held_from_lem (pre ++ (e ∷ [])) post (append_snoc pre e post ∙ q) ka.1 oa.1 in
      let m : length (pre ++ (e ∷ [])) ≡ suc (length pre) = length-append pre (e ∷ []) ∙ omega arith in
      let first : entry_in n bs (length pre) ≡ e = λ i. record { key = kk i; line = l i; old = w i } in
      rw (first, rw m at ih)

pub header_back : (g : List Logged) (more : List ℕ) → thread_of (record_key g) < 256 → all (is_of (record_key g)) g ≡ true → all (λ e. is_line e.old) g ≡ true
    → (key_at (header_body g ++ more) 0 ≡ record_key g) × (held_in (length g) (header_body g ++ more) ≡ g)
unfolding bytes_of num_of
header_back g more h a o =
    let k = record_key g in
    let bs = header_body g ++ more in
    let key : key_at bs 0 ≡ k = key_back k h in
    let body : drop 3 bs ≡ lines_in g ++ (olds_in g ++ more) = append_assoc (lines_in g) (olds_in g) more in
    (key, held_from_lem (length g) k g bs more key body refl [] g refl a o)

-- ---- written back

module _ (n : ℕ) (bs : List ℕ) where
  pub held_long : (i m : ℕ) → length (held_from n bs i m) ≡ m
  unfolding held_from
  held_long i zero = refl
  held_long i (suc m) = ap suc (held_long (suc i) m)

  -- the entries of a record are of one region
  pub held_same : (i m : ℕ) → all (is_of (key_at bs 0)) (held_from n bs i m) ≡ true
  unfolding held_from
  held_same i zero = refl
  held_same i (suc m) = rw (is_same (key_at bs 0)) (held_same (suc i) m)

  pub held_key : (m : ℕ) → 1 ≤ m → record_key (held_from n bs 0 m) ≡ key_at bs 0
  unfolding held_from
  held_key zero h = absurd (omega arith)
  held_key (suc m) h = refl

module _ (n : ℕ) (bs : List ℕ) (bytes : all is_byte bs ≡ true) where
  lines_again : (i m : ℕ) → 3 + i + m ≤ length bs → lines_in (held_from n bs i m) ++ drop (3 + i + m) bs ≡ drop (3 + i) bs
  unfolding held_from
  lines_again i zero h = let o : 3 + i + 0 ≡ 3 + i = omega arith in rw o
  lines_again i (suc m) h =
      let o : 3 + i + suc m ≡ 3 + suc i + m = omega arith in
      let q : 3 + suc i ≡ suc (3 + i) = omega arith in
      rw (o, lines_again (suc i) m (omega arith), q) (sym (drop-cons bs (3 + i) 0 (omega arith)))

  olds_again : (i m : ℕ) → 3 + n + 64 * (i + m) ≤ length bs → olds_in (held_from n bs i m) ++ drop (3 + n + 64 * (i + m)) bs ≡ drop (3 + n + 64 * i) bs
  unfolding held_from flat
  olds_again i zero h = let o : i + 0 ≡ i = omega arith in rw o
  olds_again i (suc m) h =
      let o : i + suc m ≡ suc i + m = omega arith in
      let q : 3 + n + 64 * suc i ≡ 3 + n + 64 * i + 64 = omega arith in
      let ih = olds_again (suc i) m (omega arith) in
      rw (o, append_assoc (line_bytes (line_at bs (3 + n + 64 * i))) (olds_in (held_from n bs (suc i) m)) (drop (3 + n + 64 * (suc i + m)) bs), ih, q)
      (line_part (3 + n + 64 * i) bs bytes (omega arith))

  -- what they logged are lines
  pub held_lines : (i m : ℕ) → 3 + n + 64 * (i + m) ≤ length bs → all (λ e. is_line e.old) (held_from n bs i m) ≡ true
  unfolding held_from
  held_lines i zero h = refl
  held_lines i (suc m) h = rw (line_small (3 + n + 64 * i) bs bytes (omega arith)) (held_lines (suc i) m (omega arith))

  pub header_again : 1 ≤ n → 3 + 65 * n ≤ length bs → headed_record (held_in n bs) ++ drop (3 + 65 * n) bs ≡ (40 + n) ∷ bs
  unfolding headed_record
  header_again p h =
      let g = held_in n bs in
      let a : 3 + 65 * n ≡ 3 + n + 64 * (0 + n) = omega arith in
      let b = olds_again 0 n (omega arith) in
      let c : 3 + n + 64 * 0 ≡ 3 + 0 + n = omega arith in
      let d = lines_again 0 n (omega arith) in
      let k : record_key g ≡ key_at bs 0 = held_key n bs n p in
      rw (held_long n bs 0 n, k)
      (ap (λ x. (40 + n) ∷ x)
      (append_assoc (key_bytes (key_at bs 0)) (lines_in g ++ olds_in g) (drop (3 + 65 * n) bs)
      ∙ (ap (λ x. key_bytes (key_at bs 0) ++ x) (append_assoc (lines_in g) (olds_in g) (drop (3 + 65 * n) bs) ∙ rw (a, b, c, d))
      ∙ key_part 0 bs bytes (omega arith))))
