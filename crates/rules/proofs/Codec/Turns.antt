-- A record that was written, read at the front of the bytes: it adds what it holds, and the reading goes on behind it.
use Prim.Native.Nat.{◌*◌, ◌<◌, ◌^◌, ◌≤◌, suc, ℕ}
use mathlib.Core.Path.{◌≡◌, ap, refl}
use mathlib.Core.Bool.{◌&&◌, false, true}
use mathlib.Core.List.{List, [], ◌++◌, ◌∷◌}
use lib.Dec.{eqb, leb}
use lib.ListN.{length, length-append}
use native.Mathlib.Omega.{arith}
use borrow.Author.Tests.{leb-true, lt-ltb, ltb-true, ne_eqb}
use lib.Seq.{take_at}
use Rattle.rules.proofs.Codec.Records.{record_read}
use Rattle.rules.proofs.Codec.Bytes.{is_line, key_back, length_bytes, length_words, line_back, num_bytes}
use Rattle.rules.specs.Bytes.{bytes_of, line_bytes, num_of}
use Rattle.rules.specs.Image.{Logged, Persistent, entry_record, head_record, key_bytes, line_record, region_record}
use Rattle.rules.specs.Lists.{all, flat}
use Rattle.rules.specs.Reader.{Next, fields_turn, head_turn, image_body, is_image_kind, is_known_thread, is_placed, line_turn, listed_at, logged_at, nothing, records_read}
use Rattle.rules.specs.Refusal.{in_range}
use Rattle.rules.specs.Tables.{number_of, thread_of}
use Rattle.rules.specs.declared.Listed.{Listed}
use Rattle.undo.proofs.Laws.{and_true}

-- a persistent state by its parts
abbrev pub persistent_of : ℕ → ℕ → List (List ℕ) → List Listed → List Logged → Persistent
persistent_of n l m rs es = record { threads = n; lines = l; medium = m; regions = rs; log = es }

-- ---- the head

pub size_threads : (n l : ℕ) → in_range n l ≡ true → (1 ≤ n) × (n ≤ 8)
size_threads n l e =
    let a = and_true (leb 1 n && leb n 8) (leb 1 l && leb l 256) e in
    let b = and_true (leb 1 n) (leb n 8) a.0 in
    (leb-true 1 n b.0, leb-true n 8 b.1)

pub size_lines : (n l : ℕ) → in_range n l ≡ true → (1 ≤ l) × (l ≤ 256)
size_lines n l e =
    let a = and_true (leb 1 n && leb n 8) (leb 1 l && leb l 256) e in
    let b = and_true (leb 1 l) (leb l 256) a.1 in
    (leb-true 1 l b.0, leb-true l 256 b.1)

pub head_fields : (n l : ℕ) (more : List ℕ) → in_range n l ≡ true → fields_turn nothing 32 (n ∷ (bytes_of 2 l ++ more)) ≡ Next (persistent_of n l [] [] [])
unfolding fields_turn head_turn
head_fields n l more e =
    let s : l < 256 ^ 2 = omega (arith, (size_lines n l e).1) in
    rw (take_at (bytes_of 2 l) more 2 (length_bytes 2 l), num_bytes 2 l s, e)

pub head_read : (n l : ℕ) (more : List ℕ) → in_range n l ≡ true → records_read nothing 0 (head_record n l ++ more) ≡ records_read (persistent_of n l [] [] []) 0 more
unfolding head_record
head_read n l more e =
    record_read is_image_kind is_placed image_body fields_turn nothing (persistent_of n l [] [] []) 32 (n ∷ bytes_of 2 l) more refl refl (ap suc (length_bytes 2 l)) (head_fields n l more e)

-- ---- behind the head

-- with T read, L and the lines read so far tell which kind may stand here
module _ (n l : ℕ) (m : List (List ℕ)) (rs : List Listed) (es : List Logged) (size : in_range n l ≡ true) where
  headed : eqb n 0 ≡ false
  headed = ne_eqb n 0 (λ z. omega (arith, (size_threads n l size).0))

  pub line_placed : length m < l → is_placed (persistent_of n l m rs es) 33 ≡ true
  line_placed h = rw (headed, lt-ltb (length m) l h)

  pub line_fields : (x more : List ℕ) → is_line x ≡ true → fields_turn (persistent_of n l m rs es) 33 (line_bytes x ++ more) ≡ Next (persistent_of n l (m ++ (x ∷ [])) rs es)
  unfolding fields_turn line_turn
  line_fields x more e = rw (line_back x more e)

  pub line_read : (x more : List ℕ) → is_line x ≡ true → length m < l
      → records_read (persistent_of n l m rs es) 0 (line_record x ++ more) ≡ records_read (persistent_of n l (m ++ (x ∷ [])) rs es) 0 more
  unfolding line_record
  line_read x more e h =
      record_read is_image_kind is_placed image_body fields_turn (persistent_of n l m rs es) (persistent_of n l (m ++ (x ∷ [])) rs es) 33 (line_bytes x) more
      refl (line_placed h) (length_words 8 x) (line_fields x more e)

-- ---- regions

abbrev pub region_body : Listed → List ℕ
region_body r = key_bytes r.key ++ (r.state ∷ flat key_bytes r.deps)

-- a known thread is a byte
module _ (n : ℕ) (h : n ≤ 8) where
  known_byte : (k : ℕ) → is_known_thread n k ≡ true → thread_of k < 256
  known_byte k e = let z = ltb-true (thread_of k) n e in omega arith

  four : (k s : ℕ) (ds more : List ℕ) → all (is_known_thread n) (k ∷ ds) ≡ true → length ds ≡ 4 → listed_at ((key_bytes k ++ (s ∷ flat key_bytes ds)) ++ more) ≡ record { key = k; state = s; deps = ds }
  unfolding bytes_of num_of flat listed_at
  four k s [] more g l = absurd (omega arith)
  four k s (a ∷ []) more g l = absurd (omega arith)
  four k s (a ∷ (b ∷ [])) more g l = absurd (omega arith)
  four k s (a ∷ (b ∷ (c ∷ []))) more g l = absurd (omega arith)
  four k s (a ∷ (b ∷ (c ∷ (d ∷ [])))) more g l =
      let p = is_known_thread n in
      let gk = and_true (p k) (all p (a ∷ (b ∷ (c ∷ (d ∷ []))))) g in
      let ga = and_true (p a) (all p (b ∷ (c ∷ (d ∷ [])))) gk.1 in
      let gb = and_true (p b) (all p (c ∷ (d ∷ []))) ga.1 in
      let gc = and_true (p c) (all p (d ∷ [])) gb.1 in
      let gd = and_true (p d) true gc.1 in
      λ i. record { key = key_back k (known_byte k gk.0) i; state = s; deps = key_back a (known_byte a ga.0) i ∷ key_back b (known_byte b gb.0) i ∷ key_back c (known_byte c gc.0) i ∷ key_back d (known_byte d gd.0) i ∷ [] }
  four k s (a ∷ (b ∷ (c ∷ (d ∷ (x ∷ xs))))) more g l = absurd (omega arith)

length_keys : (ds : List ℕ) → length (flat key_bytes ds) ≡ 3 * length ds
unfolding flat
length_keys [] = refl
length_keys (d ∷ ds) = rw (length-append (bytes_of 2 (number_of d)) (flat key_bytes ds), length_bytes 2 (number_of d), length_keys ds) (omega arith)

pub length_region : (r : Listed) → length r.deps ≡ 4 → length (region_body r) ≡ 16
length_region r h =
    simp (length-append, length_bytes, length_keys, h)

pub region_long : (r : Listed) → length r.deps ≡ 4 → length (region_record r) ≡ 17
unfolding region_record
region_long r h = rw (length_region r h)

pub listed_back : (n : ℕ) → n ≤ 8 → (r : Listed) (more : List ℕ) → all (is_known_thread n) (r.key ∷ r.deps) ≡ true → length r.deps ≡ 4 → listed_at (region_body r ++ more) ≡ r
listed_back n s r more g h = four n s r.key r.state r.deps more g h

-- ---- log entries

abbrev pub entry_body : Logged → List ℕ
entry_body e = key_bytes e.key ++ (e.line ∷ line_bytes e.old)

pub length_entry : (e : Logged) → length (entry_body e) ≡ 68
length_entry e = simp (length-append, length_bytes, length_words)

pub entry_long : (e : Logged) → length (entry_record e) ≡ 69
unfolding entry_record
entry_long e = rw (length_entry e)

pub logged_back : (n : ℕ) → n ≤ 8 → (e : Logged) (more : List ℕ) → is_known_thread n e.key ≡ true → is_line e.old ≡ true → logged_at (entry_body e ++ more) ≡ e
unfolding bytes_of num_of logged_at
logged_back n s e more g o = λ i. record { key = key_back e.key (known_byte n s e.key g) i; line = e.line; old = line_back e.old more o i }
