-- What has been read so far fits, and its records are the bytes read so far.
use Prim.Native.Nat.{◌<◌, ◌≤◌, suc, ℕ}
use mathlib.Core.Path.{◌≡◌, refl, sym}
use mathlib.Core.Bool.{Bool, cond, false, true}
use mathlib.Core.List.{List, [], ◌++◌, ◌∷◌, append_assoc, append-nil}
use lib.Dec.{leb, ltb}
use lib.ListN.{drop, length, length-append}
use native.Mathlib.Omega.{arith}
use borrow.Author.Tests.{eqb-true, lt-ltb}
use Rattle.rules.proofs.Codec.Bytes.{all_append, all_at, is_line, line_small}
use Rattle.rules.proofs.Codec.Parts.{entry_again, line_again, region_again}
use Rattle.rules.proofs.Codec.Turns.{persistent_of}
use Rattle.rules.proofs.Codec.Valid.{Sound, bound, count_append, fits_entry, fits_region, key_of_listed, key_of_logged, rises, rises_append}
use Rattle.rules.specs.Bytes.{line_at}
use Rattle.rules.specs.Claim.{is_byte}
use Rattle.rules.specs.Image.{Logged, Persistent, encode, entry_record, head_record, line_record, region_record}
use Rattle.rules.specs.declared.Listed.{Listed}
use Rattle.rules.specs.Lists.{all, count, flat}
use Rattle.rules.specs.Reader.{image_body, is_known_thread, is_logged_by, listed_at, logged_at}
use Rattle.rules.specs.Refusal.{in_range}
use Rattle.rules.specs.Tables.{thread_of}
use Rattle.undo.proofs.Laws.{never, test}

-- the records but the end
unfoldable pub without_end : Persistent → List ℕ
without_end p = head_record p.threads p.lines ++ (flat line_record p.medium ++ (flat region_record p.regions ++ flat entry_record p.log))

-- the head and perhaps more is read; regions and entries only behind all lines
pub record Begun (p : Persistent) : Type 0 where
  pub sound : Sound p (length p.medium)
  pub within : length p.medium ≤ p.lines
  pub early : length p.medium < p.lines → (p.regions ≡ []) × (p.log ≡ [])

-- a record of kind k with the bytes bs behind it is added to p and gives q
pub record Added (p q : Persistent) (k : ℕ) (bs : List ℕ) : Type 0 where
  pub after : Begun q
  pub same : without_end q ++ drop (image_body k) bs ≡ without_end p ++ (k ∷ bs)

pub flat_end : {A : Type 0} (f : A → List ℕ) (xs : List A) (x : A) → flat f (xs ++ (x ∷ [])) ≡ flat f xs ++ f x
unfolding flat
flat_end f [] x = append-nil (f x)
flat_end f (y ∷ xs) x = rw (flat_end f xs x) (sym (append_assoc (f y) (flat f xs) (f x)))

count_end : {A : Type 0} (p : A → Bool) (xs : List A) (x : A) → count p (xs ++ (x ∷ [])) ≡ cond (p x) (suc (count p xs)) (count p xs)
unfolding count
count_end p xs x = rw (count_append p xs (x ∷ [])) (test (p x) (λ b. rw b (omega arith)) (λ b. rw b (omega arith)))

all_end : {A : Type 0} (p : A → Bool) (xs : List A) (x : A) → all p xs ≡ true → p x ≡ true → all p (xs ++ (x ∷ [])) ≡ true
all_end p xs x e f = all_append p xs (x ∷ []) e (rw f)

rises_end : {A : Type 0} (f : A → ℕ) (d : ℕ) (xs : List A) (x : A) → rises f d 0 xs ≡ true → leb (bound f d 0 xs) (f x) ≡ true → rises f d 0 (xs ++ (x ∷ [])) ≡ true
rises_end f d xs x e b = rw (rises_append f d 0 xs (x ∷ []), e, b)

length_end : {A : Type 0} (xs : List A) (x : A) → length (xs ++ (x ∷ [])) ≡ suc (length xs)
length_end xs x = rw (length-append xs (x ∷ [])) (omega arith)

-- ---- one more record is the bytes of the record more

two : (a b x : List ℕ) → a ++ ((b ++ x) ++ []) ≡ (a ++ (b ++ [])) ++ x
two a b x = simp (append-nil, append_assoc)

three : (a b c x : List ℕ) → a ++ (b ++ ((c ++ x) ++ [])) ≡ (a ++ (b ++ (c ++ []))) ++ x
three a b c x = simp (append-nil, append_assoc)

four : (a b c d x : List ℕ) → a ++ (b ++ (c ++ (d ++ x))) ≡ (a ++ (b ++ (c ++ d))) ++ x
four a b c d x = simp append_assoc

-- where the record and the bytes behind it are the bytes read
onto : (a b x t y : List ℕ) → b ≡ a ++ x → x ++ t ≡ y → b ++ t ≡ a ++ y
onto a b x t y p q = rw (p, append_assoc a x t, q)

module _ (n l : ℕ) (m : List (List ℕ)) (rs : List Listed) (es : List Logged) where
  without_line : (x : List ℕ) → without_end (persistent_of n l (m ++ (x ∷ [])) [] []) ≡ without_end (persistent_of n l m [] []) ++ line_record x
  unfolding without_end flat
  without_line x = rw (flat_end line_record m x) (two (head_record n l) (flat line_record m) (line_record x))

  without_region : (r : Listed) → without_end (persistent_of n l m (rs ++ (r ∷ [])) []) ≡ without_end (persistent_of n l m rs []) ++ region_record r
  unfolding without_end flat
  without_region r = rw (flat_end region_record rs r) (three (head_record n l) (flat line_record m) (flat region_record rs) (region_record r))

  without_entry : (e : Logged) → without_end (persistent_of n l m rs (es ++ (e ∷ []))) ≡ without_end (persistent_of n l m rs es) ++ entry_record e
  unfolding without_end
  without_entry e = rw (flat_end entry_record es e) (four (head_record n l) (flat line_record m) (flat region_record rs) (flat entry_record es) (entry_record e))

-- ---- each kind

module _ (n l : ℕ) (m : List (List ℕ)) (rs : List Listed) (es : List Logged) (bs : List ℕ) (bytes : all is_byte bs ≡ true) where
  line_same : 64 ≤ length bs → without_end (persistent_of n l (m ++ (line_at bs 0 ∷ [])) [] []) ++ drop 64 bs ≡ without_end (persistent_of n l m [] []) ++ (33 ∷ bs)
  line_same h =
      onto (without_end (persistent_of n l m [] [])) (without_end (persistent_of n l (m ++ (line_at bs 0 ∷ [])) [] [])) (line_record (line_at bs 0)) (drop 64 bs) (33 ∷ bs)
      (without_line n l m rs es (line_at bs 0)) (line_again bs bytes h)

  pub line_added : Begun (persistent_of n l m rs es) → 64 ≤ length bs → length m < l → Added (persistent_of n l m rs es) (persistent_of n l (m ++ (line_at bs 0 ∷ [])) rs es) 33 bs
  line_added b h s =
      let x = line_at bs 0 in
      let e = b.early s in
      let g = b.sound in
      record {
        after = record {
          sound = record {
            size = g.size;
            whole = refl;
            medium = all_end is_line m x g.medium (line_small 0 bs bytes h);
            few = g.few;
            rising = g.rising;
            regions = g.regions;
            room = g.room;
            climbing = g.climbing;
            entries = g.entries;
          };
          within = rw (length_end m x) s;
          early = λ o. e;
        };
        same = rw (e.0, e.1) (line_same h);
      }

  region_same : 16 ≤ length bs → without_end (persistent_of n l m (rs ++ (listed_at bs ∷ [])) []) ++ drop 16 bs ≡ without_end (persistent_of n l m rs []) ++ (34 ∷ bs)
  region_same h =
      onto (without_end (persistent_of n l m rs [])) (without_end (persistent_of n l m (rs ++ (listed_at bs ∷ [])) [])) (region_record (listed_at bs)) (drop 16 bs) (34 ∷ bs)
      (without_region n l m rs es (listed_at bs)) (region_again bs bytes h)

  listed_fits : 16 ≤ length bs → all (is_known_thread n) ((listed_at bs).key ∷ (listed_at bs).deps) ≡ true → fits_region n (listed_at bs) ≡ true
  unfolding listed_at
  listed_fits h k = rw (k, all_at is_byte bs 3 0 bytes (omega arith))

  pub region_added : Begun (persistent_of n l m rs es) → 16 ≤ length bs → ltb (length m) l ≡ false → es ≡ []
      → all (is_known_thread n) ((listed_at bs).key ∷ (listed_at bs).deps) ≡ true → leb (bound key_of_listed 1 0 rs) (listed_at bs).key ≡ true → length rs < 32
      → Added (persistent_of n l m rs es) (persistent_of n l m (rs ++ (listed_at bs ∷ [])) es) 34 bs
  region_added b h s z k o f =
      let r = listed_at bs in
      let g = b.sound in
      record {
        after = record {
          sound = record {
            size = g.size;
            whole = refl;
            medium = g.medium;
            few = rw (length_end rs r) f;
            rising = rises_end key_of_listed 1 rs r g.rising o;
            regions = all_end (fits_region n) rs r g.regions (listed_fits h k);
            room = g.room;
            climbing = g.climbing;
            entries = g.entries;
          };
          within = b.within;
          early = λ a. never (lt-ltb (length m) l a) s;
        };
        same = rw z (region_same h);
      }

  entry_same : 68 ≤ length bs → without_end (persistent_of n l m rs (es ++ (logged_at bs ∷ []))) ++ drop 68 bs ≡ without_end (persistent_of n l m rs es) ++ (35 ∷ bs)
  entry_same h =
      onto (without_end (persistent_of n l m rs es)) (without_end (persistent_of n l m rs (es ++ (logged_at bs ∷ [])))) (entry_record (logged_at bs)) (drop 68 bs) (35 ∷ bs)
      (without_entry n l m rs es (logged_at bs)) (entry_again bs bytes h)

  logged_fits : 68 ≤ length bs → is_known_thread n (logged_at bs).key ≡ true → ltb (logged_at bs).line l ≡ true → fits_entry n l (logged_at bs) ≡ true
  unfolding logged_at
  logged_fits h k i = rw (k, i) (line_small 4 bs bytes h)

  room_after : (e : Logged) → ((t : ℕ) → count (is_logged_by t) es ≤ 32) → count (is_logged_by (thread_of e.key)) es < 32
      → (t : ℕ) → count (is_logged_by t) (es ++ (e ∷ [])) ≤ 32
  room_after e g h t =
      rw (count_end (is_logged_by t) es e)
      (test (is_logged_by t e) (λ b. rw b (rw (eqb-true (thread_of e.key) t b) at h)) (λ b. rw b (g t)))

  pub entry_added : Begun (persistent_of n l m rs es) → 68 ≤ length bs → ltb (length m) l ≡ false
      → is_known_thread n (logged_at bs).key ≡ true → ltb (logged_at bs).line l ≡ true → leb (bound key_of_logged 0 0 es) (logged_at bs).key ≡ true
      → count (is_logged_by (thread_of (logged_at bs).key)) es < 32
      → Added (persistent_of n l m rs es) (persistent_of n l m rs (es ++ (logged_at bs ∷ []))) 35 bs
  entry_added b h s k i o c =
      let e = logged_at bs in
      let g = b.sound in
      record {
        after = record {
          sound = record {
            size = g.size;
            whole = refl;
            medium = g.medium;
            few = g.few;
            rising = g.rising;
            regions = g.regions;
            room = room_after e g.room c;
            climbing = rises_end key_of_logged 0 es e g.climbing o;
            entries = all_end (fits_entry n l) es e g.entries (logged_fits h k i);
          };
          within = b.within;
          early = λ a. never (lt-ltb (length m) l a) s;
        };
        same = entry_same h;
      }

-- ---- the end

pub encode_end : (p : Persistent) → encode p ≡ without_end p ++ (36 ∷ [])
unfolding encode without_end
encode_end p = four (head_record p.threads p.lines) (flat line_record p.medium) (flat region_record p.regions) (flat entry_record p.log) (36 ∷ [])

-- ---- the head

pub without_head : (n l : ℕ) → without_end (persistent_of n l [] [] []) ≡ head_record n l
unfolding without_end flat
without_head n l = append-nil (head_record n l)

pub head_begun : (n l : ℕ) → in_range n l ≡ true → Begun (persistent_of n l [] [] [])
unfolding count
head_begun n l e =
    record {
      sound = record {
        size = e;
        whole = refl;
        medium = refl;
        few = omega arith;
        rising = refl;
        regions = refl;
        room = λ t. omega arith;
        climbing = refl;
        entries = refl;
      };
      within = omega arith;
      early = λ h. (refl, refl);
    }
