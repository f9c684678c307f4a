-- Bytes that are accepted are the image of what they read back to, and that fits.
use Prim.Native.Nat.{◌≤◌, suc, ℕ}
use mathlib.Core.Path.{◌∙◌, ◌≡◌, ap, refl, subst, sym}
use mathlib.Core.Bool.{Bool, ◌||◌, cond, false, false≢true, true}
use mathlib.Core.List.{List, [], ◌++◌, ◌∷◌}
use lib.Dec.{eqb, leb, ltb}
use lib.ListN.{drop, get_or, length, take}
use native.Mathlib.Omega.{arith}
use borrow.Author.Tests.{eqb-false, eqb-true, leb-true, ltb-false, ltb-true, ne_eqb}
use Rattle.rules.proofs.Codec.Bytes.{all_drop}
use Rattle.rules.proofs.Codec.Parts.{head_again, listing, logging}
use Rattle.rules.proofs.Codec.Records.{Passed, along_read, is_last, last_same, next_same, not_last, past_test, turn_passed}
use Rattle.rules.proofs.Codec.Steps.{Added, Begun, encode_end, entry_added, head_begun, line_added, region_added, without_head, without_end}
use Rattle.rules.proofs.Codec.Turns.{persistent_of, size_threads}
use Rattle.rules.proofs.Codec.Valid.{Sound, Valid, listed_test, logged_test}
use Rattle.rules.specs.Bytes.{num_of}
use Rattle.rules.specs.Claim.{is_byte}
use Rattle.rules.specs.Image.{Logged, Persistent, encode}
use Rattle.rules.specs.declared.Listed.{Listed}
use Rattle.rules.specs.Lists.{all, count}
use Rattle.rules.specs.Reader.{Last, Next, Reads, Turn, end_turn, fields_turn, head_turn, image_body, is_image_kind, is_known_thread, is_logged_by, is_placed, last_listed, last_logged, line_turn, listed_at, listed_turn, logged_at, logged_turn, nothing, records_read, turn_of}
use Rattle.rules.specs.Refusal.{in_range}
use Rattle.rules.specs.Tables.{thread_of}
use Rattle.undo.proofs.Laws.{and_true, never, test}

-- ---- the kinds

pub data Kind : ℕ → Type 0 where
  head_kind : Kind 32
  line_kind : Kind 33
  region_kind : Kind 34
  entry_kind : Kind 35
  end_kind : Kind 36

pub kind_of : (k : ℕ) → is_image_kind k ≡ true → Kind k
kind_of k e =
    let b = and_true (leb 32 k) (leb k 36) e in
    let lo : 32 ≤ k = leb-true 32 k b.0 in
    let hi : k ≤ 36 = leb-true k 36 b.1 in
    test (eqb k 32) (λ a. subst Kind (sym (eqb-true k 32 a)) head_kind)
    (λ a. test (eqb k 33) (λ b. subst Kind (sym (eqb-true k 33 b)) line_kind)
    (λ b. test (eqb k 34) (λ c. subst Kind (sym (eqb-true k 34 c)) region_kind)
    (λ c. test (eqb k 35) (λ d. subst Kind (sym (eqb-true k 35 d)) entry_kind)
    (λ d. let q : k ≡ 36 = omega (arith, eqb-false k 32 a, eqb-false k 33 b, eqb-false k 34 c, eqb-false k 35 d) in subst Kind (sym q) end_kind))))

-- ---- where each may stand

pub placed_behind : (p : Persistent) (k : ℕ) → in_range p.threads p.lines ≡ true → is_placed p k ≡ true
    → cond (ltb (length p.medium) p.lines) (eqb k 33) (cond (eqb (length p.log) 0) (leb 34 k) (leb 35 k)) ≡ true
placed_behind p k s e = let z : eqb p.threads 0 ≡ false = ne_eqb p.threads 0 (λ z. omega (arith, (size_threads p.threads p.lines s).0)) in rw z at e

pub no_head : (a b : Bool) → cond a false (cond b false false) ≡ true → ⊥
no_head true b e = false≢true e
no_head false true e = false≢true e
no_head false false e = false≢true e

among_lines : (a b : Bool) → cond a true (cond b false false) ≡ true → a ≡ true
among_lines true b e = refl
among_lines false true e = absurd (false≢true e)
among_lines false false e = absurd (false≢true e)

among_regions : (a b : Bool) → cond a false (cond b true false) ≡ true → (a ≡ false) × (b ≡ true)
among_regions true b e = absurd (false≢true e)
among_regions false true e = (refl, refl)
among_regions false false e = absurd (false≢true e)

pub behind_lines : (a b : Bool) → cond a false b ≡ true → a ≡ false
behind_lines true b e = absurd (false≢true e)
behind_lines false b e = refl

pub no_entries : (es : List Logged) → eqb (length es) 0 ≡ true → es ≡ []
no_entries [] e = refl
no_entries (x ∷ es) e = absurd (omega (arith, eqb-true (suc (length es)) 0 e))

-- ---- one record behind the head

-- a record of an image that does not stop
abbrev pub Taken : Persistent → ℕ → List ℕ → Turn Persistent → Type 0
Taken = Passed is_image_kind is_placed image_body fields_turn

module _ (p q : Persistent) (bs : List ℕ) (bytes : all is_byte bs ≡ true) (b : Begun p) where
  line_next : Taken p 33 bs (Next q) → Added p q 33 bs
  unfolding fields_turn line_turn
  line_next c =
      let s = among_lines (ltb (length p.medium) p.lines) (eqb (length p.log) 0) (placed_behind p 33 b.sound.size c.place) in
      subst (λ r. Added p r 33 bs) (next_same c.shown)
      (line_added p.threads p.lines p.medium p.regions p.log bs bytes b c.long (ltb-true (length p.medium) p.lines s))

  region_next : Taken p 34 bs (Next q) → Added p q 34 bs
  unfolding fields_turn
  region_next c =
      let s = among_regions (ltb (length p.medium) p.lines) (eqb (length p.log) 0) (placed_behind p 34 b.sound.size c.place) in
      let r = listed_at bs in
      let x = listing p q r c.shown in
      subst (λ r. Added p r 34 bs) x.after
      (region_added p.threads p.lines p.medium p.regions p.log bs bytes b c.long s.0 (no_entries p.log s.1) x.known
      (sym (listed_test p.regions r.key) ∙ x.rises) (ltb-true (length p.regions) 32 x.few))

  entry_next : Taken p 35 bs (Next q) → Added p q 35 bs
  unfolding fields_turn
  entry_next c =
      let s = behind_lines (ltb (length p.medium) p.lines) _ (placed_behind p 35 b.sound.size c.place) in
      let e = logged_at bs in
      let x = logging p q e c.shown in
      subst (λ r. Added p r 35 bs) x.after
      (entry_added p.threads p.lines p.medium p.regions p.log bs bytes b c.long s x.known x.line
      (sym (logged_test p.log e.key) ∙ x.climbs) (ltb-true (count (is_logged_by (thread_of e.key)) p.log) 32 x.few))

-- only the end ends

listed_on : (p : Persistent) (r : Listed) → is_last (listed_turn p r) ≡ false
unfolding listed_turn
listed_on p r =
    not_last (all (is_known_thread p.threads) (r.key ∷ r.deps)) _ 3
    (not_last (eqb (length p.regions) 0 || ltb (last_listed p.regions) r.key) _ 7
    (not_last (ltb (length p.regions) 32) (Next _) 7 refl))

logged_on : (p : Persistent) (e : Logged) → is_last (logged_turn p e) ≡ false
unfolding logged_turn
logged_on p e =
    not_last (is_known_thread p.threads e.key) _ 3
    (not_last (ltb e.line p.lines) _ 4
    (not_last (leb (last_logged p.log) e.key) _ 7
    (not_last (ltb (count (is_logged_by (thread_of e.key)) p.log) 32) (Next _) 7 refl)))

pub only_end : {p q : Persistent} {k : ℕ} {bs : List ℕ} → Kind k → Taken p k bs (Last q) → (k ≡ 36) × ((length bs ≡ 0) × (p ≡ q))
unfolding fields_turn head_turn line_turn end_turn
only_end {bs = bs} head_kind c = never (ap is_last c.shown) (not_last (in_range (get_or bs 0 0) (num_of (take 2 (drop 1 bs)))) (Next _) 6 refl)
only_end line_kind c = never refl (ap is_last (sym c.shown))
only_end {p = p} {bs = bs} region_kind c = never (ap is_last c.shown) (listed_on p (listed_at bs))
only_end {p = p} {bs = bs} entry_kind c = never (ap is_last c.shown) (logged_on p (logged_at bs))
only_end {p = p} {q = q} {bs = bs} end_kind c =
    let x = past_test (eqb (length bs) 0) (Last p) 7 (Last q) refl c.shown in
    (refl, (eqb-true (length bs) 0 x.0, last_same x.1))

pub not_end : {p q : Persistent} {bs : List ℕ} → Taken p 36 bs (Next q) → ⊥
unfolding fields_turn end_turn
not_end {p} {q} {bs} c = never refl (ap is_last (past_test (eqb (length bs) 0) (Last p) 7 (Next q) refl c.shown).1)

-- bytes are the image of a state that fits
pub record Only (q : Persistent) (bs : List ℕ) : Type 0 where
  pub valid : Valid q
  pub same : encode q ≡ bs

pub nothing_left : (bs : List ℕ) → length bs ≡ 0 → bs ≡ []
nothing_left [] e = refl
nothing_left (b ∷ bs) e = absurd (omega arith)

module _ (p q : Persistent) (bs : List ℕ) (bytes : all is_byte bs ≡ true) (b : Begun p) where
  next : {k : ℕ} → Kind k → Taken p k bs (Next q) → Added p q k bs
  next head_kind c = absurd (no_head (ltb (length p.medium) p.lines) (eqb (length p.log) 0) (placed_behind p 32 b.sound.size c.place))
  next line_kind c = line_next p q bs bytes b c
  next region_kind c = region_next p q bs bytes b c
  next entry_kind c = entry_next p q bs bytes b c
  next end_kind c = absurd (not_end c)

  last : {k : ℕ} → Kind k → Taken p k bs (Last q) → Only q (without_end p ++ (k ∷ bs))
  last {k} d c =
      let x = only_end d c in
      let e : is_placed p 36 ≡ true = rw x.0 at c.place in
      let s = behind_lines (ltb (length p.medium) p.lines) _ (placed_behind p 36 b.sound.size e) in
      let w : length p.medium ≡ p.lines = omega (arith, b.within, ltb-false (length p.medium) p.lines s) in
      let v : Valid p = subst (Sound p) w b.sound in
      let o : Only p (without_end p ++ (k ∷ bs)) = record { valid = v; same = rw (x.0, nothing_left bs x.1.0) (encode_end p) } in
      subst (λ r. Only r (without_end p ++ (k ∷ bs))) x.1.1 o

-- ---- the first record is the head

module _ (r : Persistent) (bs : List ℕ) (bytes : all is_byte bs ≡ true) where
  head_first : Taken nothing 32 bs (Next r) → (Begun r) × (without_end r ++ drop 3 bs ≡ 32 ∷ bs)
  unfolding fields_turn head_turn
  head_first c =
      let n = get_or bs 0 0 in
      let l = num_of (take 2 (drop 1 bs)) in
      let x = past_test (in_range n l) (Next (persistent_of n l [] [] [])) 6 (Next r) refl c.shown in
      let s : without_end (persistent_of n l [] [] []) ++ drop 3 bs ≡ 32 ∷ bs = rw (without_head n l) (head_again bs bytes c.long) in
      subst (λ q. (Begun q) × (without_end q ++ drop 3 bs ≡ 32 ∷ bs)) (next_same x.1) (head_begun n l x.0, s)

  first_next : {k : ℕ} → Kind k → Taken nothing k bs (Next r) → (Begun r) × (without_end r ++ drop (image_body k) bs ≡ k ∷ bs)
  first_next head_kind c = head_first c
  first_next line_kind c = absurd (false≢true c.place)
  first_next region_kind c = absurd (false≢true c.place)
  first_next entry_kind c = absurd (false≢true c.place)
  first_next end_kind c = absurd (false≢true c.place)

-- ---- all records

-- how far the bytes ws are read: nothing yet, or a state whose records and the bytes ahead are ws
pub data Far (ws : List ℕ) (p : Persistent) (bs : List ℕ) : Type 0 where
  none_yet : p ≡ nothing → bs ≡ ws → all is_byte bs ≡ true → Far ws p bs
  begun : Begun p → without_end p ++ bs ≡ ws → all is_byte bs ≡ true → Far ws p bs

module _ (ws : List ℕ) where
  pub further : (p q : Persistent) (b : ℕ) (bs : List ℕ) → Far ws p (b ∷ bs) → turn_of p (b ∷ bs) ≡ Next q → Far ws q (drop (image_body b) bs)
  further p q b bs (none_yet z w y) t =
      let n : all is_byte bs ≡ true = (and_true (is_byte b) (all is_byte bs) y).1 in
      let c = turn_passed is_image_kind is_placed image_body fields_turn nothing b bs (Next q) refl (rw z at t) in
      let a = first_next q bs n (kind_of b c.known) c in
      begun a.0 (a.1 ∙ w) (all_drop is_byte (image_body b) bs n)
  further p q b bs (begun g w y) t =
      let n : all is_byte bs ≡ true = (and_true (is_byte b) (all is_byte bs) y).1 in
      let c = turn_passed is_image_kind is_placed image_body fields_turn p b bs (Next q) refl t in
      let a = next p q bs n g (kind_of b c.known) c in
      begun a.after (a.same ∙ w) (all_drop is_byte (image_body b) bs n)

  pub finished : (p q : Persistent) (b : ℕ) (bs : List ℕ) → Far ws p (b ∷ bs) → turn_of p (b ∷ bs) ≡ Last q → Only q ws
  finished p q b bs (none_yet z w y) t =
      let c = turn_passed is_image_kind is_placed image_body fields_turn nothing b bs (Last q) refl (rw z at t) in
      let e : is_placed nothing 36 ≡ true = rw (only_end (kind_of b c.known) c).0 at c.place in
      absurd (false≢true e)
  finished p q b bs (begun g w y) t =
      let n : all is_byte bs ≡ true = (and_true (is_byte b) (all is_byte bs) y).1 in
      let c = turn_passed is_image_kind is_placed image_body fields_turn p b bs (Last q) refl t in
      subst (Only q) w (last p q bs n g (kind_of b c.known) c)

  pub records_only : (q : Persistent) → all is_byte ws ≡ true → records_read nothing 0 ws ≡ Reads q → Only q ws
  records_only q y e = along_read turn_of image_body (Far ws) (λ r. Only r ws) further finished ws 0 nothing q (none_yet refl refl y) e
