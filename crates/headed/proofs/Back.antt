-- A new image reads back to the state that it was written from; the old reader stops at its first header.
use Prim.Native.Nat.{◌+◌, ◌-◌, ◌<◌, ◌≤◌, suc, ℕ}
use mathlib.Core.Path.{◌∙◌, ◌≡◌, ap, refl, sym}
use mathlib.Core.Logic.{◌≢◌}
use mathlib.Core.Bool.{Bool, ◌&&◌, ◌||◌, and-false, false, not, true}
use mathlib.Core.List.{List, [], ◌++◌, ◌∷◌, append_assoc, append-nil}
use lib.Dec.{eqb, leb, ltb}
use lib.ListN.{drop, get_or, length, take}
use native.Mathlib.Omega.{arith}
use borrow.Author.Tests.{eqb-true, le-leb, le-ltb, lt-leb, ltb-true, ne_eqb}
use Rattle.rules.proofs.Codec.Back.{end_placed, front_read, lines_by, region_fields, region_placed, regions_by}
use Rattle.rules.proofs.Codec.Bytes.{is_line, length_bytes, length_words}
use Rattle.rules.proofs.Codec.Records.{record_read, turn_last, turn_stop}
use Rattle.rules.proofs.Codec.Turns.{head_fields, line_fields, line_placed, persistent_of, region_body, size_threads}
use Rattle.rules.proofs.Codec.Valid.{Valid, bound, count_append, fits_entry, fits_region, key_of_listed, key_of_logged, logged_test, rises, rises_append}
use Rattle.rules.specs.Bytes.{bytes_of, line_bytes}
use Rattle.rules.specs.Contradiction.{contradicts}
use Rattle.rules.specs.Image.{Logged, Persistent, encode, head_record, line_record, no_logged, region_record}
use Rattle.rules.specs.Lists.{all, count, flat}
use Rattle.rules.specs.Reader.{Reads, Refuses, Verdict, end_turn, fields_turn, image_body, is_image_kind, is_known_thread, is_logged_by, last_logged, read_image, records_read, turn_by, turn_of, unless_contradicted}
use Rattle.rules.specs.Refusal.{in_range}
use Rattle.rules.specs.Tables.{thread_of}
use Rattle.rules.specs.declared.Listed.{Listed}
use Rattle.undo.proofs.Laws.{and_true, is_same, never, or_right, test}
use Rattle.headed.specs.Claim.{Grouped, group, held, is_apart, is_of, none}
use Rattle.headed.specs.Image.{also_held, encode_headed, headed_record, log_records, log_records_from}
use Rattle.headed.specs.Reader.{Progress, fields_in, headed_body, header_turn, is_behind_short, is_header, is_kind_of, is_on_board, is_placed_in, read_as, read_headed, records_in, records_read_as, state_read, turn_in, unread}
use Rattle.headed.proofs.Groups.{all_grouped, nothing_lost}
use Rattle.headed.proofs.Header.{body_long, header_back, header_is, header_body}
use Rattle.rules.proofs.Places.{eqb_swap}

-- what was read, by its parts
abbrev pub progress_of : Persistent → ℕ → Progress
progress_of p k = record { state = p; kind = k }

-- ---- before the log: each record does what it does in an old image

module _ (n l : ℕ) (size : in_range n l ≡ true) where
  head_read : (more : List ℕ) → records_in true unread 0 (head_record n l ++ more) ≡ records_in true (progress_of (persistent_of n l [] [] []) 0) 0 more
  unfolding head_record fields_in
  head_read more =
      record_read (is_kind_of true) is_placed_in headed_body fields_in unread (progress_of (persistent_of n l [] [] []) 0) 32 (n ∷ bytes_of 2 l) more refl refl (ap suc (length_bytes 2 l))
      (rw (head_fields n l more size))

  line_read : (m : List (List ℕ)) (x more : List ℕ) → is_line x ≡ true → length m < l
      → records_in true (progress_of (persistent_of n l m [] []) 0) 0 (line_record x ++ more) ≡ records_in true (progress_of (persistent_of n l (m ++ (x ∷ [])) [] []) 0) 0 more
  unfolding line_record fields_in
  line_read m x more e h =
      record_read (is_kind_of true) is_placed_in headed_body fields_in (progress_of (persistent_of n l m [] []) 0) (progress_of (persistent_of n l (m ++ (x ∷ [])) [] []) 0) 33 (line_bytes x) more
      refl (rw (line_placed n l m [] [] size h)) (length_words 8 x) (rw (line_fields n l m [] [] size x more e))

  region_read : (m : List (List ℕ)) → length m ≡ l → (rs : List Listed) (r : Listed) (more : List ℕ) → fits_region n r ≡ true → length rs < 32
      → leb (bound key_of_listed 1 0 rs) r.key ≡ true
      → records_in true (progress_of (persistent_of n l m rs []) 0) 0 (region_record r ++ more) ≡ records_in true (progress_of (persistent_of n l m (rs ++ (r ∷ [])) []) 0) 0 more
  unfolding region_record fields_in
  region_read m whole rs r more e h o =
      let a = region_fields n l m size whole rs r more e h o in
      record_read (is_kind_of true) is_placed_in headed_body fields_in (progress_of (persistent_of n l m rs []) 0) (progress_of (persistent_of n l m (rs ++ (r ∷ [])) []) 0) 34 (region_body r) more
      refl (rw (region_placed n l m size whole rs)) a.0 (rw a.1)

front_reads : (p : Persistent) → Valid p → (more : List ℕ)
    → records_in true unread 0 (head_record p.threads p.lines ++ (flat line_record p.medium ++ (flat region_record p.regions ++ more)))
    ≡ records_in true (progress_of (persistent_of p.threads p.lines p.medium p.regions []) 0) 0 more
front_reads p v more =
    let n = p.threads in
    let l = p.lines in
    let m = p.medium in
    let rs = p.regions in
    let R : Persistent → List ℕ → Verdict Progress = λ q bs. records_in true (progress_of q 0) 0 bs in
    head_read n l v.size (flat line_record m ++ (flat region_record rs ++ more))
    ∙ (lines_by R n l [] [] (line_read n l v.size) [] m (flat region_record rs ++ more) (omega (arith, v.whole)) v.medium
    ∙ regions_by R n l m (region_read n l v.size m v.whole) [] rs more v.few v.rising v.regions)

-- ---- the log

-- the region of the last entry
last_cons : (x y : Logged) (ys : List Logged) → last_logged (x ∷ (y ∷ ys)) ≡ last_logged (y ∷ ys)
last_cons x y ys =
    let a : suc (suc (length ys)) - 1 ≡ suc (length ys) = omega arith in
    let b : suc (length ys) - 1 ≡ length ys = omega arith in
    ap (λ i. (get_or (x ∷ (y ∷ ys)) i no_logged).key) a ∙ sym (ap (λ i. (get_or (y ∷ ys) i no_logged).key) b)

last_same : (k : ℕ) (e : Logged) (fs : List Logged) → all (is_of k) (e ∷ fs) ≡ true → last_logged (e ∷ fs) ≡ k
last_same k e [] a = eqb-true e.key k (and_true (is_of k e) true a).0
last_same k e (f ∷ fs) a = last_cons e f fs ∙ last_same k f fs (and_true (is_of k e) (all (is_of k) (f ∷ fs)) a).1

pub last_record : (k : ℕ) (es : List Logged) (e : Logged) (fs : List Logged) → all (is_of k) (e ∷ fs) ≡ true → last_logged (es ++ (e ∷ fs)) ≡ k
last_record k [] e fs a = last_same k e fs a
last_record k (x ∷ []) e fs a = last_cons x e fs ∙ last_same k e fs a
last_record k (x ∷ (y ∷ es)) e fs a = last_cons x y (es ++ (e ∷ fs)) ∙ last_record k (y ∷ es) e fs a

-- entries of one region are all its thread's
pub count_same : (k : ℕ) (es : List Logged) → all (is_of k) es ≡ true → count (is_logged_by (thread_of k)) es ≡ length es
unfolding count
count_same k [] a = refl
count_same k (e ∷ es) a =
    let b = and_true (is_of k e) (all (is_of k) es) a in
    rw (eqb-true e.key k b.0, is_same (thread_of k)) (ap suc (count_same k es b.1))

-- what entries that fit have in common
pub fit_parts : (n l : ℕ) (es : List Logged) → all (fits_entry n l) es ≡ true → (all (is_on_board l) es ≡ true) × (all (λ e. is_line e.old) es ≡ true)
fit_parts n l [] h = (refl, refl)
fit_parts n l (e ∷ es) h =
    let a = and_true (fits_entry n l e) (all (fits_entry n l) es) h in
    let b = and_true (is_known_thread n e.key) (ltb e.line l && is_line e.old) a.0 in
    let c = and_true (ltb e.line l) (is_line e.old) b.1 in
    let ih = fit_parts n l es a.1 in
    (rw c.0 ih.0, rw c.1 ih.1)

module _ (n l : ℕ) (m : List (List ℕ)) (rs : List Listed) (size : in_range n l ≡ true) (whole : length m ≡ l) where
  abbrev at : List Logged → ℕ → Progress
  at es k = progress_of (persistent_of n l m rs es) k

  -- a header may stand behind the regions and behind a header
  header_placed : (es : List Logged) (k j : ℕ) → eqb k 35 ≡ false → 1 ≤ j → j ≤ 7 → is_placed_in (at es k) (40 + j) ≡ true
  header_placed es k j o a b =
      let z : eqb n 0 ≡ false = ne_eqb n 0 (λ z. omega (arith, (size_threads n l size).0)) in
      let w : ltb (length m) l ≡ false = le-ltb (length m) l (omega arith) in
      let q : eqb (40 + j) 35 ≡ false = ne_eqb (40 + j) 35 (λ z. omega arith) in
      let x : leb 34 (40 + j) ≡ true = le-leb 34 (40 + j) (omega arith) in
      let y : leb 35 (40 + j) ≡ true = le-leb 35 (40 + j) (omega arith) in
      let i = header_is j a b in
      rw (z, w, q, o, i) (test (eqb (length es) 0) (λ d. rw (d, x)) (λ d. rw (d, y)))

  header_read : (es : List Logged) (k : ℕ) (e : Logged) (fs : List Logged) (more : List ℕ) → eqb k 35 ≡ false → length fs ≤ 6 → all (is_of e.key) fs ≡ true
      → all (fits_entry n l) (e ∷ fs) ≡ true → leb (bound key_of_logged 0 0 es) e.key ≡ true → is_behind_short (at es k) e.key ≡ false
      → count (is_logged_by (thread_of e.key)) es + suc (length fs) ≤ 32
      → records_in true (at es k) 0 (headed_record (e ∷ fs) ++ more) ≡ records_in true (at (es ++ (e ∷ fs)) (40 + suc (length fs))) 0 more
  unfolding headed_record fields_in header_turn
  header_read es k e fs more o few same fit climbs long room =
      let g = e ∷ fs in
      let j = suc (length fs) in
      let i : is_header (40 + j) ≡ true = header_is j (omega arith) (omega arith) in
      let q : 40 + j - 40 ≡ j = omega arith in
      let t : is_known_thread n e.key ≡ true = (and_true (is_known_thread n e.key) (ltb e.line l && is_line e.old) (and_true (fits_entry n l e) (all (fits_entry n l) fs) fit).0).0 in
      let th : thread_of e.key < 256 = omega (arith, ltb-true (thread_of e.key) n t, (size_threads n l size).1) in
      let alls : all (is_of e.key) g ≡ true = rw (is_same e.key) same in
      let parts = fit_parts n l g fit in
      let back = header_back g more th alls parts.1 in
      record_read (is_kind_of true) is_placed_in headed_body fields_in (at es k) (at (es ++ g) (40 + j)) (40 + j) (header_body g) more
      (or_right (is_image_kind (40 + j)) i) (header_placed es k j o (omega arith) (omega arith)) (rw (i, q) (body_long g))
      (rw (i, q, back.0, back.1, t, parts.0, logged_test es e.key, climbs, long, le-leb (count (is_logged_by (thread_of e.key)) es + j) 32 room))

  -- the kind of the last record
  abbrev last_kind : ℕ → List (List Logged) → ℕ
  last_kind k [] = k
  last_kind k (g ∷ gs) = last_kind (40 + length g) gs

  -- a record behind one that is full, or of another region
  not_short : (es : List Logged) (e : Logged) (fs : List Logged) (x : Logged) (xs : List Logged) → all (is_of e.key) (e ∷ fs) ≡ true
      → is_apart e.key (length fs) (x ∷ xs) ≡ true → is_behind_short (at (es ++ (e ∷ fs)) (40 + suc (length fs))) x.key ≡ false
  not_short es e fs x xs a p =
      rw (last_record e.key es e fs a)
      (test (eqb (length fs) 6)
      (λ d. let f = eqb-true (length fs) 6 d in let w : ltb (40 + suc (length fs)) 47 ≡ false = le-ltb (40 + suc (length fs)) 47 (omega arith) in rw w (nothing_more (is_header (40 + suc (length fs)))))
      (λ d. let w : eqb x.key e.key ≡ false = other (eqb x.key e.key) (rw d at p) in
      let v : eqb e.key x.key ≡ false = eqb_swap e.key x.key ∙ w in
      rw v (neither (is_header (40 + suc (length fs))) (ltb (40 + suc (length fs)) 47))))
    where
      nothing_more : (b : Bool) → (b && (false && eqb e.key x.key)) ≡ false
      nothing_more true = refl
      nothing_more false = refl

      other : (b : Bool) → (false || not b) ≡ true → b ≡ false
      other true h = never h refl
      other false h = refl

      neither : (a b : Bool) → (a && (b && false)) ≡ false
      neither true true = refl
      neither true false = refl
      neither false b = refl

  headers_read : {gs : List (List Logged)} → Grouped gs → (es : List Logged) (k : ℕ) (more : List ℕ) → eqb k 35 ≡ false
      → ((x : Logged) (xs : List Logged) → held gs ≡ x ∷ xs → is_behind_short (at es k) x.key ≡ false)
      → ((t : ℕ) → count (is_logged_by t) (es ++ held gs) ≤ 32) → rises key_of_logged 0 0 (es ++ held gs) ≡ true → all (fits_entry n l) (held gs) ≡ true
      → records_in true (at es k) 0 (flat headed_record gs ++ more) ≡ records_in true (at (es ++ held gs) (last_kind k gs)) 0 more
  unfolding flat
  headers_read none es k more o f h r a = rw (append-nil es)
  headers_read (group e fs gs few same apart g) es k more o f h r a =
      let t = thread_of e.key in
      let x = e ∷ fs in
      let all_same : all (is_of e.key) x ≡ true = rw (is_same e.key) same in
      let b = all_split (fits_entry n l) x (held gs) a in
      let c : count (is_logged_by t) es + suc (length fs) ≤ 32
      = omega (arith, h t, count_append (is_logged_by t) es (x ++ held gs), count_append (is_logged_by t) x (held gs), count_same e.key x all_same) in
      let d = and_true (rises key_of_logged 0 0 es) (rises key_of_logged 0 (bound key_of_logged 0 0 es) (x ++ held gs)) (rw (rises_append key_of_logged 0 0 es (x ++ held gs)) at r) in
      let u = and_true (leb (bound key_of_logged 0 0 es) e.key) (rises key_of_logged 0 (0 + e.key) (fs ++ held gs)) d.1 in
      let s : (es ++ x) ++ held gs ≡ es ++ (x ++ held gs) = append_assoc es x (held gs) in
      let z : eqb (40 + suc (length fs)) 35 ≡ false = ne_eqb (40 + suc (length fs)) 35 (λ w. omega arith) in
      rw (append_assoc (headed_record x) (flat headed_record gs) more, header_read es k e fs (flat headed_record gs ++ more) o few same b.0 u.0 (f e (fs ++ held gs) refl) c)
      (rw s at (headers_read g (es ++ x) (40 + suc (length fs)) more z (λ y ys q. not_short es e fs y ys all_same (rw q at apart)) (rw s h) (rw s r) b.1))
    where
      all_split : (p : Logged → Bool) (xs ys : List Logged) → all p (xs ++ ys) ≡ true → (all p xs ≡ true) × (all p ys ≡ true)
      all_split p [] ys e = (refl, e)
      all_split p (x ∷ xs) ys e = let a = and_true (p x) (all p (xs ++ ys)) e in let ih = all_split p xs ys a.1 in (rw a.0 ih.0, ih.1)

  end_reads : (es : List Logged) (k : ℕ) → records_in true (at es k) 0 (36 ∷ []) ≡ Reads (at es k)
  unfolding turn_by fields_in fields_turn end_turn
  end_reads es k = turn_last (turn_in true) headed_body (at es k) (at es k) 36 [] (rw (end_placed n l m size whole rs es))

-- ---- the whole image

pub headed_records_back : (p : Persistent) → Valid p → records_read_as true (encode_headed p) ≡ Reads p
unfolding encode_headed records_read_as
headed_records_back p v =
    let n = p.threads in
    let l = p.lines in
    let m = p.medium in
    let rs = p.regions in
    let gs = log_records p.log in
    let lost : held gs ≡ p.log = nothing_lost (length p.log) p.log (omega arith) in
    ap state_read
    (front_reads p v (flat headed_record gs ++ (36 ∷ []))
    ∙ (headers_read n l m rs v.size v.whole (all_grouped (length p.log) p.log (omega arith)) [] 0 (36 ∷ []) refl (λ x xs q. refl)
    (rw lost v.room) (rw lost v.climbing) (rw lost v.entries)
    ∙ end_reads n l m rs v.size v.whole (held gs) (last_kind n l m rs v.size v.whole 0 gs)))
    ∙ rw lost

pub headed_back : (p : Persistent) → Valid p → contradicts p ≡ false → read_headed (encode_headed p) ≡ Reads p
unfolding read_as
headed_back p v c = rw (headed_records_back p v, c)

-- ---- the old reader

-- it stops at a header with 2
header_unknown : (p : Persistent) (e : Logged) (fs : List Logged) (more : List ℕ) → records_read p 0 (headed_record (e ∷ fs) ++ more) ≡ Refuses 2
unfolding headed_record turn_by
header_unknown p e fs more =
    let k = 40 + suc (length fs) in
    let z : leb k 36 ≡ false = lt-leb k 36 (omega arith) in
    turn_stop turn_of image_body p 2 k (header_body (e ∷ fs) ++ more) (rw (z, and-false (leb 32 k)))

pub old_stops : (p : Persistent) → Valid p → p.log ≢ [] → read_image (encode_headed p) ≡ Refuses 2
unfolding encode_headed read_image log_records_from flat
old_stops p v some = ap unless_contradicted (front_read p v (flat headed_record (log_records p.log) ++ (36 ∷ [])) ∙ stops p.log some)
  where
    q : Persistent
    q = persistent_of p.threads p.lines p.medium p.regions []

    stops : (es : List Logged) → es ≢ [] → records_read q 0 (flat headed_record (log_records es) ++ (36 ∷ [])) ≡ Refuses 2
    stops [] n = absurd (n refl)
    stops (e ∷ es) n =
        let g = e ∷ take (also_held e es) es in
        let gs = log_records_from (length es) (drop (also_held e es) es) in
        ap (records_read q 0) (append_assoc (headed_record g) (flat headed_record gs) (36 ∷ [])) ∙ header_unknown q e (take (also_held e es) es) (flat headed_record gs ++ (36 ∷ []))

-- without entries the two images are the same
pub none_same : (p : Persistent) → p.log ≡ [] → encode_headed p ≡ encode p
unfolding encode_headed encode log_records_from flat
none_same p e = rw e
