-- An image reads back to the state that it was written from.
use Prim.Native.Nat.{◌+◌, ◌<◌, ◌≤◌, suc, ℕ}
use mathlib.Core.Path.{◌∙◌, ◌≡◌, refl}
use mathlib.Core.Bool.{◌&&◌, cond, false, true}
use mathlib.Core.List.{List, [], ◌++◌, ◌∷◌, append_assoc, append-nil}
use lib.Dec.{eqb, leb, ltb}
use lib.ListN.{length, length-append}
use native.Mathlib.Omega.{arith}
use borrow.Author.Tests.{eqb-true, le-ltb, lt-ltb, ne_eqb}
use lib.Seq.{append_snoc}
use Rattle.rules.proofs.Codec.Bytes.{is_line}
use Rattle.rules.proofs.Codec.Turns.{entry_body, head_read, length_entry, length_region, line_read, listed_back, logged_back, region_body, size_threads, persistent_of}
use Rattle.rules.proofs.Codec.Records.{record_read, turn_last}
use Rattle.rules.proofs.Codec.Valid.{Valid, bound, count_append, fits_entry, fits_region, key_of_listed, key_of_logged, listed_test, logged_test, rises, rises_append}
use Rattle.rules.specs.Claim.{is_byte}
use Rattle.rules.specs.Contradiction.{contradicts}
use Rattle.rules.specs.Image.{Logged, Persistent, encode, entry_record, head_record, line_record, region_record}
use Rattle.rules.specs.declared.Listed.{Listed}
use Rattle.rules.specs.Lists.{all, count, flat}
use Rattle.rules.specs.Reader.{Next, Reads, end_turn, fields_turn, image_body, is_image_kind, is_known_thread, is_logged_by, is_placed, listed_turn, logged_turn, nothing, read_image, records_read, turn_by, turn_of}
use Rattle.rules.specs.Refusal.{in_range}
use Rattle.rules.specs.Tables.{thread_of}
use Rattle.undo.proofs.Laws.{and_true, is_same, test}

-- ---- behind the lines: regions, log entries, the end

module _ (n l : ℕ) (m : List (List ℕ)) (size : in_range n l ≡ true) (whole : length m ≡ l) where
  headed : eqb n 0 ≡ false
  headed = ne_eqb n 0 (λ z. omega (arith, (size_threads n l size).0))

  lined : ltb (length m) l ≡ false
  lined = le-ltb (length m) l (omega arith)

  pub region_placed : (rs : List Listed) → is_placed (persistent_of n l m rs []) 34 ≡ true
  region_placed rs = rw (headed, lined)

  pub region_fields : (rs : List Listed) (r : Listed) (more : List ℕ) → fits_region n r ≡ true → length rs < 32 → leb (bound key_of_listed 1 0 rs) r.key ≡ true
      → (length (region_body r) ≡ 16) × (fields_turn (persistent_of n l m rs []) 34 (region_body r ++ more) ≡ Next (persistent_of n l m (rs ++ (r ∷ [])) []))
  unfolding fields_turn listed_turn
  region_fields rs r more e h o =
      let a = and_true (all (is_known_thread n) (r.key ∷ r.deps)) (eqb (length r.deps) 4 && is_byte r.state) e in
      let d : length r.deps ≡ 4 = eqb-true (length r.deps) 4 (and_true (eqb (length r.deps) 4) (is_byte r.state) a.1).0 in
      (length_region r d, rw (listed_back n (size_threads n l size).1 r more a.0 d, a.0, listed_test rs r.key, o, lt-ltb (length rs) 32 h))

  region_read : (rs : List Listed) (r : Listed) (more : List ℕ) → fits_region n r ≡ true → length rs < 32 → leb (bound key_of_listed 1 0 rs) r.key ≡ true
      → records_read (persistent_of n l m rs []) 0 (region_record r ++ more) ≡ records_read (persistent_of n l m (rs ++ (r ∷ [])) []) 0 more
  unfolding region_record
  region_read rs r more e h o =
      let a = region_fields rs r more e h o in
      record_read is_image_kind is_placed image_body fields_turn (persistent_of n l m rs []) (persistent_of n l m (rs ++ (r ∷ [])) []) 34 (region_body r) more refl (region_placed rs) a.0 a.1

  any_entry : (es : List Logged) → cond (eqb (length es) 0) (leb 34 35) (leb 35 35) ≡ true
  any_entry es = test (eqb (length es) 0) (λ b. rw b) (λ b. rw b)

  pub entry_read : (rs : List Listed) (es : List Logged) (e : Logged) (more : List ℕ) → fits_entry n l e ≡ true
      → count (is_logged_by (thread_of e.key)) es < 32 → leb (bound key_of_logged 0 0 es) e.key ≡ true
      → records_read (persistent_of n l m rs es) 0 (entry_record e ++ more) ≡ records_read (persistent_of n l m rs (es ++ (e ∷ []))) 0 more
  unfolding entry_record fields_turn logged_turn
  entry_read rs es e more b h o =
      let a = and_true (is_known_thread n e.key) (ltb e.line l && is_line e.old) b in
      let c = and_true (ltb e.line l) (is_line e.old) a.1 in
      record_read is_image_kind is_placed image_body fields_turn (persistent_of n l m rs es) (persistent_of n l m rs (es ++ (e ∷ []))) 35 (entry_body e) more refl (rw (headed, lined) (any_entry es)) (length_entry e)
      (rw (logged_back n (size_threads n l size).1 e more a.0 c.1, a.0, c.0, logged_test es e.key, o, lt-ltb (count (is_logged_by (thread_of e.key)) es) 32 h))

  any_end : (es : List Logged) → cond (eqb (length es) 0) (leb 34 36) (leb 35 36) ≡ true
  any_end es = test (eqb (length es) 0) (λ b. rw b) (λ b. rw b)

  pub end_placed : (rs : List Listed) (es : List Logged) → is_placed (persistent_of n l m rs es) 36 ≡ true
  end_placed rs es = rw (headed, lined, any_end es)

  pub end_read : (rs : List Listed) (es : List Logged) → records_read (persistent_of n l m rs es) 0 (36 ∷ []) ≡ Reads (persistent_of n l m rs es)
  unfolding turn_by fields_turn end_turn
  end_read rs es = turn_last turn_of image_body (persistent_of n l m rs es) (persistent_of n l m rs es) 36 [] (rw (headed, lined, any_end es))

-- ---- lists of records: what is read before them and they together are the parts of a valid state

-- lines and regions, by any reader R that takes one
module _ {X : Type 0} (R : Persistent → List ℕ → X) where
  pub lines_by : (n l : ℕ) (rs : List Listed) (es : List Logged)
      → ((m : List (List ℕ)) (x more : List ℕ) → is_line x ≡ true → length m < l
      → R (persistent_of n l m rs es) (line_record x ++ more) ≡ R (persistent_of n l (m ++ (x ∷ [])) rs es) more)
      → (m ls : List (List ℕ)) (more : List ℕ) → length (m ++ ls) ≤ l → all is_line ls ≡ true
      → R (persistent_of n l m rs es) (flat line_record ls ++ more) ≡ R (persistent_of n l (m ++ ls) rs es) more
  unfolding flat
  lines_by n l rs es one m [] more h e = rw (append-nil m)
  lines_by n l rs es one m (x ∷ ls) more h e =
      let b = and_true (is_line x) (all is_line ls) e in
      let a : length m < l = omega (arith, length-append m (x ∷ ls)) in
      let s : (m ++ (x ∷ [])) ++ ls ≡ m ++ (x ∷ ls) = append_snoc m x ls in
      rw (append_assoc (line_record x) (flat line_record ls) more, one m x (flat line_record ls ++ more) b.0 a)
      (rw s at (lines_by n l rs es one (m ++ (x ∷ [])) ls more (rw s h) b.1))

  pub regions_by : (n l : ℕ) (m : List (List ℕ))
      → ((rs : List Listed) (r : Listed) (more : List ℕ) → fits_region n r ≡ true → length rs < 32 → leb (bound key_of_listed 1 0 rs) r.key ≡ true
      → R (persistent_of n l m rs []) (region_record r ++ more) ≡ R (persistent_of n l m (rs ++ (r ∷ [])) []) more)
      → (rs qs : List Listed) (more : List ℕ) → length (rs ++ qs) ≤ 32 → rises key_of_listed 1 0 (rs ++ qs) ≡ true → all (fits_region n) qs ≡ true
      → R (persistent_of n l m rs []) (flat region_record qs ++ more) ≡ R (persistent_of n l m (rs ++ qs) []) more
  unfolding flat
  regions_by n l m one rs [] more h o e = rw (append-nil rs)
  regions_by n l m one rs (r ∷ qs) more h o e =
      let b = and_true (fits_region n r) (all (fits_region n) qs) e in
      let a : length rs < 32 = omega (arith, length-append rs (r ∷ qs)) in
      let s : (rs ++ (r ∷ [])) ++ qs ≡ rs ++ (r ∷ qs) = append_snoc rs r qs in
      let c = and_true (rises key_of_listed 1 0 rs) (rises key_of_listed 1 (bound key_of_listed 1 0 rs) (r ∷ qs)) (rw (rises_append key_of_listed 1 0 rs (r ∷ qs)) at o) in
      let d = and_true (leb (bound key_of_listed 1 0 rs) r.key) (rises key_of_listed 1 (1 + r.key) qs) c.1 in
      rw (append_assoc (region_record r) (flat region_record qs) more, one rs r (flat region_record qs ++ more) b.0 a d.0)
      (rw s at (regions_by n l m one (rs ++ (r ∷ [])) qs more (rw s h) (rw s o) b.1))

module _ (n l : ℕ) (m : List (List ℕ)) (size : in_range n l ≡ true) (whole : length m ≡ l) where
  pub entries_read : (rs : List Listed) (es fs : List Logged) (more : List ℕ) → ((t : ℕ) → count (is_logged_by t) (es ++ fs) ≤ 32)
      → rises key_of_logged 0 0 (es ++ fs) ≡ true → all (fits_entry n l) fs ≡ true
      → records_read (persistent_of n l m rs es) 0 (flat entry_record fs ++ more) ≡ records_read (persistent_of n l m rs (es ++ fs)) 0 more
  unfolding flat count
  entries_read rs es [] more h o e = rw (append-nil es)
  entries_read rs es (x ∷ fs) more h o e =
      let b = and_true (fits_entry n l x) (all (fits_entry n l) fs) e in
      let t = thread_of x.key in
      let i : count (is_logged_by t) (x ∷ fs) ≡ suc (count (is_logged_by t) fs) = rw (is_same t) in
      let a : count (is_logged_by t) es < 32 = omega (arith, h t, count_append (is_logged_by t) es (x ∷ fs), i) in
      let s : (es ++ (x ∷ [])) ++ fs ≡ es ++ (x ∷ fs) = append_snoc es x fs in
      let c = and_true (rises key_of_logged 0 0 es) (rises key_of_logged 0 (bound key_of_logged 0 0 es) (x ∷ fs)) (rw (rises_append key_of_logged 0 0 es (x ∷ fs)) at o) in
      let d = and_true (leb (bound key_of_logged 0 0 es) x.key) (rises key_of_logged 0 (0 + x.key) fs) c.1 in
      rw (append_assoc (entry_record x) (flat entry_record fs) more, entry_read n l m size whole rs es x (flat entry_record fs ++ more) b.0 a d.0)
      (rw s at (entries_read rs (es ++ (x ∷ [])) fs more (rw s h) (rw s o) b.1))

-- ---- the whole image

-- the records before the log entries
pub front_read : (p : Persistent) → Valid p → (more : List ℕ)
    → records_read nothing 0 (head_record p.threads p.lines ++ (flat line_record p.medium ++ (flat region_record p.regions ++ more)))
    ≡ records_read (persistent_of p.threads p.lines p.medium p.regions []) 0 more
front_read p v more =
    let n = p.threads in
    let l = p.lines in
    let m = p.medium in
    let rs = p.regions in
    head_read n l (flat line_record m ++ (flat region_record rs ++ more)) v.size
    ∙ (lines_by (λ q. records_read q 0) n l [] [] (λ m x more. line_read n l m [] [] v.size x more) [] m (flat region_record rs ++ more) (omega (arith, v.whole)) v.medium
    ∙ regions_by (λ q. records_read q 0) n l m (region_read n l m v.size v.whole) [] rs more v.few v.rising v.regions)

pub reads_back : (p : Persistent) → Valid p → records_read nothing 0 (encode p) ≡ Reads p
unfolding encode
reads_back p v =
    let n = p.threads in
    let l = p.lines in
    let m = p.medium in
    let rs = p.regions in
    let es = p.log in
    front_read p v (flat entry_record es ++ (36 ∷ []))
    ∙ (entries_read n l m v.size v.whole rs [] es (36 ∷ []) v.room v.climbing v.entries
    ∙ end_read n l m v.size v.whole rs es)

-- and is accepted unless it contradicts itself
pub image_read : (p : Persistent) → Valid p → contradicts p ≡ false → read_image (encode p) ≡ Reads p
unfolding read_image
image_read p v c = rw (reads_back p v, c)
