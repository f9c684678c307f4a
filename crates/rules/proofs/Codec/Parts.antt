-- A record that was accepted, written again: it gives the bytes that were read, and what it adds fits.
use Prim.Native.Nat.{◌+◌, ◌≤◌, ℕ}
use mathlib.Core.Path.{◌∙◌, ◌≡◌, ap, refl, sym}
use mathlib.Core.Bool.{◌||◌, true}
use mathlib.Core.List.{List, [], ◌++◌, ◌∷◌}
use lib.Dec.{eqb, leb, ltb}
use lib.ListN.{drop, get_or, length, take}
use native.Mathlib.Omega.{arith}
use lib.Seq.{drop-cons}
use Rattle.rules.proofs.Codec.Bytes.{key_part, line_part, num_part}
use Rattle.rules.proofs.Codec.Records.{next_same, past_test}
use Rattle.rules.proofs.Codec.Turns.{persistent_of}
use Rattle.rules.specs.Bytes.{bytes_of, line_at, line_bytes, num_of}
use Rattle.rules.specs.Claim.{is_byte}
use Rattle.rules.specs.Image.{Logged, Persistent, entry_record, head_record, key_bytes, line_record, region_record}
use Rattle.rules.specs.Lists.{all, count, flat}
use Rattle.rules.specs.Reader.{Next, is_known_thread, is_logged_by, key_at, last_listed, last_logged, listed_at, listed_turn, logged_at, logged_turn}
use Rattle.rules.specs.Tables.{thread_of}
use Rattle.rules.specs.declared.Listed.{Listed}

-- ---- what a region and a log entry that go on have shown, and what they add

pub record Listing (p q : Persistent) (r : Listed) : Type 0 where
  pub known : all (is_known_thread p.threads) (r.key ∷ r.deps) ≡ true
  pub rises : (eqb (length p.regions) 0 || ltb (last_listed p.regions) r.key) ≡ true
  pub few : ltb (length p.regions) 32 ≡ true
  pub after : persistent_of p.threads p.lines p.medium (p.regions ++ (r ∷ [])) p.log ≡ q

pub listing : (p q : Persistent) (r : Listed) → listed_turn p r ≡ Next q → Listing p q r
unfolding listed_turn
listing p q r e =
    let a = past_test (all (is_known_thread p.threads) (r.key ∷ r.deps)) _ 3 (Next q) refl e in
    let b = past_test (eqb (length p.regions) 0 || ltb (last_listed p.regions) r.key) _ 7 (Next q) refl a.1 in
    let c = past_test (ltb (length p.regions) 32) _ 7 (Next q) refl b.1 in
    record { known = a.0; rises = b.0; few = c.0; after = next_same c.1 }

pub record Logging (p q : Persistent) (e : Logged) : Type 0 where
  pub known : is_known_thread p.threads e.key ≡ true
  pub line : ltb e.line p.lines ≡ true
  pub climbs : leb (last_logged p.log) e.key ≡ true
  pub few : ltb (count (is_logged_by (thread_of e.key)) p.log) 32 ≡ true
  pub after : persistent_of p.threads p.lines p.medium p.regions (p.log ++ (e ∷ [])) ≡ q

pub logging : (p q : Persistent) (e : Logged) → logged_turn p e ≡ Next q → Logging p q e
unfolding logged_turn
logging p q e t =
    let a = past_test (is_known_thread p.threads e.key) _ 3 (Next q) refl t in
    let b = past_test (ltb e.line p.lines) _ 4 (Next q) refl a.1 in
    let c = past_test (leb (last_logged p.log) e.key) _ 7 (Next q) refl b.1 in
    let d = past_test (ltb (count (is_logged_by (thread_of e.key)) p.log) 32) _ 7 (Next q) refl c.1 in
    record { known = a.0; line = b.0; climbs = c.0; few = d.0; after = next_same d.1 }

-- ---- the bodies

module _ (bs : List ℕ) (e : all is_byte bs ≡ true) where
  key_then : (i : ℕ) (t : List ℕ) → i + 3 ≤ length bs → t ≡ drop (i + 3) bs → key_bytes (key_at bs i) ++ t ≡ drop i bs
  key_then i t h q = ap (λ x. key_bytes (key_at bs i) ++ x) q ∙ key_part i bs e h

  pub line_again : 64 ≤ length bs → line_record (line_at bs 0) ++ drop 64 bs ≡ 33 ∷ bs
  unfolding line_record
  line_again h = ap (λ x. 33 ∷ x) (line_part 0 bs e h)

  pub region_again : 16 ≤ length bs → region_record (listed_at bs) ++ drop 16 bs ≡ 34 ∷ bs
  unfolding region_record listed_at flat bytes_of
  region_again h =
      let k : ℕ → List ℕ = λ i. key_bytes (key_at bs i) in
      let d = key_then 4 (k 7 ++ (k 10 ++ (k 13 ++ drop 16 bs))) (omega arith)
      (key_then 7 (k 10 ++ (k 13 ++ drop 16 bs)) (omega arith)
      (key_then 10 (k 13 ++ drop 16 bs) (omega arith)
      (key_then 13 (drop 16 bs) (omega arith) refl))) in
      let s : get_or bs 3 0 ∷ (k 4 ++ (k 7 ++ (k 10 ++ (k 13 ++ drop 16 bs)))) ≡ drop 3 bs = ap (λ x. get_or bs 3 0 ∷ x) d ∙ sym (drop-cons bs 3 0 (omega arith)) in
      ap (λ x. 34 ∷ x) (key_then 0 (get_or bs 3 0 ∷ (k 4 ++ (k 7 ++ (k 10 ++ (k 13 ++ drop 16 bs))))) (omega arith) s)

  pub entry_again : 68 ≤ length bs → entry_record (logged_at bs) ++ drop 68 bs ≡ 35 ∷ bs
  unfolding entry_record logged_at bytes_of
  entry_again h =
      let s : get_or bs 3 0 ∷ (line_bytes (line_at bs 4) ++ drop 68 bs) ≡ drop 3 bs = ap (λ x. get_or bs 3 0 ∷ x) (line_part 4 bs e h) ∙ sym (drop-cons bs 3 0 (omega arith)) in
      ap (λ x. 35 ∷ x) (key_then 0 (get_or bs 3 0 ∷ (line_bytes (line_at bs 4) ++ drop 68 bs)) (omega arith) s)

  pub head_again : 3 ≤ length bs → head_record (get_or bs 0 0) (num_of (take 2 (drop 1 bs))) ++ drop 3 bs ≡ 32 ∷ bs
  unfolding head_record
  head_again h = ap (λ x. 32 ∷ x) (ap (λ x. get_or bs 0 0 ∷ x) (num_part 2 1 bs e h) ∙ sym (drop-cons bs 0 0 (omega arith)))
