-- The refusals of an image: each is 1, 2, 3, 4, 6, 7 or 8. What holds of these numbers holds of every refusal.
use Prim.Native.Nat.{ℕ}
use mathlib.Core.Path.{◌≡◌, refl}
use mathlib.Core.Bool.{Bool, ◌||◌, cond, true}
use mathlib.Core.List.{List, ◌∷◌}
use lib.Dec.{eqb, leb, ltb}
use lib.ListN.{drop, get_or, length, take}
use Rattle.rules.proofs.Codec.Records.{along}
use Rattle.rules.specs.Bytes.{num_of}
use Rattle.rules.specs.Contradiction.{contradicts}
use Rattle.rules.specs.Image.{Logged, Persistent}
use Rattle.rules.specs.Lists.{all, count}
use Rattle.rules.specs.Reader.{Last, Next, Reads, Refuses, Stop, Turn, Verdict, end_turn, fields_turn, head_turn, image_body, is_image_kind, is_known_thread, is_logged_by, is_placed, last_listed, last_logged, line_turn, listed_at, listed_turn, logged_at, logged_turn, nothing, read_image, records_read, turn_by, turn_of, unless_contradicted}
use Rattle.rules.specs.Refusal.{in_range}
use Rattle.rules.specs.Tables.{thread_of}
use Rattle.rules.specs.declared.Listed.{Listed}
use Rattle.undo.proofs.Laws.{test}

-- a test that all of them pass
pub record ImageRefusals (ok : ℕ → Bool) : Type 0 where
  pub one : ok 1 ≡ true
  pub two : ok 2 ≡ true
  pub three : ok 3 ≡ true
  pub four : ok 4 ≡ true
  pub six : ok 6 ≡ true
  pub seven : ok 7 ≡ true
  pub eight : ok 8 ≡ true

module _ {S : Type 0} (ok : ℕ → Bool) where
  abbrev pub stops_by : Turn S → Bool
  stops_by (Stop n) = ok n
  stops_by (Next s) = true
  stops_by (Last s) = true

  abbrev pub refuses_by : Verdict S → Bool
  refuses_by (Refuses n) = ok n
  refuses_by (Reads s) = true

  pub either : (b : Bool) (x y : Turn S) → stops_by x ≡ true → stops_by y ≡ true → stops_by (cond b x y) ≡ true
  either b x y e f = test b (λ t. rw t e) (λ t. rw t f)

module _ (ok : ℕ → Bool) (h : ImageRefusals ok) where
  listed_stops : (p : Persistent) (r : Listed) → stops_by ok (listed_turn p r) ≡ true
  unfolding listed_turn
  listed_stops p r =
      either ok (all (is_known_thread p.threads) (r.key ∷ r.deps)) _ (Stop 3)
      (either ok (eqb (length p.regions) 0 || ltb (last_listed p.regions) r.key) _ (Stop 7)
      (either ok (ltb (length p.regions) 32) (Next _) (Stop 7) refl h.seven) h.seven) h.three

  logged_stops : (p : Persistent) (e : Logged) → stops_by ok (logged_turn p e) ≡ true
  unfolding logged_turn
  logged_stops p e =
      either ok (is_known_thread p.threads e.key) _ (Stop 3)
      (either ok (ltb e.line p.lines) _ (Stop 4)
      (either ok (leb (last_logged p.log) e.key) _ (Stop 7)
      (either ok (ltb (count (is_logged_by (thread_of e.key)) p.log) 32) (Next _) (Stop 7) refl h.seven) h.seven) h.four) h.three

  pub fields_stop : (p : Persistent) (k : ℕ) (bs : List ℕ) → stops_by ok (fields_turn p k bs) ≡ true
  unfolding fields_turn head_turn line_turn end_turn
  fields_stop p k bs =
      either ok (eqb k 32) _ _ (either ok (in_range (get_or bs 0 0) (num_of (take 2 (drop 1 bs)))) (Next _) (Stop 6) refl h.six)
      (either ok (eqb k 33) (Next _) _ refl
      (either ok (eqb k 34) (listed_turn p (listed_at bs)) _ (listed_stops p (listed_at bs))
      (either ok (eqb k 35) (logged_turn p (logged_at bs)) _ (logged_stops p (logged_at bs))
      (either ok (eqb (length bs) 0) (Last p) (Stop 7) refl h.seven))))

  turn_stops : (p : Persistent) (k : ℕ) (bs : List ℕ) → stops_by ok (turn_of p (k ∷ bs)) ≡ true
  unfolding turn_by
  turn_stops p k bs =
      either ok (is_image_kind k) _ (Stop 2)
      (either ok (is_placed p k) _ (Stop 7) (either ok (leb (image_body k) (length bs)) _ (Stop 1) (fields_stop p k bs) h.one) h.seven) h.two

  pub records_refuse : (bs : List ℕ) → refuses_by ok (records_read nothing 0 bs) ≡ true
  records_refuse bs =
      along turn_of image_body (λ p bs. Unit {0}) (λ v. refuses_by ok v ≡ true) h.one (λ p n b bs g t. rw t at (turn_stops p b bs)) (λ p q b bs g t. tt) (λ p q b bs g t. refl) bs 0 nothing tt

  -- 8 is one of them
  pub unless_refuses : (v : Verdict Persistent) → refuses_by ok v ≡ true → refuses_by ok (unless_contradicted v) ≡ true
  unless_refuses (Refuses n) e = e
  unless_refuses (Reads p) e = test (contradicts p) (λ c. rw c h.eight) (λ c. rw c)

  pub image_refuses : (bs : List ℕ) → refuses_by ok (read_image bs) ≡ true
  unfolding read_image
  image_refuses bs = unless_refuses (records_read nothing 0 bs) (records_refuse bs)
