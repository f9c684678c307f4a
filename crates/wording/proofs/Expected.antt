-- The words that are printed behind an accepted cut are those of the expected memory.
use Rattle.undo.specs.Machine as u
use Rattle.undo.specs.History as v
use Rattle.undo.specs.Claim.{Reach}
use Prim.Native.Nat.{◌*◌, ◌+◌, ◌<◌, ◌≤◌, suc, zero, ℕ}
use mathlib.Core.Path.{◌∙◌, ◌≡◌, ap, refl, sym}
use mathlib.Core.Bool.{◌&&◌, false, true}
use mathlib.Core.List.{List, [], ◌++◌, ◌∷◌}
use lib.Dec.{eqb}
use lib.ListN.{drop, length, length-append, length-drop, length-replicate, take}
use lib.Seq.{drop-append-add, drop_at, drop-drop, get_or-take, length-take-le, take-append_seam}
use native.Mathlib.Omega.{arith}
use borrow.Author.Tests.{le-leb}
use Rattle.recovery.proofs.Places.{flat_at, image_short, no_test, old_form}
use Rattle.rules.proofs.Codec.Bytes.{all_at, is_line, length_words, line_back}
use Rattle.rules.proofs.Codec.Store.{found, length_head, length_line}
use Rattle.rules.proofs.Codec.Turns.{size_lines}
use Rattle.rules.proofs.Codec.Valid.{Valid}
use Rattle.rules.proofs.Cuts.{cut_is}
use Rattle.rules.proofs.Recover.Expected.{expected_length}
use Rattle.rules.proofs.Recover.Sound.{sound}
use Rattle.rules.proofs.Recover.Steps.{Standing, stands, start_stands, step_stands}
use Rattle.rules.proofs.Recover.Valid.{saved_valid}
use Rattle.rules.proofs.Sim.State.{Sim, Simulated, by}
use Rattle.rules.proofs.Sim.Looks.{reach}
use Rattle.rules.proofs.Sim.All.{every}
use Rattle.rules.specs.Bytes.{line_bytes, words_of}
use Rattle.rules.specs.Claim.{board_after, is_byte, is_byte_memory}
use Rattle.rules.specs.Contradiction.{contradicts}
use Rattle.rules.specs.History.{Account, accepted_in, expected, expected_bytes, has_cut, lines_in, memory_found}
use Rattle.rules.specs.Image.{Persistent, encode, entry_record, head_record, image, line_record, region_record, save, saved, with_medium}
use Rattle.rules.specs.Lists.{all, flat}
use Rattle.rules.specs.Recovery.{Recovering, line_start, restore}
use Rattle.rules.specs.Refusal.{is_set_up}
use Rattle.rules.specs.Run.{wrote_into}
use Rattle.rules.specs.Tables.{Memory, line_of}
use Rattle.rules.specs.declared.Board.{Board}
use Rattle.wording.proofs.Words.{expected_found, image_log}
use Rattle.wording.specs.Claim.{WordsExpected}
use Rattle.wording.specs.Text.{cut_text, finish, flat_to, image_buffer, image_line, line_text, memory_text, recovered, recovered_text}
use Rattle.undo.proofs.Laws.{and_true, test}
use Rattle.laws.proofs.Stored.{expected_lines}

-- ---- lines with the same bytes are the same

lines_same : (xs ys : List (List ℕ)) → length xs ≡ length ys → all is_line xs ≡ true → ((j : ℕ) → j < length ys → is_line (line_of j ys) ≡ true)
    → flat line_bytes xs ≡ flat line_bytes ys → xs ≡ ys
unfolding flat
lines_same [] [] n a b e = refl
lines_same [] (y ∷ ys) n a b e = absurd (omega arith)
lines_same (x ∷ xs) [] n a b e = absurd (omega arith)
lines_same (x ∷ xs) (y ∷ ys) n a b e =
    let p = and_true (is_line x) (all is_line xs) a in
    let f : x ≡ y = sym (line_back x (flat line_bytes xs) p.0) ∙ (ap (words_of 8) e ∙ line_back y (flat line_bytes ys) (b 0 (omega arith))) in
    let r : flat line_bytes xs ≡ flat line_bytes ys =
    sym (drop_at (line_bytes x) (flat line_bytes xs) 64 (length_words 8 x))
    ∙ (ap (drop 64) e ∙ drop_at (line_bytes y) (flat line_bytes ys) 64 (length_words 8 y)) in
    rw (f, lines_same xs ys (omega arith) p.1 (λ j k. b (suc j) (omega arith)) r)

-- ---- an image: its lines, and how long it is

behind_kind : (x t : List ℕ) → drop 1 (line_record x ++ t) ≡ line_bytes x ++ t
unfolding line_record
behind_kind x t = refl

module _ (p : Persistent) (z : Valid p) where
  abbrev records : List ℕ
  records = flat region_record p.regions ++ (flat entry_record p.log ++ (36 ∷ []))

  module _ (l : ℕ) (h : l < length p.medium) where
    line_behind : drop (line_start l) (encode p) ≡ line_bytes (line_of l p.medium) ++ (flat line_record (drop (suc l) p.medium) ++ records)
    unfolding encode
    line_behind =
        let d = head_record p.threads p.lines in
        let xs = flat line_record p.medium ++ records in
        let o : 4 + (65 * l + 1) ≡ length d + (65 * l + 1) = omega (arith, length_head p.threads p.lines) in
        rw (
          o,
          drop-append-add d xs (65 * l + 1),
          ← drop-drop 1 (65 * l) xs,
          flat_at line_record 65 (λ x. true) (λ x _. length_line x) p.medium l [] records (no_test p.medium) h,
        )
        (behind_kind (line_of l p.medium) (flat line_record (drop (suc l) p.medium) ++ records))

    line_inside : line_start l + 64 ≤ length (encode p)
    line_inside =
        let a = simp (length-drop, length-append) at (ap length line_behind) in
        omega (arith, length_words 8 (line_of l p.medium))

    line_found : image_line (encode p) l ≡ line_of l p.medium
    line_found =
        rw (le-leb (line_start l + 64) (length (encode p)) line_inside, line_behind)
        (line_back (line_of l p.medium) (flat line_record (drop (suc l) p.medium) ++ records) (all_at is_line p.medium l [] z.medium h))

-- ---- the image finds room in the buffer

wrote_text : (n : ℕ) (bs d : List ℕ) → length bs ≤ length d → recovered_text n (wrote_into bs (length bs) d) ≡ memory_text n (recovered bs)
unfolding recovered_text wrote_into
wrote_text n bs d h =
    rw (le-leb (length bs) (length d) h) (ap (λ (x : List ℕ). memory_text n (recovered x)) (take-append_seam bs (drop (0 + length bs) d)))

saved_text : (n : ℕ) (b : Board) (d : List ℕ) → is_set_up b.tables ≡ true → b.tables.cut ≡ true → length (image b) ≤ length d
    → recovered_text n (save b d) ≡ memory_text n (recovered (image b))
unfolding save
saved_text n b d up cut h = let c : (is_set_up b.tables && b.tables.cut) ≡ true = rw up cut in rw c (wrote_text n (image b) d h)

buffer_long : length image_buffer ≡ 34853
unfolding image_buffer
buffer_long = length-replicate {A = ℕ} 34853 0

-- ---- recovery leaves the image of the saved state with another medium

data Recovers (b : Board) (bs : List ℕ) : Type 0 where
  recovers : (md : List (List ℕ)) → bs ≡ encode (with_medium md (saved b)) → Valid (with_medium md (saved b)) → Recovers b bs

module _ {start : ℕ → List ℕ} {b : Board} {es : List Account} {s : u.State (List ℕ)} {h : v.History (List ℕ)} (rc : Reach start s h) (i : Sim b es s h)
    (up : is_set_up b.tables ≡ true) (quiet : contradicts (saved b) ≡ false) where
  step_recovers : {r : Recovering} → Standing rc i up quiet r → Recovers b r.bytes
  step_recovers (stands md a q z f pl) = recovers md q z

  finish_recovers : (n : ℕ) {r : Recovering} → Standing rc i up quiet r → Recovers b (finish n r)
  unfolding finish
  finish_recovers zero p = step_recovers (step_stands rc i up quiet p)
  finish_recovers (suc n) {r} p =
      test (eqb (restore r).answer.value 1)
      (λ q. rw q (finish_recovers n (step_stands rc i up quiet p)))
      (λ q. rw q (step_recovers (step_stands rc i up quiet p)))

  saved_short : length (image b) ≤ 34853
  unfolding image
  saved_short = image_short (old_form (saved b) (saved_valid rc i up)) (image_log b i.shape.threads.logs)

-- ---- the text

text_same : (f g : ℕ → List ℕ) (n i : ℕ) → ((l : ℕ) → l < i + n → f l ≡ g l) → flat_to f i n ≡ flat_to g i n
unfolding flat_to
text_same f g zero i h = refl
text_same f g (suc n) i h = rw (h i (omega arith), text_same f g n (suc i) (λ l k. h l (omega arith)))

module _ (m : Memory) (rs : List (List ℕ)) (bm : is_byte_memory m ≡ true) (br : all (all is_byte) rs ≡ true) (cut : has_cut (accepted_in m rs) ≡ true)
    (up : is_set_up (board_after m rs).tables ≡ true) (same : lines_in (accepted_in m rs) ≡ (board_after m rs).tables.size.lines) where
  abbrev n : ℕ
  n = (board_after m rs).tables.size.lines

  -- the medium that recovery leaves
  medium_expected : (md : List (List ℕ)) → recovered (image (board_after m rs)) ≡ encode (with_medium md (saved (board_after m rs)))
      → Valid (with_medium md (saved (board_after m rs))) → length md ≡ n → md ≡ take n (expected m rs)
  unfolding expected_bytes
  medium_expected md q z w =
      let ll = (size_lines (board_after m rs).tables.size.threads n up).1 in
      let el = expected_length m rs in
      let tl = length-take-le n (expected m rs) (omega arith) in
      let e : flat line_bytes md ≡ flat line_bytes (take n (expected m rs)) =
      sym (found (with_medium md (saved (board_after m rs))) z) ∙ (ap memory_found (sym q) ∙ (expected_found m rs bm br cut ∙ rw same)) in
      lines_same md (take n (expected m rs)) (w ∙ sym tl) z.medium
      (λ j k. let d : j < n = omega arith in rw (get_or-take n (expected m rs) j [] d) (expected_lines m rs bm j (omega arith))) e

  text_expected : Recovers (board_after m rs) (recovered (image (board_after m rs)))
      → memory_text n (recovered (image (board_after m rs))) ≡ flat_to (λ l. line_text l (line_of l (expected m rs))) 0 n
  unfolding memory_text saved
  text_expected (recovers md q z) =
      let w : length md ≡ n = z.whole in
      let e : md ≡ take n (expected m rs) = medium_expected md q z w in
      rw q (text_same (λ l. line_text l (image_line (encode (with_medium md (saved (board_after m rs)))) l)) (λ l. line_text l (line_of l (expected m rs))) n 0
      (λ l k. ap (line_text l)
      (line_found (with_medium md (saved (board_after m rs))) z l (omega arith) ∙ (ap (line_of l) e ∙ get_or-take n (expected m rs) l [] (omega arith)))))

pub words_expected : WordsExpected
unfolding cut_text
words_expected m rs bm br cut = go (every m rs bm).simulated
  where
    go : Simulated m (board_after m rs) (accepted_in m rs) → cut_text (board_after m rs) ≡ flat_to (λ l. line_text l (line_of l (expected m rs))) 0 (lines_in (accepted_in m rs))
    go (by s h w i) =
        let b = board_after m rs in
        let c : b.tables.cut ≡ true = cut_is m rs ∙ cut in
        let up = i.shape.cut_setup c in
        let quiet = sound (reach w) i (every m rs bm).rest in
        let same = i.told.lines up in
        saved_text b.tables.size.lines b image_buffer up c (omega (arith, saved_short (reach w) i up quiet, buffer_long))
        ∙ (text_expected m rs bm br cut up same (finish_recovers (reach w) i up quiet 256 (start_stands (reach w) i up quiet)) ∙ rw same)
