-- The two forms of one state: a step, and a step that is cut inside, does to both the same.
use Prim.Native.Nat.{◌<◌, ℕ}
use mathlib.Core.Path.{◌∙◌, ◌≡◌, refl, sym}
use mathlib.Core.Bool.{Bool, false, true}
use mathlib.Core.List.{List, [], ◌++◌, ◌∷◌}
use lib.ListN.{drop, set}
use native.Mathlib.Omega.{arith}
use Rattle.headed.proofs.Back.{headed_back}
use Rattle.headed.specs.Image.{encode_headed, headed_record, log_records}
use Rattle.headed.specs.Reader.{read_headed}
use Rattle.headed.specs.Recovery.{restore_as, restore_headed}
use Rattle.rules.proofs.Codec.Back.{image_read}
use Rattle.rules.proofs.Codec.Bytes.{all_at, is_line}
use Rattle.rules.proofs.Codec.Store.{found, found_front, put_back_lem, put_front, put_valid}
use Rattle.rules.proofs.Codec.Valid.{Valid}
use Rattle.rules.proofs.Recover.Steps.{fits_left}
use Rattle.rules.specs.Bytes.{line_at}
use Rattle.rules.specs.Contradiction.{contradicts}
use Rattle.rules.specs.History.{memory_found}
use Rattle.rules.specs.Image.{Logged, Persistent, encode, region_record, with_medium}
use Rattle.rules.specs.Lists.{flat}
use Rattle.rules.specs.Reader.{Reads, read_image}
use Rattle.rules.specs.Recovery.{line_start, put_back, restore, restore_by}
use Rattle.rules.specs.Tables.{line_of}
use Rattle.rules.specs.Walk.{walk_entries}
use Rattle.torn.proofs.Mixed.{front_line, image_line, mixed_line}
use Rattle.torn.specs.Torn.{Inside, mixed, torn_act, torn_by}
use Rattle.alike.specs.Alike.{headed_act}

-- what stands behind the lines of a new image
abbrev behind : Persistent → List ℕ
behind p = flat region_record p.regions ++ (flat headed_record (log_records p.log) ++ (36 ∷ []))

-- the old and the new image of a state that fits and does not contradict itself
pub data Forms (bs cs : List ℕ) : Type 0 where
  forms : (p : Persistent) → Valid p → contradicts p ≡ false → bs ≡ encode p → cs ≡ encode_headed p → Forms bs cs

put_headed : (p : Persistent) (e : Logged) → Valid p → e.line < p.lines → put_back e (encode_headed p) ≡ encode_headed (with_medium (set p.medium e.line e.old) p)
unfolding encode_headed
put_headed p e v h = put_front p.threads p.lines p.medium (behind p) e (omega (arith, v.whole))

-- a line that is put into both
put_both : (p : Persistent) (e : Logged) → Valid p → contradicts p ≡ false → e.line < p.lines → is_line e.old ≡ true → Forms (put_back e (encode p)) (put_back e (encode_headed p))
unfolding contradicts
put_both p e v c h o = forms (with_medium (set p.medium e.line e.old) p) (put_valid p e v o) c (put_back_lem p e v h) (put_headed p e v h)

pub same_lines : {bs cs : List ℕ} → Forms bs cs → memory_found cs ≡ memory_found bs
unfolding encode_headed
same_lines (forms p v c e f) = rw (e, f) (found_front p.threads p.lines p.medium (behind p) v.size v.whole ∙ sym (found p v))

-- ---- a step

pub record SameStep (bs cs : List ℕ) (n : ℕ) : Type 0 where
  pub answer : (restore_headed (record { bytes = cs; at = n })).answer ≡ (restore (record { bytes = bs; at = n })).answer
  pub at : (restore_headed (record { bytes = cs; at = n })).after.at ≡ (restore (record { bytes = bs; at = n })).after.at
  pub bytes : Forms (restore (record { bytes = bs; at = n })).after.bytes (restore_headed (record { bytes = cs; at = n })).after.bytes

pub same_step : {bs cs : List ℕ} (n : ℕ) → Forms bs cs → SameStep bs cs n
unfolding restore restore_as restore_by
same_step n (forms p v c e f) =
    rw (e, f) (go (drop n (walk_entries p)) refl (image_read p v c) (headed_back p v c))
  where
    go : (es : List Logged) → drop n (walk_entries p) ≡ es → read_image (encode p) ≡ Reads p → read_headed (encode_headed p) ≡ Reads p → SameStep (encode p) (encode_headed p) n
    go [] k r s = record { answer = rw (r, s, k); at = rw (r, s, k); bytes = rw (r, s, k) (forms p v c refl refl) }
    go (x ∷ es) k r s =
        let g = fits_left p v n k in
        record { answer = rw (r, s, k); at = rw (r, s, k); bytes = rw (r, s, k) (put_both p x v c g.0 g.1) }

-- ---- a step that is cut inside

pub same_tear : {bs cs : List ℕ} (n : ℕ) (q : ℕ → Bool) → Forms bs cs
    → Forms (torn_act (record { bytes = bs; at = n }) (Inside q)).bytes (headed_act (record { bytes = cs; at = n }) (Inside q)).bytes
unfolding torn_act headed_act torn_by encode_headed
same_tear n q (forms p v c e f) = rw (e, f, image_read p v c, headed_back p v c) (go (drop n (walk_entries p)) refl)
  where
    go : (es : List Logged) → drop n (walk_entries p) ≡ es
        → Forms (torn_by q es (record { bytes = encode p; at = n })).bytes (torn_by q es (record { bytes = encode_headed p; at = n })).bytes
    go [] k = forms p v c refl refl
    go (x ∷ es) k =
        let g = fits_left p v n k in
        let gl = g.0 in
        let old : line_at (encode p) (line_start x.line) ≡ line_of x.line p.medium = image_line p x.line v g.0 in
        let new : line_at (encode_headed p) (line_start x.line) ≡ line_of x.line p.medium
        = front_line p.threads p.lines x.line p.medium (behind p) (omega (arith, v.whole)) v.medium in
        let ok = mixed_line q (line_of x.line p.medium) x.old (all_at is_line p.medium x.line [] v.medium (omega (arith, v.whole))) g.1 in
        rw (old, new) (put_both p (record { key = x.key; line = x.line; old = mixed q 0 (line_of x.line p.medium) x.old }) v c g.0 ok)
