-- The promises about images of both forms.
use Prim.Native.Nat.{ℕ}
use mathlib.Core.Path.{◌∙◌, ◌≡◌, ap, refl, sym}
use mathlib.Core.Logic.{◌≢◌}
use mathlib.Core.Bool.{false, true}
use mathlib.Core.List.{List}
use lib.ListN.{length}
use native.Mathlib.Nat.{le_refl}
use Rattle.rules.proofs.Codec.Back.{image_read}
use Rattle.rules.proofs.Codec.Image.{accepted}
use Rattle.rules.proofs.Codec.Records.{not_reads}
use Rattle.rules.proofs.Codec.Valid.{Valid}
use Rattle.rules.proofs.Cuts.{cut_is}
use Rattle.rules.proofs.Recover.Sound.{sound}
use Rattle.rules.proofs.Recover.Valid.{saved_valid}
use Rattle.rules.proofs.Sim.All.{every}
use Rattle.rules.proofs.Sim.Looks.{reach}
use Rattle.rules.proofs.Sim.State.{Simulated, by}
use Rattle.rules.specs.Claim.{board_after, is_byte_memory}
use Rattle.rules.specs.Contradiction.{contradicts}
use Rattle.rules.specs.History.{accepted_in}
use Rattle.rules.specs.Image.{Persistent, encode, saved}
use Rattle.rules.specs.Reader.{Reads, Refuses, nothing, read_image, records_read, unless_contradicted}
use Rattle.rules.specs.Tables.{Memory}
use Rattle.undo.proofs.Laws.{never}
use Rattle.undo.specs.Table.{any}
use Rattle.headed.specs.Claim.{BothForms, HeadedImages}
use Rattle.headed.specs.Image.{image_headed}
use Rattle.headed.specs.Reader.{is_header, read_as, read_headed, records_in, records_read_as, unread}
use Rattle.headed.proofs.Back.{headed_back, none_same, old_stops}
use Rattle.headed.proofs.Groups.{all_grouped, nothing_lost, only_records}
use Rattle.headed.proofs.Old.{Alike, alike, old_image, same, stopped}
use Rattle.headed.proofs.Only.{records_either}

-- ---- the new reader where the old one does not stop at a header

not_stopped : (bs : List ℕ) → Alike true bs (records_in true unread 0 bs) (records_read nothing 0 bs) → (records_read nothing 0 bs ≡ Refuses 2 → any is_header bs ≡ true → ⊥)
    → read_headed bs ≡ read_image bs
unfolding read_as read_image records_read_as
not_stopped bs (same e) n = ap unless_contradicted e
not_stopped bs (stopped h a e) n = absurd (n e a)

pub unless_stopped : (bs : List ℕ) → read_image bs ≢ Refuses 2 → read_headed bs ≡ read_image bs
unfolding read_image
unless_stopped bs n = not_stopped bs (alike true bs 0 unread refl) (λ e a. n (ap unless_contradicted e))

without_header : (bs : List ℕ) → any is_header bs ≡ false → read_headed bs ≡ read_image bs
without_header bs n = not_stopped bs (alike true bs 0 unread refl) (λ e a. never a n)

not_refused : {p : Persistent} → Reads p ≢ Refuses 2
not_refused e = not_reads (sym e)

-- ---- a state that fits and does not contradict itself

both_forms : (p : Persistent) → Valid p → contradicts p ≡ false → BothForms p
both_forms p v c =
    let r = image_read p v c in
    record {
      old = r;
      stops = old_stops p v;
      same = none_same p;
      takes_old = unless_stopped (encode p) (λ e. not_refused (sym r ∙ e)) ∙ r;
      takes_new = headed_back p v c;
    }

read_headed_lem : (bs : List ℕ) (p : Persistent) → read_headed bs ≡ Reads p → (records_read_as true bs ≡ Reads p) × (contradicts p ≡ false)
unfolding read_as
read_headed_lem bs p e = accepted (records_read_as true bs) p e

pub saved_both : (m : Memory) (rs : List (List ℕ)) → is_byte_memory m ≡ true → (board_after m rs).tables.cut ≡ true → (Valid (saved (board_after m rs))) × (contradicts (saved (board_after m rs)) ≡ false)
saved_both m rs bm cut = go (every m rs bm).simulated
  where
    go : Simulated m (board_after m rs) (accepted_in m rs) → (Valid (saved (board_after m rs))) × (contradicts (saved (board_after m rs)) ≡ false)
    go (by s h w i) = let rc = reach w in (saved_valid rc i (i.shape.cut_setup cut), sound rc i (every m rs bm).rest)

pub headed_images : HeadedImages
unfolding image_headed
headed_images =
    record {
      back = λ m rs bm br cut. let b = saved_both m rs bm (cut_is m rs ∙ cut) in (headed_back (saved (board_after m rs)) b.0 b.1, both_forms (saved (board_after m rs)) b.0 b.1);
      only = λ bs p y e. (records_either bs p y (read_headed_lem bs p e).0).1;
      both = λ bs p y e. let r = read_headed_lem bs p e in both_forms p (records_either bs p y r.0).0 r.1;
      whole = λ es. (nothing_lost (length es) es (le_refl _), all_grouped (length es) es (le_refl _));
      single = λ gs g. only_records _ g (le_refl _);
      unless = unless_stopped;
      without = without_header;
      plain = old_image;
    }
