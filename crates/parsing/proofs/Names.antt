-- The line that a word begins.
use Prim.Native.Nat.{◌<◌, ◌≤◌, suc, ℕ}
use mathlib.Core.Path.{◌∙◌, ◌≡◌, ap, refl}
use mathlib.Core.Bool.{◌&&◌, false, false≢true, true}
use native.Mathlib.Omega.{arith}
use lib.Dec.{ltb}
use mathlib.Core.List.{List, [], ◌∷◌}
use lib.ListN.{length}
use borrow.Author.Tests.{le-ltb, lt-ltb}
use Rattle.parsing.specs.Read.{bytes_line, is_name, kind_of, no_word, other_line, same}
use Rattle.parsing.specs.Numbers.{line_number}
use Rattle.parsing.specs.declared.LineKind.{LineKind}
use Rattle.parsing.specs.declared.LineKind.TheVariants.{Bytes, Event}
use Rattle.events.proofs.Table.{no_kind_there}
use Rattle.events.specs.Number.{number_of}
use Rattle.events.specs.declared.Kind.{Kind}
use Rattle.events.specs.declared.Kind.TheVariants.{Begin, Cut, DataAck, End, Fence, LogAck, Read, Setup, Write, WriteBytes}
use Rattle.undo.proofs.Laws.{test}
use Rattle.rules.specs.Kinds.{is_kind as is_kind_by, kind_at, kinds, Kind as KindOf}
use Rattle.rules.specs.Lists.{place}

module _ (w : List ℕ) (k : ℕ) (e : k ≡ place (is_name w) kinds) where
  pub is_kind : k < length kinds → k ≡ kind_of w
  unfolding kind_of
  is_kind h = rw (← e, lt-ltb k (length kinds) h)

  pub is_other : length kinds ≤ k → other_line w ≡ kind_of w
  unfolding kind_of
  is_other h = rw (← e, le-ltb k (length kinds) h)

-- no kind has the number of a line of bytes, and no line that of none
pub not_bytes : (k : Kind) → number_of k ≡ bytes_line → ⊥
not_bytes Setup e = absurd (omega arith)
not_bytes Begin e = absurd (omega arith)
not_bytes End e = absurd (omega arith)
not_bytes Read e = absurd (omega arith)
not_bytes Write e = absurd (omega arith)
not_bytes LogAck e = absurd (omega arith)
not_bytes DataAck e = absurd (omega arith)
not_bytes Fence e = absurd (omega arith)
not_bytes Cut e = absurd (omega arith)
not_bytes WriteBytes e = absurd (omega arith)

pub never_unknown : (l : LineKind) → line_number l ≡ no_word → ⊥
never_unknown (Event Setup) e = absurd (omega arith)
never_unknown (Event Begin) e = absurd (omega arith)
never_unknown (Event End) e = absurd (omega arith)
never_unknown (Event Read) e = absurd (omega arith)
never_unknown (Event Write) e = absurd (omega arith)
never_unknown (Event LogAck) e = absurd (omega arith)
never_unknown (Event DataAck) e = absurd (omega arith)
never_unknown (Event Fence) e = absurd (omega arith)
never_unknown (Event Cut) e = absurd (omega arith)
never_unknown (Event WriteBytes) e = absurd (omega arith)
never_unknown Bytes e = absurd (omega arith)

-- what a word names is a kind
pub named : (w : List ℕ) (n : ℕ) → is_name w (kind_at n) ≡ true → is_kind_by n ≡ true
unfolding same
named w n e = test (is_kind_by n) (λ a. a) (λ a. absurd (false≢true (nothing w (kind_at n).word (ap (λ (k : KindOf). k.word) (no_kind_there n a)) ∙ e)))
  where
    nothing : (w x : List ℕ) → x ≡ [] → false ≡ (ltb 0 (length w) && same w x)
    nothing [] x z = refl
    nothing (c ∷ w) x z = rw (z, lt-ltb 0 (suc (length w)) (omega arith))
