-- What is read behind the first bytes of a buffer comes behind them.
use Rattle.std.proofs.Common.{ℕ, ◌+◌, ◌++◌, ◌≡◌, ◌≤◌, List, Option, length, take, ap, sym, subst, length-take-le, take-add, take_at, drop_at}
use Rattle.std.proofs.lemmas.List.{take-append-le}
use borrow.Rule.Slice.PartMut.{put_mid}
use Rattle.std.specs.Io.KnownBytes.{Consumes}
use Rattle.std.proofs.KnownBytes.{Consumes-trans}

pub read_more : (a b c : Option (List ℕ)) (text new : List ℕ) (n k m : ℕ) → n ≤ length text → m ≤ length new → Consumes a b (take n text) → Consumes b c (take m new)
    → Consumes a c (take (n + m) (put_mid n k text new))
read_more a b c text new n k m h l p q =
    let t = put_mid n k text new in
    let w = length-take-le n text h in
    let e : take (n + m) t ≡ take n text ++ take m new = rw (take-add n m t, take_at (take n text) _ n w, drop_at (take n text) _ n w) (ap (λ z. take n text ++ z) (take-append-le m new _ l)) in
    subst (Consumes a c) (sym e) (Consumes-trans a b c (take n text) (take m new) p q)
