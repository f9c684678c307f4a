-- Lines of lent memory, stored one after the other.
use Rattle.std.proofs.Common.{◌≡◌, ℕ, ◌+◌, ◌-◌, ◌<◌, ◌≤◌, suc, List, [], ◌++◌, ◌∷◌, length, set, take, append_assoc, append-nil, add-one, arith}
use Rattle.rules.specs.Tables.{lent_from, lent_line}
use lib.Seq.{take_all, take-suc-set}

-- one more of n lines
pub fill_more : (bs : List ℕ) (m : List (List ℕ)) (n i : ℕ) (x : List ℕ) → i < n → length m ≡ n → x ≡ lent_line bs i
    → take (i + 1) (set m i x) ++ lent_from bs (i + 1) (n - (i + 1)) ≡ take i m ++ lent_from bs i (n - i)
unfolding lent_from
fill_more bs m n i x h l e =
    let f : n - i ≡ suc (n - suc i) = omega arith in
    let g : i < length m = omega arith in
    rw (e, f, add-one i, take-suc-set m i (lent_line bs i) g, append_assoc (take i m) (lent_line bs i ∷ []) (lent_from bs (suc i) (n - suc i)))

pub fill_end : (bs : List ℕ) (m : List (List ℕ)) (n i : ℕ) → n ≤ i → length m ≡ n → take i m ++ lent_from bs i (n - i) ≡ m
unfolding lent_from
fill_end bs m n i h l =
    let f : n - i ≡ 0 = omega arith in
    let g : length m ≤ i = omega arith in
    rw (f, take_all i m g, append-nil m)
