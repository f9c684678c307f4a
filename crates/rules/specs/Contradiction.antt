-- "8 image that contradicts itself."
use Rattle.std.specs.Prelude.{◌+◌, suc, zero, ℕ, Bool, ◌&&◌, ◌||◌, cond, false, not, true, List, [], ◌∷◌, eqb, ltb, get_or, length}
use Rattle.rules.specs.Image.{Logged, Persistent, no_listed}
use Rattle.rules.specs.Lists.{all, place}
use Rattle.rules.specs.Tables.{number_of, thread_of}
use Rattle.rules.specs.declared.Listed.{Listed}
use Rattle.undo.specs.Table.{any}

abbrev pub is_listed : ℕ → List Listed → Bool
is_listed k rs = any (λ r. eqb r.key k) rs

-- "number 0"
abbrev pub is_unnumbered : Listed → Bool
is_unnumbered r = eqb (number_of r.key) 0

-- "state above 1"
abbrev pub is_unknown_state : Listed → Bool
is_unknown_state r = ltb 1 r.state

-- dependences in their order: strictly rising, empty ones last; "an empty one with a thread" is one whose number alone is 0
unfoldable pub in_order : List ℕ → Bool
in_order [] = true
in_order (d ∷ ds) = cond (eqb d 0) (all (eqb 0) ds) (not (eqb (number_of d) 0) && (in_order ds && (eqb (get_or ds 0 0) 0 || ltb d (get_or ds 0 0))))

-- "a dependence or log entry for a region not listed"
abbrev pub is_astray : List Listed → ℕ → Bool
is_astray rs d = not (eqb d 0) && not (is_listed d rs)

-- "a thread's numbers not consecutive, or a region without its listed predecessor among its dependences": of two entries, one behind the other
abbrev pub is_broken : Listed → Listed → Bool
is_broken a b = eqb (thread_of a.key) (thread_of b.key) && not (eqb b.key (a.key + 1) && any (eqb a.key) b.deps)

abbrev pub broken_before : Listed → List Listed → Bool
broken_before a [] = false
broken_before a (b ∷ rs) = is_broken a b

unfoldable pub any_broken : List Listed → Bool
any_broken [] = false
any_broken (r ∷ rs) = broken_before r rs || any_broken rs

-- region a reaches region b through dependences, one or more, at most n
abbrev pub deps_of : ℕ → List Listed → List ℕ
deps_of k rs = (get_or rs (place (λ r. eqb r.key k) rs) no_listed).deps

unfoldable pub reaches_in : ℕ → List Listed → ℕ → ℕ → Bool
reaches_in zero rs a b = false
reaches_in (suc n) rs a b = any (λ d. not (eqb d 0) && (eqb d b || reaches_in n rs d b)) (deps_of a rs)

unfoldable pub reaches : List Listed → ℕ → ℕ → Bool
reaches rs a b = reaches_in (length rs) rs a b

-- "a circle"
abbrev pub is_circle : List Listed → Listed → Bool
is_circle rs r = reaches rs r.key r.key

-- "a done region without dependences"
abbrev pub is_left_over : Listed → Bool
is_left_over r = eqb r.state 1 && all (eqb 0) r.deps

-- "one line logged twice by a region, or by two regions of which neither reaches the other through dependences"
abbrev pub clash : List Listed → Logged → Logged → Bool
clash rs a b =
    eqb a.line b.line && (eqb a.key b.key || not (reaches rs a.key b.key || reaches rs b.key a.key))

unfoldable pub any_clash : List Listed → List Logged → Bool
any_clash rs [] = false
any_clash rs (e ∷ es) = any (clash rs e) es || any_clash rs es

unfoldable pub contradicts : Persistent → Bool
contradicts p =
    any is_unnumbered p.regions
    || (any is_unknown_state p.regions
    || (any (λ r. not (in_order r.deps)) p.regions
    || (any (λ r. any (is_astray p.regions) r.deps) p.regions
    || (any (λ e. not (is_listed e.key p.regions)) p.log
    || (any_broken p.regions
    || (any (is_circle p.regions) p.regions
    || (any is_left_over p.regions
    || any_clash p.regions p.log)))))))
