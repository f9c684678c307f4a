-- "8 image that contradicts itself": the tests behind it, and for each of its causes an image that one of them alone refuses. So no test can be left out.
use Rattle.std.specs.Prelude.{ℕ, ◌≡◌, Bool, false, not, true, List, [], ◌∷◌, map, replicate, set}
use Rattle.rules.specs.Claim.{is_byte}
use Rattle.rules.specs.Contradiction.{any_broken, any_clash, contradicts, in_order, is_astray, is_circle, is_left_over, is_listed, is_unknown_state, is_unnumbered}
use Rattle.rules.specs.Image.{Logged, Persistent, encode}
use Rattle.rules.specs.Lists.{all}
use Rattle.rules.specs.Reader.{Reads, nothing, records_read}
use Rattle.rules.specs.declared.Listed.{Listed}
use Rattle.undo.specs.Table.{any}

-- the tests, from 0 to 8
abbrev pub contradictions : Persistent → List Bool
contradictions p =
    any is_unnumbered p.regions
    ∷ any is_unknown_state p.regions
    ∷ any (λ r. not (in_order r.deps)) p.regions
    ∷ any (λ r. any (is_astray p.regions) r.deps) p.regions
    ∷ any (λ e. not (is_listed e.key p.regions)) p.log
    ∷ any_broken p.regions
    ∷ any (is_circle p.regions) p.regions
    ∷ any is_left_over p.regions
    ∷ any_clash p.regions p.log
    ∷ []

-- what an image holds that is refused by one test
pub record Cause : Type 0 where
  pub test : ℕ
  pub state : Persistent

-- two threads, one line
abbrev pub cause : ℕ → List Listed → List Logged → Cause
cause i rs es = record { test = i; state = record { threads = 2; lines = 1; medium = replicate 8 0 ∷ []; regions = rs; log = es } }

-- region k in a state, with two dependences; region 1 of thread 1 is 65537
abbrev pub region : ℕ → ℕ → ℕ → ℕ → Listed
region k n c d = record { key = k; state = n; deps = c ∷ d ∷ 0 ∷ 0 ∷ [] }

-- an entry of region k, for line 0
abbrev pub entry : ℕ → Logged
entry k = record { key = k; line = 0; old = replicate 8 0 }

abbrev pub causes : List Cause
causes =
    -- "number 0"
    cause 0 (region 0 0 0 0 ∷ []) []
    -- "state above 1"
    ∷ cause 1 (region 1 2 0 0 ∷ []) []
    -- "dependences not in their order": falling; an empty one before another. "An empty one with a thread" is never alone: it is unlisted, or a number 0
    ∷ cause 2 (region 1 0 0 0 ∷ region 2 0 1 0 ∷ region 3 0 2 1 ∷ []) []
    ∷ cause 2 (region 1 0 0 0 ∷ region 2 0 0 1 ∷ []) []
    -- "a dependence or log entry for a region not listed"
    ∷ cause 3 (region 1 0 2 0 ∷ []) []
    ∷ cause 4 [] (entry 1 ∷ [])
    -- "a thread's numbers not consecutive, or a region without its listed predecessor among its dependences"
    ∷ cause 5 (region 1 0 0 0 ∷ region 3 0 1 0 ∷ []) []
    ∷ cause 5 (region 1 0 0 0 ∷ region 2 0 0 0 ∷ []) []
    -- "a circle": of one region, of two
    ∷ cause 6 (region 1 0 1 0 ∷ []) []
    ∷ cause 6 (region 1 0 65537 0 ∷ region 65537 0 1 0 ∷ []) []
    -- "a done region without dependences"
    ∷ cause 7 (region 1 1 0 0 ∷ []) []
    -- "one line logged twice by a region, or by two regions of which neither reaches the other through dependences"
    ∷ cause 8 (region 1 0 0 0 ∷ []) (entry 1 ∷ entry 1 ∷ [])
    ∷ cause 8 (region 1 0 0 0 ∷ region 65537 0 0 0 ∷ []) (entry 1 ∷ entry 65537 ∷ [])
    ∷ []

pub record CausesMatter : Type 0 where
  -- refusal 8 is these tests and no other
  pub tests : (p : Persistent) → contradicts p ≡ any (λ b. b) (contradictions p)
  -- each image is one of bytes whose records are all read
  pub bytes : all (λ c. all is_byte (encode c.state)) causes ≡ true
  pub reads : map (λ c. records_read nothing 0 (encode c.state)) causes ≡ map (λ c. Reads c.state) causes
  -- and is refused by its test alone
  pub alone : map (λ c. contradictions c.state) causes ≡ map (λ c. set (replicate 9 false) c.test true) causes
