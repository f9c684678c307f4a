-- The words of the laws, by the list of events and its answers alone. A list of events stands newest first: what is behind an event came before it.
use Rattle.std.specs.Prelude.{◌+◌, ℕ, Bool, ◌&&◌, cond, not, List, [], ◌∷◌, eqb, Err, Ok}
use Rattle.rules.specs.Access.{change_line}
use Rattle.rules.specs.History.{Account, Change, Closes, Cuts, Nothing, Opens, Sets, Stores, Uses, depth_in, opened_in, region_in}
use Rattle.rules.specs.Record.{read_record}
use Rattle.rules.specs.Tables.{key_of, thread_of}
use Rattle.rules.specs.declared.Answer.{Answer}
use Rattle.rules.specs.declared.Event.{Event}
use Rattle.rules.specs.declared.Event.TheVariants.{Begin, Cut, DataAck, End, Fence, LogAck, Read, Setup, Write}
use Rattle.rules.specs.Record.{Reading}
use Rattle.undo.specs.Table.{keep}

-- ---- "A region's writes are applied in event order": here all writes, of whatever region

unfoldable pub all_applied : List Change → List (List ℕ) → List (List ℕ)
all_applied [] m = m
all_applied (w ∷ ws) m = change_line w.line w.change (all_applied ws m)

-- ---- "Each begin accepted at depth 0 opens a region"

abbrev pub open_of : Account → List Account → List ℕ → List ℕ
open_of (Sets l s) es ks = ks
open_of (Opens t) es ks = cond (eqb (depth_in t es) 0) (key_of t (opened_in t es + 1) ∷ ks) ks
open_of (Closes t) es ks = ks
open_of (Uses t l) es ks = ks
open_of (Stores t l f) es ks = ks
open_of Cuts es ks = ks
open_of Nothing es ks = ks

-- the regions that were opened, the last first
unfoldable pub opens_in : List Account → List ℕ
opens_in [] = []
opens_in (e ∷ es) = open_of e es (opens_in es)

-- the thread's region that is open now; 0 at depth 0
abbrev pub open_region_in : ℕ → List Account → ℕ
open_region_in t es = cond (eqb (depth_in t es) 0) 0 (region_in t es)

-- a region of the thread other than that one
abbrev pub is_other_in : ℕ → List Account → ℕ → Bool
is_other_in t es k = eqb (thread_of k) t && not (eqb k (open_region_in t es))

-- the regions that the thread opened, other than the one open now
abbrev pub others_of : ℕ → List Account → List ℕ
others_of t es = keep (is_other_in t es) (opens_in es)

-- ---- "The value of a read is the word, of a cut .., of setup 0, of a fence its 1 or 0, of every other event the number of regions committed in that step"

-- the commits that an answer tells; a refusal's value is 0
abbrev pub told_of : Event → ℕ → ℕ
told_of (Setup n l s) v = 0
told_of (Begin t) v = v
told_of (End t) v = v
told_of (Read t l w) v = 0
told_of (Write t l w mask x) v = v
told_of (LogAck l) v = v
told_of (DataAck l) v = v
told_of (Fence t) v = 0
told_of Cut v = 0

abbrev pub told_by : Reading → Answer → ℕ
told_by (Err n) a = 0
told_by (Ok e) a = told_of e a.value

-- the commits that the answers to a list of records tell, in all
unfoldable pub told_in : List (List ℕ) → List Answer → ℕ
told_in [] as' = 0
told_in (r ∷ rs) [] = 0
told_in (r ∷ rs) (a ∷ as') = told_by (read_record r) a + told_in rs as'
