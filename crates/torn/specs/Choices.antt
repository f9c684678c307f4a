-- What the choices of words are: "the promise covers every image that differs from that one in such words, and every line left so by a step that was cut".
-- On any board, and on an image of any bytes.
use Rattle.std.specs.Prelude.{ℕ, ◌≡◌, ◌⊎◌, Bool, cond, false, true, List, get_or, length, replicate, set}
use Rattle.laws.specs.Bench.{Bench, next_call}
use Rattle.rules.specs.Claim.{is_byte}
use Rattle.rules.specs.Image.{Persistent, image, saved, with_medium}
use Rattle.rules.specs.Lists.{all}
use Rattle.rules.specs.Reader.{Reads, Refuses, read_image}
use Rattle.rules.specs.Recovery.{Recovering, restore}
use Rattle.rules.specs.Refusal.{in_flight, refusal}
use Rattle.rules.specs.Step.{apply}
use Rattle.rules.specs.Tables.{line_of}
use Rattle.rules.specs.declared.Board.{Board}
use Rattle.rules.specs.declared.Event.TheVariants.{Cut, DataAck}
use Rattle.torn.specs.Bench.{torn_call}
use Rattle.torn.specs.Torn.{Inside, torn_act, torn_image, torn_state}

-- word w of line l
abbrev pub word_in : ℕ → ℕ → List (List ℕ) → ℕ
word_in l w ls = get_or (line_of l ls) w 0

-- ---- at the cut

-- "every image that differs from that one in such words": all but the medium is what is saved, and each word of it is the saved one or, if its line is in flight,
-- the one that the flight carries
pub record Differs (b : Board) (q : Persistent) : Type 0 where
  pub rest : q ≡ with_medium q.medium (saved b)
  pub lines : length q.medium ≡ length (saved b).medium
  pub long : (l : ℕ) → length (line_of l q.medium) ≡ length (line_of l (saved b).medium)
  pub words : (l w : ℕ) → (word_in l w q.medium ≡ word_in l w (saved b).medium) ⊎ ((in_flight l b.tables ≡ true) × (word_in l w q.medium ≡ word_in l w b.car))

pub record AtTheCut (b : Board) : Type 0 where
  -- what a choice leaves differs in such words, and whatever differs in such words is left by a choice
  pub differs : (p : ℕ → ℕ → Bool) → Differs b (torn_state p b)
  pub every : (q : Persistent) → Differs b q → (p : ℕ → ℕ → Bool) × (torn_state p b ≡ q)
  -- with no word chosen it is the image saved
  pub none : torn_image (λ l w. false) b ≡ image b
  -- "The cut event .. do not change": what is in flight at the cut is what was in flight before it
  pub cut : (p : ℕ → ℕ → Bool) → torn_state p (apply b Cut).board ≡ torn_state p b
  -- in flight are the lines whose data acknowledgement would be accepted, and what a flight carries is what that would put in the medium
  pub flies : (l : ℕ) → refusal b.tables (DataAck l) ≡ 0
      → (in_flight l b.tables ≡ true) × ((apply b (DataAck l)).board.med ≡ set b.med l (line_of l b.car))
  pub lies : (l : ℕ) → refusal b.tables (DataAck l) ≡ 22 → in_flight l b.tables ≡ false

-- ---- inside a recovery step, and inside a call

-- bytes that a cut inside has left of an image that reads as q: they read as q with another medium, of which each word that is chosen is as in the whole ones, and each
-- other as before
pub record Tears (p : ℕ → Bool) (q : Persistent) (whole part : List ℕ) : Type 0 where
  pub behind : List (List ℕ)
  pub torn : List (List ℕ)
  pub restored : read_image whole ≡ Reads (with_medium behind q)
  pub reads : read_image part ≡ Reads (with_medium torn q)
  pub words : (l w : ℕ) → word_in l w torn ≡ cond (p w) (word_in l w behind) (word_in l w q.medium)

pub record TornWords : Type 0 where
  pub cut : (b : Board) → AtTheCut b
  -- a step, and a call of a bench with eight bytes of place; the place is 0 then
  pub inside : (r : Recovering) (p : ℕ → Bool) (q : Persistent) → all is_byte r.bytes ≡ true → read_image r.bytes ≡ Reads q
      → Tears p q (restore r).after.bytes (torn_act r (Inside p)).bytes × ((torn_act r (Inside p)).at ≡ 0)
  pub calls : (b : Bench) (p : ℕ → Bool) (q : Persistent) → length b.place ≡ 8 → all is_byte b.image ≡ true → read_image b.image ≡ Reads q
      → Tears p q (next_call b).image (torn_call b (Inside p)).image × ((torn_call b (Inside p)).place ≡ replicate 8 0)
  -- on an image that is refused a step does nothing, and nothing is torn
  pub refused : (r : Recovering) (p : ℕ → Bool) (n : ℕ) → read_image r.bytes ≡ Refuses n → torn_act r (Inside p) ≡ record { bytes = r.bytes; at = 0 }
