-- The run of a file's records one by one, and the bytes of its answers.
use Rattle.std.proofs.Common.{◌≡◌, ◌∙◌, ℕ, ◌*◌, ◌+◌, suc, List, [], ◌∷◌, length, refl, ap, sym, length-append, arith}
use Rattle.std.proofs.lemmas.List.Edits.{sets}
use Rattle.lines.proofs.Paste.{sets_join}
use Rattle.rules.proofs.Codec.Bytes.{length_bytes}
use Rattle.rules.specs.Lists.{flat}
use Rattle.rules.specs.Run.{answer_bytes, answers_bytes, run}
use Rattle.rules.specs.Step.{Stepped, step}
use Rattle.rules.specs.declared.Answer.{Answer}
use Rattle.rules.specs.declared.Board.{Board}

pub answers_long : (b : Board) (rs : List (List ℕ)) → length (run b rs).answers ≡ length rs
unfolding run
answers_long b [] = refl
answers_long b (r ∷ rs) = ap suc (answers_long (step b r).board rs)

pub answer_long : (a : Answer) → length (answer_bytes a) ≡ 9
answer_long a = ap suc (length_bytes 8 a.value)

pub bytes_long : (as' : List Answer) → length (answers_bytes as') ≡ 9 * length as'
unfolding answers_bytes flat
bytes_long [] = refl
bytes_long (a ∷ as') = rw (length-append (answer_bytes a) (answers_bytes as'), bytes_long as', answer_long a) (omega arith)

-- the record at the front, of those that are left, has been run: x is its step
module _ (b : Board) (left : List (List ℕ)) (r : List ℕ) (rs : List (List ℕ)) (x : Stepped) (more : left ≡ r ∷ rs) (ran : x ≡ step b r) where
  pub turn_board : (run x.board rs).board ≡ (run b left).board
  unfolding run
  turn_board = rw (more, ran) refl

  pub turn_bytes : (d : List ℕ) (p : ℕ)
      → sets (sets d p (answer_bytes x.answer)) (p + 9) (answers_bytes (run x.board rs).answers) ≡ sets d p (answers_bytes (run b left).answers)
  unfolding run answers_bytes flat
  turn_bytes d p =
      rw (more, ran)
      (sym (sets_join d p (answer_bytes (step b r).answer) (answers_bytes (run (step b r).board rs).answers) ∙ rw (answer_long (step b r).answer) refl))

-- none is left
module _ (b : Board) (left : List (List ℕ)) (none : left ≡ []) where
  pub end_board : (run b left).board ≡ b
  unfolding run
  end_board = rw none refl

  pub end_bytes : (d : List ℕ) (p : ℕ) → sets d p (answers_bytes (run b left).answers) ≡ d
  unfolding run answers_bytes flat
  end_bytes d p = rw none refl
