use mathlib.Core.Path.{◌∙◌, ◌≡◌, refl}
use mathlib.Core.Bool.{Bool, cond, false, true}
use mir.Val.{bool_byte}
use lib.ListN.{length}
use native.Mathlib.Omega.{arith}
use Rattle.std.specs.Prelude.{None, Some, Ok}
use Rattle.headed.specs.Reader.{read_as}
use Rattle.lines.proofs.Paste.{sets_paste}
use Rattle.lines.proofs.Room.{put_room}
use Rattle.recovery.proofs.Places.{all_bytes}
use Rattle.recovery.proofs.Steps.{next_room, next_soon, step_is}
use Rattle.recovery.specs.Places.{next_of}
use Rattle.rules.proofs.Codec.Bytes.{length_words}
use Rattle.rules.specs.Bytes.{line_bytes}
use Rattle.rules.specs.Claim.{is_byte}
use Rattle.rules.specs.Lists.{all}
use Rattle.rules.specs.Recovery.{line_start}
use borrow.Author.Rules.{rules}
use Rattle.recovery.proofs.step_at.Goals as goal

-- a truth value as a number
one_if : (b : Bool) → bool_byte b ≡ cond b 1 0
one_if true = refl
one_if false = refl

pub overflow_add-result : goal.overflow_add-result
overflow_add-result c =
    let a = c.args in
    let bytes : all is_byte a.image.now ≡ true = all_bytes a.image.now (λ i. search rules) in
    let found : Ok (Some c.in-Ok-Some.next) ≡ next_of (read_as a.headed a.image.now) a.at = rw c.in-Ok-Some.field-0-is at c.in-Ok-Some.ensures in
    let h = next_soon a.headed a.image.now a.at bytes c.in-Ok-Some.next found in
    record { fits = omega (arith, h) }

pub returns-in-Ok-Some : goal.returns-in-Ok-Some
returns-in-Ok-Some c =
    let a = c.args in
    let e = c.in-Ok-Some.next in
    let bytes : all is_byte a.image.now ≡ true = all_bytes a.image.now (λ i. search rules) in
    let found : Ok (Some e) ≡ next_of (read_as a.headed a.image.now) a.at = rw c.in-Ok-Some.field-0-is at c.in-Ok-Some.ensures in
    let room = next_room a.headed a.image.now a.at bytes e found in
    let l : length (line_bytes e.old) ≡ 64 = length_words 8 e.old in
    let put = put_room 64 a.image.now (line_start e.line) (line_bytes e.old) room ∙ sets_paste a.image.now (line_start e.line) (line_bytes e.old) (omega arith) in
    rw (c.put_line_at.ensures, c.line_start.ensures, c.from-in-Ok-Some.ensures, c.from.ensures, one_if e.more, put, ← step_is a.headed a.image.now a.at, ← found)

pub returns-in-Ok-None : goal.returns-in-Ok-None
returns-in-Ok-None c =
    let a = c.args in
    let found : Ok None ≡ next_of (read_as a.headed a.image.now) a.at = rw c.in-Ok-None.field-0-is at c.in-Ok-None.ensures in
    rw (c.from-in-Ok-None.ensures, ← step_is a.headed a.image.now a.at, ← found)

pub returns-in-Err : goal.returns-in-Err
returns-in-Err c =
    let a = c.args in
    rw (c.from-in-Err.ensures, ← step_is a.headed a.image.now a.at, ← c.in-Err.ensures)
