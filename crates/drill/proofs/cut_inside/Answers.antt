use mathlib.Core.Path.{◌∙◌, ◌≡◌}
use mathlib.Core.Bool.{false, true}
use lib.ListN.{length}
use native.Mathlib.Omega.{arith}
use borrow.Author.Rules.{rules}
use Rattle.std.specs.Prelude.{None, Some, Ok}
use Rattle.headed.proofs.Old.{old_image}
use Rattle.headed.specs.Reader.{read_as}
use Rattle.lines.proofs.Paste.{sets_paste}
use Rattle.lines.proofs.Room.{line_room, put_room}
use Rattle.recovery.proofs.Places.{all_bytes}
use Rattle.recovery.proofs.Steps.{next_room}
use Rattle.recovery.specs.Places.{next_of}
use Rattle.rules.proofs.Codec.Bytes.{length_words}
use Rattle.rules.specs.Bytes.{line_at, line_bytes}
use Rattle.rules.specs.Claim.{is_byte}
use Rattle.rules.specs.Lists.{all}
use Rattle.rules.specs.Reader.{read_image}
use Rattle.rules.specs.Recovery.{line_start}
use Rattle.torn.specs.Torn.{mixed}
use Rattle.drill.proofs.Inside.{inside_is}
use Rattle.drill.specs.Drilled.{choice_of}
use Rattle.drill.proofs.cut_inside.Goals as goal

pub returns-in-Ok-Some : goal.returns-in-Ok-Some
returns-in-Ok-Some c =
    let m = c.args.image.now in
    let at = c.args.at in
    let e = c.in-Ok-Some.next in
    let bytes : all is_byte m ≡ true = all_bytes m (λ i. search rules) in
    let found : Ok (Some e) ≡ next_of (read_as false m) at = rw c.in-Ok-Some.field-0-is at c.in-Ok-Some.ensures in
    let room = next_room false m at bytes e found in
    let old : Ok (Some e) ≡ next_of (read_image m) at = rw (old_image m) at found in
    let line = mixed (choice_of c.args.words) 0 (line_at m (line_start e.line)) e.old in
    let l : length (line_bytes line) ≡ 64 = length_words 8 line in
    let put = put_room 64 m (line_start e.line) (line_bytes line) room ∙ sets_paste m (line_start e.line) (line_bytes line) (omega arith) in
    rw (c.put_line_at.ensures, c.mixed_line.ensures, c.take_line-now.ensures, c.line_start-start.ensures, line_room m (line_start e.line) room, put, ← inside_is m at c.args.words, ← old)

pub returns-in-Ok-None : goal.returns-in-Ok-None
returns-in-Ok-None c =
    let m = c.args.image.now in
    let found : Ok None ≡ next_of (read_as false m) c.args.at = rw c.in-Ok-None.field-0-is at c.in-Ok-None.ensures in
    let old : Ok None ≡ next_of (read_image m) c.args.at = rw (old_image m) at found in
    rw (← inside_is m c.args.at c.args.words, ← old)

pub returns-in-Err : goal.returns-in-Err
returns-in-Err c =
    let m = c.args.image.now in
    rw (← inside_is m c.args.at c.args.words, ← rw (old_image m) at c.in-Err.ensures)
