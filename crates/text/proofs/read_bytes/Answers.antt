use mathlib.Core.Path.{◌∙◌, ◌≡◌, ap, sym}
use Rattle.parsing.proofs.Faults.{never_none}
use Rattle.parsing.proofs.Sizes.{text_short}
use Rattle.parsing.specs.Fault.{Fault, fault_of}
use Rattle.parsing.specs.Numbers.{fault_number}
use Rattle.parsing.specs.Read.{bytes_of_text}
use Rattle.text.specs.Calls.{refused_by}
use native.Mathlib.Omega.{arith}
use borrow.Author.Rules.{rules}
use Rattle.text.proofs.Calls.{bytes_refused, bytes_written, fault_refused, says_refused, wrote_back}
use Rattle.text.proofs.read_bytes.Goals as goal

pub returns-then-file-text : goal.returns-then-file-text
returns-then-file-text c = says_refused c.from.result 6 c.args.file.now _ (search rules) (bytes_refused c.args.text.now c.args.file.now (omega arith))

pub returns-in-Some : goal.returns-in-Some
returns-in-Some c =
    let t = c.args.text.now in
    let d = c.args.file.now in
    let f = c.in-Some.found.fault in
    let k : fault_number f ≡ (fault_of t).kind = ap (λ (q : Fault). q.kind) c.in-Some.ensures in
    says_refused c.refused.result (fault_number f) d _ (search rules) (fault_refused t d (omega arith) (λ z. never_none f (k ∙ z)) ∙ ap (λ n. refused_by n d) (sym k))

pub returns : goal.returns
returns c =
    let t = c.args.text.now in
    let d = c.args.file.now in
    let r = c.read_text-read in
    let k : 0 ≡ (fault_of t).kind = ap (λ (q : Fault). q.kind) c.in_default.ensures in
    rw c.from-2.ensures (wrote_back d r.new.out (bytes_of_text t).bytes r.result.cursor r.ensures.written (omega (arith, text_short t)) ∙ sym (bytes_written t d (omega arith) (sym k)))
