use Rattle.std.proofs.Common.{◌++◌, sym, ap, ◌∙◌}
use Rattle.std.specs.Prelude.{codes, decimal}
use Rattle.relay.specs.ReasonTexts.{explanation_text, unsent_text}
use Rattle.relay.specs.declared.reason.StepReason.{StepReason}
use Rattle.relay.proofs.Pushes.{pushed}
use Rattle.relay.proofs.reason.push_reason.Goals as goal

pub returns-in-Program-clause-bytes : goal.returns-in-Program-clause-bytes
returns-in-Program-clause-bytes c =
    let first = c.push_bytes-in-Program.new.text.items in
    let second = c.push_number.new.text.items in
    let last = c.push_unsent.new.text.items in
    pushed c.args.text.now.items first last (codes "discarded by the program at slot ") (decimal c.in-Program.slot ++ unsent_text c.in-Program.unsent)
    c.push_bytes-in-Program.ensures.bytes
    (pushed first second last (decimal c.in-Program.slot) (unsent_text c.in-Program.unsent) c.push_number.ensures.bytes c.push_unsent.ensures.bytes)
    ∙ ap (λ (reason : StepReason). c.args.text.now.items ++ explanation_text reason) (sym c.in-Program.is)
