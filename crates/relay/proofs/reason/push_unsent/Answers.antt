use Rattle.std.proofs.Common.{◌++◌, sym, ap, ◌∙◌}
use Rattle.std.specs.Prelude.{codes, decimal}
use Rattle.relay.specs.ReasonTexts.{unsent_text}
use Rattle.relay.specs.declared.reason.Unsent.{Unsent}
use Rattle.relay.proofs.Pushes.{pushed}
use Rattle.relay.proofs.reason.push_unsent.Goals as goal

pub returns-in-Verdict-clause-bytes : goal.returns-in-Verdict-clause-bytes
returns-in-Verdict-clause-bytes c =
    pushed c.args.text.now.items c.push_bytes.new.text.items c.push_number.new.text.items
    (codes ", verdict ") (decimal c.in-Verdict.verdict)
    c.push_bytes.ensures.bytes c.push_number.ensures.bytes
    ∙ ap (λ (unsent : Unsent). c.args.text.now.items ++ unsent_text unsent) (sym c.in-Verdict.is)
