use Rattle.std.proofs.Common.{◌++◌, List, ℕ, sym, ap, ◌∙◌}
use Rattle.std.specs.Prelude.{codes, decimal}
use Rattle.control.specs.declared.reply.Grant.{Grant}
use Rattle.relay.specs.ReasonTexts.{grant_text}
use Rattle.relay.proofs.Pushes.{pushed}
use Rattle.relay.proofs.reason.push_grant.Goals as goal

pub returns-in-Allocated-clause-bytes : goal.returns-in-Allocated-clause-bytes
returns-in-Allocated-clause-bytes c =
    let slot : List ℕ = decimal c.in-Allocated.slot in
    let lifetime : List ℕ = decimal c.in-Allocated.lifetime in
    let seconds : List ℕ = lifetime ++ codes " seconds" in
    let first = c.push_bytes-in-Allocated.new.text.items in
    let second = c.push_number.new.text.items in
    let third = c.push_bytes-in-Allocated-2.new.text.items in
    let fourth = c.push_number-in-Allocated.new.text.items in
    let last = c.push_bytes-in-Allocated-3.new.text.items in
    pushed c.args.text.now.items first last (codes "allocated slot ") (slot ++ (codes " for " ++ seconds))
    c.push_bytes-in-Allocated.ensures.bytes
    (pushed first second last slot (codes " for " ++ seconds) c.push_number.ensures.bytes
    (pushed second third last (codes " for ") seconds c.push_bytes-in-Allocated-2.ensures.bytes
    (pushed third fourth last lifetime (codes " seconds") c.push_number-in-Allocated.ensures.bytes
    c.push_bytes-in-Allocated-3.ensures.bytes)))
    ∙ ap (λ (grant : Grant). c.args.text.now.items ++ grant_text grant) (sym c.in-Allocated.is)
