use Rattle.std.proofs.Common.{arith, ◌∙◌}
use Rattle.server.proofs.Waits.{some_stored}
use Rattle.server.proofs.ahead.Ahead.is_empty.Goals as goal

pub returns-then-self-len-clause-something : goal.returns-then-self-len-clause-something
returns-then-self-len-clause-something c = λ _ none.
    some_stored c.self.inside.bytes.items c.self.inside.datagrams.items c.self.inside.count c.self.inside.then
    (omega (arith, c.if-self-len.true, c.len.ensures, c.self.inside.datagrams.ok.0)) (c.self.view_is ∙ none)
