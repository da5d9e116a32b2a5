use Rattle.std.proofs.Common.{refl, ap, rules}
use Rattle.events.specs.Actions.{sending_of}
use Rattle.events.specs.Events.{ToPeer, ToClient}
use Rattle.server.proofs.Handled.{is_answered, is_denied}
use Rattle.server.proofs.turning.answer.Goals as goal

pub returns-else-not-may_answer : goal.returns-else-not-may_answer
returns-else-not-may_answer g c =
    is_answered _ _ (ToClient c.in-ToClient.client c.in-ToClient.bytes.now) _ _ _ _ (ap sending_of c.in-ToClient.is) (search rules) c.send_from-in-ToClient.ensures

pub returns-else-not-may_reach : goal.returns-else-not-may_reach
returns-else-not-may_reach g c =
    is_answered _ _ (ToPeer c.in-ToPeer.slot c.in-ToPeer.peer c.in-ToPeer.bytes.now) _ _ _ _ (ap sending_of c.in-ToPeer.is) (search rules) c.send_from.ensures
