use Rattle.std.proofs.Common.{◌≡◌, option_map, sym, ap, ◌∙◌}
use Rattle.events.specs.Actions.{sending_of}
use Rattle.events.specs.Events.{ToClient}
use Rattle.relay.specs.ByPrograms.{relayed_where_sent}
use Rattle.relay.specs.Choices.{Relaying}
use Rattle.relay.specs.Forwarding.{chosen_of_forwarding, sending_of_forwarding, disposition_of_forwarding}
use Rattle.relay.specs.Lent.{chosen_by_step}
use Rattle.relay.proofs.relay.Relay.borrow_step.Goals as goal

-- what is sent to the client
sent : (c : goal.After-relayed-in-WindowToClient) → sending_of c.window_to_client.result ≡ sending_of_forwarding c.args.self.now c.args.from.now c.args.decided.forwarding
sent c =
    c.window_to_client.ensures
    ∙ ap (option_map (ToClient c.in-WindowToClient.client)) c.window-in-WindowToClient.ensures
    ∙ (λ i. sending_of_forwarding (c.self.view_is i) c.args.from.now (sym c.in-WindowToClient.is i))

pub returns-in-WindowToClient-clause-answer : goal.returns-in-WindowToClient-clause-answer
returns-in-WindowToClient-clause-answer c = c.relayed-in-WindowToClient.ensures.action ∙ sent c

pub returns-in-WindowToClient-clause-disposition : goal.returns-in-WindowToClient-clause-disposition
returns-in-WindowToClient-clause-disposition c =
    c.relayed-in-WindowToClient.ensures.disposition
    ∙ ap relayed_where_sent (sent c)
    ∙ (λ i. relayed_where_sent (sending_of_forwarding c.args.self.now c.args.from.now (c.in-WindowToClient.is i)))
    ∙ (λ i. disposition_of_forwarding c.args.self.now c.args.from.now (sym c.in-WindowToClient.is i))

pub returns-in-WindowToClient-clause-choice : goal.returns-in-WindowToClient-clause-choice
returns-in-WindowToClient-clause-choice c =
    (λ i. chosen_by_step (c.relayed-in-WindowToClient.ensures.passed i) (c.relayed-in-WindowToClient.ensures.action i))
    ∙ ap Relaying (sent c ∙ (λ i. sending_of_forwarding c.args.self.now c.args.from.now (c.in-WindowToClient.is i)))
    ∙ (λ i. chosen_of_forwarding c.args.self.now c.args.from.now (sym c.in-WindowToClient.is i))
