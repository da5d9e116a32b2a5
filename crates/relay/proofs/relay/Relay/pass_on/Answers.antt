use Rattle.std.proofs.Common.{◌≡◌, length, rules, sym, ◌∙◌}
use Rattle.std.proofs.lemmas.List.{with_items_is}
use Rattle.rules.specs.Answers.{sending_of_answer}
use Rattle.rules.specs.ByRules.{from_client}
use Rattle.rules.specs.Dispositions.{client_disposition}
use Rattle.relay.specs.Forwarding.{reply_of_passing, disposition_of_passing}
use Rattle.relay.proofs.relay.Relay.pass_on.Goals as goal

pub returns-clause-answer : goal.returns-clause-answer
returns-clause-answer g c =
    let same_length : length c.answer_client.new.out ≡ c.self.inside.reply.len = search rules in
    (λ i. sending_of_answer c.args.client (sym c.datagram-datagram.ensures.bytes i) (with_items_is c.self.inside.reply c.answer_client.new.out same_length i) c.answer_client.result)
    ∙ c.answer_client.ensures.answer
    ∙ (λ i. (from_client c.self.inside.config c.self.inside.greatest c.args.client c.self.inside.tables (c.datagram-datagram.ensures.bytes i)).answer)
    ∙ (λ i. (reply_of_passing (c.self.view_is i) c.args.client).answer)

pub returns-clause-disposition : goal.returns-clause-disposition
returns-clause-disposition g c =
    c.answer_client.ensures.disposition
    ∙ (λ i. client_disposition c.self.inside.config c.self.inside.greatest c.args.client c.self.inside.tables (c.datagram-datagram.ensures.bytes i))
    ∙ (λ i. disposition_of_passing (c.self.view_is i) c.args.client)
