use Rattle.std.proofs.Common.{sym, ap, ◌∙◌}
use Rattle.events.specs.declared.meta.Source.{Source}
use Rattle.rules.specs.Discards.{discard_in, ruled_disposition}
use Rattle.rules.proofs.discarding.discard_by_rules.Goals as goal

pub returns-in-Client : goal.returns-in-Client
returns-in-Client c = λ config.
    c.discard_of_client.ensures config
    ∙ ap (λ (s : Source). discard_in
    (ruled_disposition config c.args.moment c.args.meta.now.tx s c.args.tables.now c.args.datagram.now))
    (sym c.in-Client.is)
