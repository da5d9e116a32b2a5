use Rattle.relay.specs.Relays.{state_of}
use Rattle.relay.proofs.relay.Relay.law_plays_are_permitted.Goals as goal

pub returns : goal.returns
returns c =
    c.law_confined_programs_send_what_is_permitted.ensures c.args.self.now.programs c.args.self.now.config (state_of c.args.self.now)
