use Rattle.server.proofs.Hairpins.{comes_back}
use Rattle.server.proofs.hairpin.Hairpin.law_comes_back.Goals as goal

pub returns : goal.returns
returns c = comes_back c.args.self.now c.args.address.now c.law_is_address.ensures c.law_is_address-2.ensures
