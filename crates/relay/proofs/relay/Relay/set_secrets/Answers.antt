use Rattle.std.proofs.Common.{◌≡◌, ap, true, Some, rules}
use Rattle.std.specs.Prelude.{◌&&◌}
use Rattle.control.specs.Configs.{is_secret}
use Rattle.relay.proofs.ValidUsers.{valid_with_secrets}
use Rattle.relay.specs.Relays.{RelayContents}
use Rattle.relay.specs.Users.{after_secrets}
use Rattle.relay.proofs.relay.Relay.set_secrets.Goals as goal

pub invariant_of-self : goal.invariant_of-self
invariant_of-self c =
    let may : (is_secret (Some c.args.secret) && is_secret c.args.former) ≡ true = search rules in
    record {
      shipped = c.self.invariant.shipped;
      valid = valid_with_secrets c.self.inside.config c.args.secret c.args.former c.self.invariant.valid may;
      slots = c.self.invariant.slots;
      latest = c.self.invariant.latest;
      room = c.self.invariant.room;
    }
