use Rattle.std.proofs.Common.{is_eq, ap, ◌∙◌}
use Rattle.addresses.specs.laws.AddressOrder.{ip_order-same}
use Rattle.addresses.specs.Addresses.{ip_of}
use Rattle.tables.proofs.address.is_same_ip.Goals as goal

pub returns : goal.returns
returns c = c.is_eq.ensures ∙ ap is_eq c.cmp_ip.ensures ∙ ip_order-same (ip_of c.args.a.now) (ip_of c.args.b.now)
