use Rattle.std.proofs.Common.{◌∙◌}
use Rattle.addresses.specs.laws.AddressOrder.{address_order-by_parts}
use Rattle.tables.proofs.clients.ClientKeyedAddr.compare.Goals as goal

pub returns : goal.returns
returns c = c.cmp.ensures ∙ address_order-by_parts _ _ c.law_is_address.ensures c.law_is_address-2.ensures
