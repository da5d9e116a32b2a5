use Rattle.std.proofs.Common.{rules}
use Rattle.attributes.specs.Addresses.{address_value}
use Rattle.attributes.proofs.address.write_xor_addr.Goals as goal

pub returns-in-V6-clause-appends : goal.returns-in-V6-clause-appends
unfolding address_value
returns-in-V6-clause-appends c = search rules
