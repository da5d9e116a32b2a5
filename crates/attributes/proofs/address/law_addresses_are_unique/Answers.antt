use Rattle.attributes.proofs.Addresses.{address_unique}
use Rattle.attributes.proofs.address.law_addresses_are_unique.Goals as goal

pub returns : goal.returns
returns c a b value is other = address_unique a b c.args.tx.now value c.law_are_bytes.ensures is other
