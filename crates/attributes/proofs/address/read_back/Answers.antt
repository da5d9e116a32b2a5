use Rattle.attributes.proofs.Addresses.{address_unique}
use Rattle.attributes.proofs.address.read_back.Goals as goal

pub returns-in_err-address : goal.returns-in_err-address
returns-in_err-address c = absurd (c.in_err-address.ensures.refused c.args.address.now c.requires)

pub returns : goal.returns
returns c = address_unique c.in_ok-address.address c.args.address.now c.args.tx.now c.args.value.now c.fits-tx c.in_ok-address.ensures.found c.requires
