use Rattle.attributes.proofs.Masks.{value_short}
use Rattle.attributes.proofs.address.law_values_are_short.Goals as goal

pub returns : goal.returns
returns c = value_short
