use Rattle.attributes.proofs.Numbers.{number_unique}
use Rattle.attributes.proofs.number.law_numbers_are_unique.Goals as goal

pub returns : goal.returns
returns c = number_unique
