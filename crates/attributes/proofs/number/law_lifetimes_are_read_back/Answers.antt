use Rattle.attributes.proofs.Numbers.{number_written}
use Rattle.attributes.proofs.number.law_lifetimes_are_read_back.Goals as goal

pub returns : goal.returns
returns c = number_written
