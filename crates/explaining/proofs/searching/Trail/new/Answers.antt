use Rattle.explaining.proofs.Trailing.{begun}
use Rattle.explaining.proofs.searching.Trail.new.Goals as goal

pub returns-clause-trail : goal.returns-clause-trail
returns-clause-trail c code = begun code _ c.new.ensures.items c.in_ok-vec.ensures.items c.new-2.ensures.items
