use Rattle.std.proofs.Common.{rules}
use Rattle.absstate.proofs.packed.PackedState.uncovered_register.Goals as goal

pub returns-clause-some : goal.returns-clause-some
returns-clause-some g c = λ b e. c.first_uncovered.ensures.some c.args.self.now b (search rules) (search rules)
