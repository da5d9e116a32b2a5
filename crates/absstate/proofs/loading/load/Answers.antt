use Rattle.std.proofs.Common.{rules}
use Rattle.absstate.proofs.Loads.{load_elsewhere}
use Rattle.absstate.proofs.loading.load.Goals as goal

pub returns-in_default : goal.returns-in_default
returns-in_default g c = rw (load_elsewhere g.D.Domain.ops c.args.state.now c.args.base c.args.displacement c.args.size c.in_default.not-Ctx) (search rules)
