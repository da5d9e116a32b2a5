use Rattle.std.proofs.Common.{rules}
use Rattle.absstate.proofs.loading.load_step.Goals as goal

pub returns : goal.returns
returns g c = search (rules, c.written.ensures c.args.state.now)
