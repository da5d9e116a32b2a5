use Rattle.ordering.specs.Searches.{path_of}
use Rattle.ordering.proofs.Paths.{chain_reached}
use Rattle.ordering.proofs.search.Search.look.Goals as goal

pub returns-in-Err-clause-err : goal.returns-in-Err-clause-err
returns-in-Err-clause-err c = record {
  reached = chain_reached c.args.program.now c.args.at (path_of c.args.self.now) c.requires.visits.search.chain;
  insn = c.args.at.insn;
  branch = c.args.branch;
  leads = c.in-Err.ensures;
}
