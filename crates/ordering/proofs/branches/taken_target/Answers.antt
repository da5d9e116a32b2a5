use Rattle.insn.specs.declared.decoding.TheConstants.{MAX_SLOTS}
use Rattle.ordering.proofs.BranchTargets.{visit_inside}
use Rattle.ordering.proofs.branches.taken_target.Goals as goal

pub target-requires : goal.target-requires
target-requires c = visit_inside c.args.program.now c.args.from MAX_SLOTS c.requires.here c.requires.few
