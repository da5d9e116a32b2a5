use Rattle.ordering.proofs.BranchTargets.{few_more}
use Rattle.ordering.proofs.branches.fall_through_target.Goals as goal

pub overflow_add-from : goal.overflow_add-from
overflow_add-from c = few_more c.args.program.now c.args.from c.slots.result c.requires.here c.requires.few c.slots.ensures
