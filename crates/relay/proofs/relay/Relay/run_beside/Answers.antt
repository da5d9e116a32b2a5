use Rattle.std.proofs.Common.{sym}
use Rattle.relay.specs.Choices.{with_program}
use Rattle.relay.proofs.ChosenRuns.{program_with}
use Rattle.relay.proofs.LiveSlots.{ran_at}
use Rattle.relay.proofs.relay.Relay.run_beside.Goals as goal

pub returns : goal.returns
returns c =
    let given = c.args.meta.now in
    ran_at (record (with_program c.args.self.now given.from c.args.program.now) { frame = c.args.frame.now }) given c.args.n _ c.run_over.result c.run_over.new.frame
    c.context_for-context.result c.args.helpers.now.live c.args.program.now c.law_rows_are_well_formed.ensures c.context_for-context.ensures c.requires.live
    (sym (program_with c.args.self.now.programs given.from c.args.program.now)) c.run_over.ensures
