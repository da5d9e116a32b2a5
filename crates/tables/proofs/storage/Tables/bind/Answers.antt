use Rattle.std.proofs.Common.{subst}
use Rattle.tables.specs.Changes.{Follows}
use Rattle.tables.specs.Rows.{rows_at}
use Rattle.tables.proofs.SlotChanges.{bind-changes}
use Rattle.tables.proofs.storage.Tables.bind.Goals as goal

pub returns-clause-follows : goal.returns-clause-follows
returns-clause-follows c =
    subst (λ change. Follows change c.args.self.now c.change.result c.change.new.self) (bind-changes c.args.slot (rows_at c.args.now c.args.self.now) c.args.number c.args.peer) c.change.ensures.follows
