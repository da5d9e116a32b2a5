use Rattle.std.proofs.Common.{is_some, rules}
use Rattle.tables.specs.Stored.{stored_at}
use Rattle.tables.proofs.clients.with_slots.Goals as goal

pub returns : goal.returns
returns c = c.filtered.ensures.rows (λ row. is_some (stored_at c.args.slots.now row.slot)) (λ row is k. search rules)
