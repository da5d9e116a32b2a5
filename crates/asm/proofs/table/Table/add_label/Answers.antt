use Rattle.std.proofs.Common.{refl, sym, ◌∙◌}
use Rattle.asm.proofs.Tables.{known_label, label_added}
use Rattle.asm.proofs.table.Table.add_label.Goals as goal

pub returns-then-contains_key : goal.returns-then-contains_key
returns-then-contains_key c said holds = (refl, known_label c.args.self.now said c.args.name holds (sym c.contains_key.ensures ∙ c.if-contains_key.true))

pub returns : goal.returns
returns c said holds = label_added c.args.self.now _ said c.args.name holds (sym c.contains_key.ensures ∙ c.if-contains_key.false) c.in_ok-insert.ensures.updates.0 refl
