use Rattle.std.proofs.Common.{refl, rules, ap, sym, ◌∙◌}
use Rattle.std.specs.Result.{result_ok}
use Rattle.tables.specs.Rows.{live_rows}
use Rattle.tables.specs.laws.WellFormed.{of_ipv4}
use Rattle.tables.proofs.HeldRows.{allocated}
use Rattle.tables.proofs.Slots.{free_slot}
use Rattle.tables.proofs.storage.Tables.allocate.Goals as goal

pub returns-in_err-slot-clause-follows : goal.returns-in_err-slot-clause-follows
returns-in_err-slot-clause-follows c = search rules

pub returns-clause-follows : goal.returns-clause-follows
returns-clause-follows c = search rules

pub insert_held-requires-clause-held_at : goal.insert_held-requires-clause-held_at
insert_held-requires-clause-held_at c = allocated c.in_ok-slot.slot _ c.new.result c.new-2.result c.new.ensures c.new-2.ensures refl (of_ipv4 c.args.client c.law_is_address.ensures c.requires.ipv4)

pub insert_held-requires-clause-free : goal.insert_held-requires-clause-free
insert_held-requires-clause-free c = free_slot (live_rows c.moment_at-moment.result c.args.self.now) c.in_ok-slot.slot (sym c.first_free.ensures ∙ c.ok_or.ensures.ok_part ∙ ap result_ok c.in_ok-slot.was)
