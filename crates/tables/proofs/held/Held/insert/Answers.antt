use Rattle.std.proofs.Common.{◌+◌, sym, ◌∙◌}
use Rattle.tables.specs.declared.permissions.TheConstants.{PERMISSION_LIFETIME}
use Rattle.tables.proofs.SlotChanges.{bind-full}
use Rattle.tables.proofs.held.Held.insert.Goals as goal

pub returns-then-not-has_room_for-clause-refused : goal.returns-then-not-has_room_for-clause-refused
returns-then-not-has_room_for-clause-refused c =
    bind-full c.args.moment c.args.number c.args.peer c.args.self.now (sym c.is_of_family.ensures ∙ c.if-not-is_of_family.false) (sym c.may_bind.ensures ∙ c.if-not-may_bind.false)
    (sym (c.has_room_for.ensures (c.args.moment + PERMISSION_LIFETIME)) ∙ c.if-not-has_room_for.true)
