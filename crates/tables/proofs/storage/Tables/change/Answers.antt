use Rattle.std.proofs.Common.{◌≡◌, ◌<◌, Some, length, arith}
use Rattle.std.proofs.lemmas.Result.{err_from_is_err_and}
use Rattle.tables.specs.Stored.{stored_at, slot_change}
use Rattle.tables.proofs.SlotChanges.{at_moment, stored_read, empty-refused, ended-refused, left-unchanged, stored-unchanged, stored-held, change-refused, change-follows}
use Rattle.tables.proofs.storage.Tables.change.Goals as goal

pub returns-in_default-clause-follows : goal.returns-in_default-clause-follows
returns-in_default-clause-follows c =
    let slots = c.self.inside.slots.items in
    let within : c.args.slot < length slots = omega (arith, c.if-slot-len.false, c.len.ensures, c.self.inside.slots.ok.0) in
    at_moment (slot_change c.args.slot c.args.change) c.args.self.now _ _ c.moment_at-moment.result _ c.moment_at-moment.ensures.moment
    (empty-refused c.self.inside.moment slots c.args.self.now c.self.view_is c.moment_at-moment.result c.moment_at-moment.ensures.later c.args.slot within c.index_mut.result.now c.index_mut.ensures.value _ c.in_default.is)

pub returns-then-held-moment-clause-follows : goal.returns-then-held-moment-clause-follows
returns-then-held-moment-clause-follows c =
    let slots = c.self.inside.slots.items in
    let within : c.args.slot < length slots = omega (arith, c.if-slot-len.false, c.len.ensures, c.self.inside.slots.ok.0) in
    at_moment (slot_change c.args.slot c.args.change) c.args.self.now _ _ c.moment_at-moment.result _ c.moment_at-moment.ensures.moment
    (ended-refused c.self.inside.moment slots c.args.self.now c.self.view_is c.moment_at-moment.result c.moment_at-moment.ensures.later c.args.slot within c.index_mut.result.now c.index_mut.ensures.value c.in-Some.held _ c.in-Some.is c.if-held-moment.true)

pub invariant_of-self-in_err-change : goal.invariant_of-self-in_err-change
invariant_of-self-in_err-change c =
    stored-unchanged c.self.inside.moment c.self.inside.slots.items c.self.inside.clients.items c.args.slot c.index_mut.result.now c.in-Some.held c.change.new.self c.self.invariant c.index_mut.ensures.value c.in-Some.is
    (left-unchanged _ c.moment_at-moment.result c.in-Some.held c.change.new.self _ (c.in_err-change.ensures {u = tt}).follows)

pub returns-in_err-change-clause-follows : goal.returns-in_err-change-clause-follows
returns-in_err-change-clause-follows c =
    let slots = c.self.inside.slots.items in
    let within : c.args.slot < length slots = omega (arith, c.if-slot-len.false, c.len.ensures, c.self.inside.slots.ok.0) in
    let p = err_from_is_err_and c.from_residual.result c.from_residual.ensures.1 in
    rw (p.1, p.2) (at_moment (slot_change c.args.slot c.args.change) c.args.self.now _ _ c.moment_at-moment.result _ c.moment_at-moment.ensures.moment
    (change-refused c.self.inside.moment slots c.args.self.now c.self.view_is c.moment_at-moment.result c.moment_at-moment.ensures.later c.args.slot within c.index_mut.result.now c.index_mut.ensures.value c.in-Some.held c.in-Some.is c.if-held-moment.false
    c.args.change _ c.change.new.self (c.in_err-change.ensures {u = tt}).follows))

pub invariant_of-self-2 : goal.invariant_of-self-2
invariant_of-self-2 c =
    let slots = c.self.inside.slots.items in
    let slot = c.args.slot in
    let within : slot < length slots = omega (arith, c.if-slot-len.false, c.len.ensures, c.self.inside.slots.ok.0) in
    let is : stored_at slots slot ≡ Some c.in-Some.held = stored_read slots slot c.index_mut.result.now (Some c.in-Some.held) within c.index_mut.ensures.value c.in-Some.is in
    stored-held c.self.inside.moment c.moment_at-moment.result slots c.self.inside.clients.items c.self.invariant c.moment_at-moment.ensures.latest slot within c.in-Some.held is c.change.new.self c.change.ensures.held_at c.change.ensures.client

pub returns-clause-follows : goal.returns-clause-follows
returns-clause-follows c =
    let slots = c.self.inside.slots.items in
    let within : c.args.slot < length slots = omega (arith, c.if-slot-len.false, c.len.ensures, c.self.inside.slots.ok.0) in
    at_moment (slot_change c.args.slot c.args.change) c.args.self.now _ _ c.moment_at-moment.result _ c.moment_at-moment.ensures.moment
    (change-follows c.self.inside.moment slots c.args.self.now c.self.view_is c.moment_at-moment.result c.moment_at-moment.ensures.later c.args.slot within c.index_mut.result.now c.index_mut.ensures.value c.in-Some.held c.in-Some.is c.if-held-moment.false
    c.args.change c.change.new.self (c.in_ok-change.ensures {u = tt}).follows)
