use Rattle.std.proofs.Common.{◌≡◌, ◌+◌, arith, ap, sym, ◌∙◌, subst}
use Rattle.std.proofs.lemmas.Result.{err_from_is_err_and}
use Rattle.asm.specs.Lines.{lines_of}
use Rattle.asm.specs.Parsing.{said_in}
use Rattle.asm.specs.Scanning.{following_lines, lines_left, TextBegins}
use Rattle.asm.specs.declared.refusal.AsmError.TheVariants as error
use Rattle.asm.proofs.Links.{linked_none, linked_insn, linked_past, no_fault, slot_within, slot_fits, unknown_label}
use Rattle.asm.proofs.program.link.Goals as goal

pub loop-rest-init : goal.loop-rest-init
loop-rest-init c = record {
  linked = rw (c.new-code.ensures.items, c.new-lines.ensures.items)
      (linked_none c.args.text.now c.args.table.now c.requires);
  room = omega arith;
}

pub returns-in_err-line-clause-refused : goal.returns-in_err-line-clause-refused
returns-in_err-line-clause-refused c = absurd
    (no_fault (lines_of c.args.text.now) c.args.table.now c.loop-rest.number c.loop-rest.slot c.loop-rest.rest
    c.in-Some.text
    c.loop-rest.code.items c.loop-rest.lines.items _ _ c.loop-rest.invariant.linked c.in-Some.is c.in_err-line.ensures.refused)

pub linked-requires-clause-slot : goal.linked-requires-clause-slot
linked-requires-clause-slot c = slot_within _ _ _ _ _ _ _ c.loop-rest.invariant.linked

pub returns-in_err-jump-clause-refused : goal.returns-in_err-jump-clause-refused
returns-in_err-jump-clause-refused c =
    let p = err_from_is_err_and c.from_residual-in_err-jump.result c.from_residual-in_err-jump.ensures.1 in
    let k = c.loop-rest.invariant.linked in
    let value = rw c.in_err-jump.ensures.ok_part at c.in_err-jump.ensures.value in
    let named : c.in_err-jump.field-0.0 ≡ error.UnknownLabel (c.loop-rest.number + 1) = cc value in
    rw (p.1, p.2, named) (unknown_label
    (lines_of c.args.text.now) c.args.table.now c.loop-rest.number c.loop-rest.slot c.loop-rest.rest c.in-Some.text
    c.in-Insn.insn _ _
    c.loop-rest.code.items c.loop-rest.lines.items k c.in-Some.is
    (subst (λ l. TextBegins c.in-Some.text.now (said_in l) (following_lines c.in_ok-line.after)) c.in-Insn.is
    c.in_ok-line.ensures.read)
    (sym c.in_err-jump.ensures.ok_part ∙ c.linked.ensures k.said k.holds k.few))

pub overflow_add-slot : goal.overflow_add-slot
overflow_add-slot c = rw c.slots-slot.ensures
    (slot_fits c.loop-rest.slot c.in-Insn.insn (slot_within _ _ _ _ _ _ _ c.loop-rest.invariant.linked))

pub loop-rest-preserved-in_ok-push-2 : goal.loop-rest-preserved-in_ok-push-2
loop-rest-preserved-in_ok-push-2 c = record {
  linked = let k = c.loop-rest.invariant.linked in rw (c.in_ok-push.ensures.items, c.in_ok-push-2.ensures.items, c.slots-slot.ensures)
      (linked_insn (lines_of c.args.text.now) c.args.table.now c.loop-rest.number c.loop-rest.slot c.loop-rest.rest
      c.in-Some.text c.in-Insn.insn _ _
      c.loop-rest.code.items c.in_ok-jump.jump c.loop-rest.lines.items k c.in-Some.is
      (subst (λ l. TextBegins c.in-Some.text.now (said_in l) (following_lines c.in_ok-line.after)) c.in-Insn.is
      c.in_ok-line.ensures.read)
      (sym c.in_ok-jump.ensures.ok_part ∙ c.linked.ensures k.said k.holds k.few));
  room = omega (arith, c.in_ok-line.ensures.fewer, ap lines_left c.in-Some.is);
}

pub loop-rest-smaller-in_ok-push-2 : goal.loop-rest-smaller-in_ok-push-2
loop-rest-smaller-in_ok-push-2 c = omega (arith, c.in_ok-line.ensures.fewer, ap lines_left c.in-Some.is)

pub loop-rest-preserved : goal.loop-rest-preserved
loop-rest-preserved c = record {
  linked = linked_past (lines_of c.args.text.now) c.args.table.now c.loop-rest.number c.loop-rest.slot c.loop-rest.rest
      c.in-Some.text c.in_ok-line.line _
      c.loop-rest.code.items c.loop-rest.lines.items c.loop-rest.invariant.linked c.in-Some.is c.in_ok-line.ensures.read
      c.in_default-line.not-Insn;
  room = omega (arith, c.in_ok-line.ensures.fewer, ap lines_left c.in-Some.is);
}
