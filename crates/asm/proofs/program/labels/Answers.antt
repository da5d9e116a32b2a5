use Rattle.std.proofs.Common.{rules, ap, arith}
use Rattle.std.proofs.lemmas.Result.{err_from_is_err_and}
use Rattle.asm.specs.Lines.{lines_of}
use Rattle.asm.specs.Scanning.{lines_left}
use Rattle.asm.proofs.Scans.{scanned_none, scanned_more, halted_at_fault, halted_at_label}
use Rattle.asm.proofs.program.labels.Goals as goal

pub loop-rest-init : goal.loop-rest-init
loop-rest-init c = record {
  scanned = scanned_none c.args.text.now c.new-table.result c.new-table.ensures;
  room = omega arith;
}

pub returns-in_err-line-clause-refused : goal.returns-in_err-line-clause-refused
returns-in_err-line-clause-refused c = let p = err_from_is_err_and c.from_residual.result c.from_residual.ensures.1 in
    rw (p.1, p.2)
    (halted_at_fault (lines_of c.args.text.now) c.loop-rest.number c.loop-rest.rest c.in-Some.text c.loop-rest.table _
    c.loop-rest.invariant.scanned c.in-Some.is
    c.in_err-line.ensures.refused)

pub returns-in_err-add-clause-refused : goal.returns-in_err-add-clause-refused
returns-in_err-add-clause-refused c = let p = err_from_is_err_and c.from_residual-in_err-add.result
    c.from_residual-in_err-add.ensures.1 in rw (p.1, p.2)
    (halted_at_label (lines_of c.args.text.now) c.loop-rest.number c.loop-rest.rest c.in-Some.text _ _
    c.loop-rest.table c.add.new.self _
    c.loop-rest.invariant.scanned c.in-Some.is c.in_ok-line.ensures.read c.in_err-add.ensures)

pub loop-rest-preserved : goal.loop-rest-preserved
loop-rest-preserved c = record {
  scanned = scanned_more (lines_of c.args.text.now) c.loop-rest.number c.loop-rest.rest c.in-Some.text _ _
      c.loop-rest.table c.add.new.self c.in_ok-add.field-0
      c.loop-rest.invariant.scanned c.in-Some.is c.in_ok-line.ensures.read c.in_ok-add.ensures;
  room = omega (arith, c.in_ok-line.ensures.fewer, ap lines_left c.in-Some.is);
}

pub returns-clause-read : goal.returns-clause-read
returns-clause-read c = search rules
