use Rattle.std.proofs.Common.{Some, None}
use Rattle.asm.proofs.Texts.{first_of_lines}
use Rattle.asm.proofs.program.first_line.Goals as goal

pub returns-in-Some-clause-split : goal.returns-in-Some-clause-split
returns-in-Some-clause-split c = first_of_lines c.args.text.now
    (Some (c.in-Some.line, c.in-Some.rest)) c.in-Some.ensures.cases

pub returns-in-None-clause-split : goal.returns-in-None-clause-split
returns-in-None-clause-split c = first_of_lines c.args.text.now None c.in-None.ensures.cases
