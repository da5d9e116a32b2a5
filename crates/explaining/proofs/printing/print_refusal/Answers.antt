use Rattle.std.proofs.Common.{ℕ, OnOk, subst}
use Rattle.explaining.specs.Lines.{AppendsLines, step_at}
use Rattle.explaining.proofs.Lines.{if_ok, line_at}
use Rattle.explaining.proofs.printing.print_refusal.Goals as goal

pub returns-in_ok-note-in-Begins : goal.returns-in_ok-note-in-Begins
returns-in_ok-note-in-Begins g c =
    subst (λ (slot : ℕ). OnOk c.print_line.result (AppendsLines (step_at c.args.program.now slot) (g.W.Write.contents c.args.out.now) (g.W.Write.contents c.print_line.new.out))) c.slot_of-slot.ensures
    (if_ok c.print_line.result c.print_line.ensures (line_at c.args.program.now c.slot_of-slot.result c.fetch.result c.in-Begins.insn c.as_str.result.now (g.W.Write.contents c.args.out.now) (g.W.Write.contents c.print_line.new.out) c.fetch.ensures c.in-Begins.is))
