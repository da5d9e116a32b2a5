use Rattle.std.proofs.Common.{◌-◌, ◌+◌, ◌≤◌, take, rules, sym, subst}
use Rattle.explaining.specs.Lines.{AppendsLines, steps_of}
use Rattle.explaining.proofs.Lines.{next_step, line_at, no_line_at}
use Rattle.explaining.proofs.printing.print_steps.Goals as goal
use Rattle.explaining.proofs.printing.print_steps.Goals.{in-Begins+in_ok-note+in_ok-print_line, in_default}

pub loop-i-preserved : goal.loop-i-preserved
loop-i-preserved g c =
    let some : 1 ≤ c.loop-i.i = search rules in
    elim c.match-fetch.branch [
      | in-Begins+in_ok-note+in_ok-print_line w ↦
          subst (λ (out : _). AppendsLines (steps_of c.args.program.now (take (c.loop-i.i + 1 - 1) c.args.path.now)) (g.W.Write.contents c.args.out.now) (g.W.Write.contents out)) (sym w.out-is)
          (next_step c.args.program.now c.args.path.now c.loop-i.i c.index-path-i.result some c.loop-i-test.true c.index-path-i.is _ _ _ c.loop-i.invariant
          (line_at c.args.program.now c.index-path-i.result.slot c.fetch.result w.in-Begins.insn w.as_str.result.now (g.W.Write.contents c.loop-i.out) (g.W.Write.contents w.print_line.new.out) c.fetch.ensures w.in-Begins.is w.in_ok-print_line.ensures))
      | in_default w ↦
          subst (λ (out : _). AppendsLines (steps_of c.args.program.now (take (c.loop-i.i + 1 - 1) c.args.path.now)) (g.W.Write.contents c.args.out.now) (g.W.Write.contents out)) (sym w.out-is)
          (next_step c.args.program.now c.args.path.now c.loop-i.i c.index-path-i.result some c.loop-i-test.true c.index-path-i.is _ _ _ c.loop-i.invariant
          (no_line_at c.args.program.now c.index-path-i.result.slot c.fetch.result _ c.fetch.ensures (λ i e. search rules)))
    ]
