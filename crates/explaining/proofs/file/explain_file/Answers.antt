use Rattle.explaining.proofs.Lines.{kept_explained}
use Rattle.explaining.proofs.file.explain_file.Goals as goal

pub returns-clause-lines : goal.returns-clause-lines
returns-clause-lines g c =
    kept_explained c.args.file.now (g.W.Write.contents c.args.out.now) (g.W.Write.contents c.print_explanation.new.out) (g.W.Write.contents c.flush.new.self) c.in_ok-found.found c.flush.ensures.bytes c.in_ok-found.ensures.lines
