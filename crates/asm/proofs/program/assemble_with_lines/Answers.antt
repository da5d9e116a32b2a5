use Rattle.asm.proofs.Laws.{laws}
use Rattle.asm.proofs.Meanings.{found, lines_found, only, refused, exact}
use Rattle.asm.proofs.program.assemble_with_lines.Goals as goal

pub returns : goal.returns
returns c = record {
  found = found laws c.args.text.now (λ v. v.bytes.items) c.build.result c.build.ensures.built;
  lines = lines_found laws c.args.text.now (λ v. v.lines.items) c.build.result c.build.ensures.lines;
  only = only laws c.args.text.now (λ v. v.bytes.items) c.build.result c.build.ensures.built c.build.ensures.refused;
  refused = refused laws c.args.text.now c.build.result c.build.ensures.refused;
  exact = exact laws c.args.text.now (λ v. v.bytes.items) c.build.result c.build.ensures.built c.build.ensures.refused;
}
