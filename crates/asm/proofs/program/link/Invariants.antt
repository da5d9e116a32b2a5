use Rattle.std.proofs.Common.{◌+◌, ◌≤◌, length}
use Rattle.asm.specs.Lines.{lines_of}
use Rattle.asm.specs.Scanning.{following_lines, lines_left, IsLinked}
use Rattle.asm.proofs.program.link.Given as goal

abbrev pub invariant-loop-rest : goal.invariant-loop-rest
invariant-loop-rest l = record {
  linked : IsLinked (lines_of l.text) l.table l.number l.slot (following_lines l.rest) l.code.items l.lines.items;
  room : l.number + lines_left l.rest ≤ length l.text + 1;
}

abbrev pub decreases-loop-rest : goal.decreases-loop-rest
decreases-loop-rest l = lines_left l.rest
