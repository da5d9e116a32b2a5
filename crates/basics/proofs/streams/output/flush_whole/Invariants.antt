-- Nothing was written while the writer was interrupted.
use Rattle.std.specs.Io.KnownBytes.{Keeps}
use Rattle.basics.proofs.streams.output.flush_whole.Given as goal

abbrev pub invariant-loop : goal.invariant-loop
invariant-loop g l = Keeps (g.W.Write.contents l.fn.writer) (g.W.Write.contents l.writer)
