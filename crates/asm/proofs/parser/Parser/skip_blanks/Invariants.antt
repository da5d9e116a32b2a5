use Rattle.std.proofs.Common.{◌≡◌, length}
use Rattle.asm.specs.Parsing.{tokens_ahead}
use Rattle.asm.proofs.parser.Parser.skip_blanks.Given as goal

abbrev pub invariant-loop-self : goal.invariant-loop-self
invariant-loop-self l = tokens_ahead l.self ≡ tokens_ahead l.initial.self

abbrev pub decreases-loop-self : goal.decreases-loop-self
decreases-loop-self l = length l.self.rest.now
