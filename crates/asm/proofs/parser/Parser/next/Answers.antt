use Rattle.std.proofs.Common.{◌∷◌, sym, ap, ◌∙◌, arith}
use Rattle.asm.specs.Reading.{tokens_of}
use Rattle.asm.proofs.Words.{comment_token}
use Rattle.asm.proofs.parser.Parser.next.Goals as goal

pub returns-then-first-eq59 : goal.returns-then-first-eq59
returns-then-first-eq59 c =
    sym c.skip_blanks.ensures.same ∙ ap tokens_of c.in_ok-first.ensures.cases.0 ∙ comment_token (c.in_ok-first.first.now ∷ c.in_ok-first.field-0-1.now) (omega arith) c.if-first-eq59.true
