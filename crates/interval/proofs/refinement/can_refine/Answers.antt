use Rattle.std.proofs.Common.{rules}
use Rattle.interval.proofs.refinement.can_refine.Goals as goal

pub returns-then-is_signed : goal.returns-then-is_signed
returns-then-is_signed c = search rules

pub returns-then-is_word : goal.returns-then-is_word
returns-then-is_word c = search rules
