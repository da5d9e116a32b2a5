use Rattle.std.proofs.Common.{rules, tests, not, ◌∙◌}
use Rattle.std.proofs.lemmas.Iterator.Search.{position_from_yields_List}
use Rattle.std.proofs.lemmas.Iterator.{YieldsList-from_slice}
use Rattle.asm.specs.Lines.{is_in_words}
use Rattle.asm.proofs.Words.{found_or_length}
use Rattle.asm.proofs.parser.word_length.Goals as goal

pub returns : goal.returns
returns c = c.unwrap_or.ensures ∙ found_or_length c.args.rest.now c.position.result
    (position_from_yields_List (λ d. not (is_in_words d)) _ _ c.position.result c.position.ensures.ran (YieldsList-from_slice c.args.rest.now cc) (λ x b q k. search (rules, tests)))
