use Rattle.std.proofs.Common.{rules, tests, ◌∙◌, not}
use Rattle.std.proofs.lemmas.Iterator.{YieldsList-from_slice}
use Rattle.std.proofs.lemmas.Iterator.Search.{find_from_yields_List}
use Rattle.control.specs.Configs.{is_valid_field, fields}
use Rattle.control.proofs.config.Config.fault.Goals as goal

-- src/config.rt:136:5
pub returns : goal.returns
returns c =
    c.copied.ensures ∙ find_from_yields_List (λ f. not (is_valid_field c.args.self.now f)) _ _ c.find.result c.find.ensures.ran (YieldsList-from_slice fields cc) (λ x b q k. search (rules, tests))
