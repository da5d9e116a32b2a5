use Rattle.std.proofs.Common.{◌≡◌, ◌∙◌}
use Rattle.shadow.specs.Comparisons.{compared}
use Rattle.shadow.proofs.Comparisons.{would_step_same}
use Rattle.shadow.proofs.shadow.Shadow.compare_with.Goals as goal

pub returns-clause-same : goal.returns-clause-same
returns-clause-same c = λ r given n done shadow.
    would_step_same r given n c.args.self.now.program c.compared.result
    (c.compared.ensures ∙ (λ i. compared (done i) ((c.choice.ensures ∙ shadow) i)))
    (c.law_same_choices_are_same_steps.ensures r given n c.args.self.now.program)
