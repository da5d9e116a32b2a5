use Rattle.std.proofs.Common.{get_or, sym, ap, ◌∙◌}
use Rattle.semantics.specs.Effects.{content_of}
use Rattle.semantics.specs.declared.value.Value.TheVariants.{Nothing}
use Rattle.semantics.proofs.effect.read.Goals as goal

pub returns-in-Nothing : goal.returns-in-Nothing
returns-in-Nothing c =
    sym (ap (λ k. content_of (get_or c.args.registers.now k Nothing)) (sym c.number.ensures) ∙ ap content_of c.in-Nothing.is)
