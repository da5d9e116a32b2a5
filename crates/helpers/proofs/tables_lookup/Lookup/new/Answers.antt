-- What is looked up in a slot, whose rows are well formed, is lawful.
use Rattle.std.proofs.Common.{◌≡◌, Option, Some, None, sym, subst, ◌∙◌}
use Rattle.std.proofs.lemmas.Option.{none-some, same_Some}
use Rattle.semantics.specs.Runs.{IsLawful}
use Rattle.tables.specs.WellFormed.{IsHeldAt}
use Rattle.tables.specs.declared.held.Held.{Held}
use Rattle.helpers.specs.LookUps.{held_answer}
use Rattle.helpers.specs.laws.Lawful.{held_is_lawful}
use Rattle.helpers.proofs.tables_lookup.Lookup.new.Goals as goal
use Rattle.helpers.proofs.tables_lookup.Lookup.new.Goals.{in-Some, in_default}

lawful_in : (live : Option Held) (held : Held) → IsHeldAt held.allocation.slot held → live ≡ Some held → IsLawful (held_answer live)
lawful_in live held formed is =
    held_is_lawful held.allocation.slot live (λ h at. subst (IsHeldAt held.allocation.slot) (same_Some _ _ (sym is ∙ at)) formed)

lawful_nowhere : (live : Option Held) → live ≡ None → IsLawful (held_answer live)
lawful_nowhere live is = held_is_lawful 0 live (λ h at. absurd (none-some h (sym is ∙ at)))

pub invariant_of-result : goal.invariant_of-result
invariant_of-result c = record {
  lawful = elim c.match-live.branch [
    | in-Some w ↦ lawful_in c.args.live w.in-Some.slot w.law_is_well_formed.ensures w.in-Some.is
    | in_default w ↦ lawful_nowhere c.args.live w.in_default.is
  ];
}
