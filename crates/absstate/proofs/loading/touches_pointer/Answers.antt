use Rattle.std.proofs.Common.{rules, ◌≡◌, ℕ, Bool, ◌||◌, sym, ◌∙◌}
use Rattle.semantics.specs.Access.{group_of, second_group, third_group, last_group}
use Rattle.semantics.specs.laws.Group.{four_groups}
use Rattle.absstate.specs.AbstractStates.{group_at}
use Rattle.absstate.specs.AbstractSteps.{is_known_pointer}
use Rattle.absstate.specs.declared.abstract_state.AbsState.{AbsState}
use Rattle.absstate.proofs.loading.touches_pointer.Goals as goal

-- whether one of the four groups that are looked at is known to hold a pointer
abbrev finds : {D : Type 0} → AbsState D → ℕ → ℕ → Bool
finds a n i = is_known_pointer (group_at a.values (group_of i)) || (is_known_pointer (group_at a.values (second_group n i)) || (is_known_pointer (group_at a.values (third_group n i)) || is_known_pointer (group_at a.values (last_group n i))))

pub returns-then-is_pointer-3 : goal.returns-then-is_pointer-3
returns-then-is_pointer-3 g c =
    let found : c.if-is_pointer-2.value ≡ finds c.args.state.now c.args.n c.args.index = search rules in
    found ∙ sym (four_groups (λ g. is_known_pointer (group_at c.args.state.now.values g)) c.args.n c.args.index c.requires.some c.requires.few)

pub returns-else-is_pointer-3 : goal.returns-else-is_pointer-3
returns-else-is_pointer-3 g c =
    let found : c.is_pointer-else-is_pointer-3.result ≡ finds c.args.state.now c.args.n c.args.index = search rules in
    found ∙ sym (four_groups (λ g. is_known_pointer (group_at c.args.state.now.values g)) c.args.n c.args.index c.requires.some c.requires.few)
