use Rattle.std.proofs.Common.{rules, ◌≡◌, ℕ, Bool, ◌||◌, List, sym, ◌∙◌}
use Rattle.semantics.specs.Access.{is_pointer, group_of, second_group, third_group, last_group, pointer_in}
use Rattle.semantics.specs.declared.value.Value.{Value}
use Rattle.semantics.specs.laws.Group.{four_groups}
use Rattle.semantics.proofs.stack.touches_pointer.Goals as goal

-- whether one of the four groups that are looked at holds a pointer
abbrev finds : List Value → ℕ → ℕ → Bool
finds groups n i = is_pointer (pointer_in groups (group_of i)) || (is_pointer (pointer_in groups (second_group n i)) || (is_pointer (pointer_in groups (third_group n i)) || is_pointer (pointer_in groups (last_group n i))))

pub returns-then-is_pointer-3 : goal.returns-then-is_pointer-3
returns-then-is_pointer-3 c =
    let found : c.if-is_pointer-2.value ≡ finds c.args.stack.now.groups c.args.n c.args.index = search rules in
    found ∙ sym (four_groups (λ g. is_pointer (pointer_in c.args.stack.now.groups g)) c.args.n c.args.index c.requires.some c.requires.few)

pub returns-else-is_pointer-3 : goal.returns-else-is_pointer-3
returns-else-is_pointer-3 c =
    let found : c.is_pointer-else-is_pointer-3.result ≡ finds c.args.stack.now.groups c.args.n c.args.index = search rules in
    found ∙ sym (four_groups (λ g. is_pointer (pointer_in c.args.stack.now.groups g)) c.args.n c.args.index c.requires.some c.requires.few)
