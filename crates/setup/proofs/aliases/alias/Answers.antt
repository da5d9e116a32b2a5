use Rattle.std.proofs.Common.{rules, inl, ◌≡◌, List, ℕ, subst}
use Rattle.std.specs.List.{before_first, after_first}
use Rattle.setup.specs.Aliases.{IsTextOfIp, is_equals_sign}
use Rattle.setup.proofs.Parted.{none_found}
use Rattle.setup.proofs.aliases.alias.Goals as goal

pub returns-in_default : goal.returns-in_default
returns-in_default c = inl (none_found is_equals_sign c.args.text.now (search rules))

pub returns-in-Some-Some : goal.returns-in-Some-Some
returns-in-Some-Some c =
    let name : c.in-Some.name.now ≡ before_first is_equals_sign c.args.text.now = search rules in
    let other : c.in-Some.other.now ≡ after_first is_equals_sign c.args.text.now = search rules in (
      subst (λ (text : List ℕ). IsTextOfIp text c.in-Some-Some.address) name c.in-Some-Some.ensures.found,
      subst (λ (text : List ℕ). IsTextOfIp text c.in-Some-Some.counts_as) other c.in-Some-Some.ensures'.found,
    )
