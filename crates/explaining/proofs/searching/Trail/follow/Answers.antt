use Rattle.std.proofs.Common.{List, [], ◌∷◌, ◌++◌, refl, ap, ◌∙◌}
use Rattle.interval.specs.declared.interval.Interval.{Interval}
use Rattle.verifier.specs.declared.walk.Pending.{Pending}
use Rattle.explaining.proofs.Trailing.{leads_on}
use Rattle.explaining.proofs.searching.Trail.follow.Goals as goal

pub returns : goal.returns
returns c =
    leads_on c.args.walk.now.code c.args.walk.now.waits c.in-Some.here.now c.in-Some-pop.depth c.args.self.now _ c.requires c.in-Some.ensures
    c.in-Some-pop.ensures.items (c.in_ok-push.ensures.items ∙ ap (λ (xs : List (Pending Interval)). xs ++ c.in-Some.here.now ∷ []) c.truncate.ensures.items) refl
