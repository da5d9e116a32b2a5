-- Calls that are reported, one after the other.
use Rattle.std.proofs.Common.{List, [], ◌++◌, refl, sym, ap, subst, ◌∙◌, append_assoc, append-nil}
use Rattle.std.specs.Prelude.{Option, None, Some}
use Rattle.server.specs.Calls.{HasReported}

-- first some calls, and then others
pub reported_more : {A : Type 0} (before between after : Option (List A)) (first more : List A) → HasReported before between first → HasReported between after more → HasReported before after (first ++ more)
reported_more None between after first more f m = subst (λ (b : Option (List _)). HasReported b after more) f m
reported_more (Some calls) None after first more f m = subst (λ (a : Option (List _)). HasReported (Some calls) a (first ++ more)) (sym m) tt
reported_more (Some calls) (Some called) None first more f m = tt
reported_more (Some calls) (Some called) (Some last) first more f m = m ∙ ap (λ (l : List _). l ++ more) f ∙ append_assoc calls first more

pub reported_none : {A : Type 0} (now : Option (List A)) → HasReported now now []
reported_none None = refl
reported_none (Some calls) = sym (append-nil calls)
