use Rattle.std.proofs.Common.{rules}
use Rattle.stun.proofs.Integrity.{front_fits, front_found}
use Rattle.stun.proofs.reading.Message.before_integrity.Goals as goal

pub overflow_add-at : goal.overflow_add-at
overflow_add-at c =
    let fits = front_fits _ _ _ c.self.invariant c.in_ok-at.was in
    search rules

pub split_at-requires : goal.split_at-requires
split_at-requires c = front_fits _ _ _ c.self.invariant c.in_ok-at.was

pub returns-clause-front : goal.returns-clause-front
returns-clause-front c =
    front_found _ _ _ _ _ c.self.invariant c.in_ok-at.was c.self.view_is c.split_at.ensures.front
