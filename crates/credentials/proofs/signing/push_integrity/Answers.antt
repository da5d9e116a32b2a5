use Rattle.std.proofs.Common.{ℕ, List, subst, ◌∙◌}
use Rattle.stun.specs.Builders.{Appends}
use Rattle.stun.specs.Registry.{message_integrity}
use Rattle.credentials.proofs.signing.push_integrity.Goals as goal

pub returns-clause-appends : goal.returns-clause-appends
returns-clause-appends c = subst (λ (integrity : List ℕ). Appends message_integrity integrity c.args.builder.now c.push.new.self) (c.as_slice.ensures ∙ c.integrity_for-integrity.ensures) c.push.ensures.appends
