-- A number of more than 16 bits is that of no channel.
use Rattle.std.proofs.Common.{◌≡◌, ℕ, ◌<◌, ◌^◌, None, Some, refl, ap, arith}
use Rattle.tables.specs.LookUps.{bound_peer}
use Rattle.tables.specs.WellFormed.{IsHeldAt}
use Rattle.tables.specs.declared.held.Held.{Held}
use Rattle.tables.specs.laws.WellFormed.{bound_peer-number}
use Rattle.helpers.specs.LookUps.{peer_answer}
use Rattle.helpers.proofs.tables_lookup.channel_peer.Goals as goal

no_peer : (slot number : ℕ) (held : Held) → IsHeldAt slot held → (number < 2 ^ 16 → ⊥) → None ≡ bound_peer number held
no_peer slot number held is large = elim (bound_peer number held) as (λ o. bound_peer number held ≡ o → None ≡ o) [
  | None ↦ λ e. refl
  | Some peer ↦ λ e. absurd (large (omega (arith, (bound_peer-number slot number held peer is e).1)))
] refl

pub returns-in_default-clause-answer : goal.returns-in_default-clause-answer
returns-in_default-clause-answer g c = ap (peer_answer c.args.form) (no_peer c.args.slot.now.allocation.slot c.args.number c.args.slot.now c.law_is_well_formed.ensures c.in_default.ensures)
