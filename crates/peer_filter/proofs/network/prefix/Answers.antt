use Rattle.std.proofs.Common.{ℕ, ◌/◌, ◌^◌, ◌<◌, ◌∙◌, subst}
use Rattle.std.specs.Option.{SomeIff}
use Rattle.peer_filter.proofs.Shifts.{prefix_shift}
use Rattle.peer_filter.proofs.network.prefix.Goals as goal

pub returns : goal.returns
returns c =
    let shown = subst (λ (b : ℕ). SomeIff c.checked_shr.result (b < 128) (c.args.address / 2 ^ b)) (c.from.ensures ∙ c.saturating_sub-rest.ensures) c.checked_shr.ensures in
    c.unwrap_or.ensures ∙ prefix_shift c.args.width c.args.address c.args.bits c.checked_shr.result c.requires c.ranges.address.fits shown
