use Rattle.std.proofs.Common.{ℕ, ◌-◌, ◌*◌, ◌%◌, ◌^◌, ◌<◌, ◌≡◌, ◌∙◌, arith, ap, not, subst, ◌==◌}
use Rattle.std.specs.Option.{SomeIff}
use Rattle.peer_filter.proofs.Shifts.{host_shift}
use Rattle.peer_filter.proofs.network.has_host_bits.Goals as goal

pub returns : goal.returns
returns c =
    let before : ℕ = 128 - (c.args.width - c.args.bits) in
    let shown = subst (λ (b : ℕ). SomeIff c.checked_shl.result (b < 128) ((c.args.address * 2 ^ b) % 2 ^ 128)) c.from.ensures c.checked_shl.ensures in
    let rest : 128 - before ≡ c.args.width - c.args.bits = omega (arith, c.requires.0, c.requires.1) in
    ap (λ t. not t) (ap (λ (n : ℕ). n == 0) c.unwrap_or.ensures ∙ host_shift 128 c.args.address before c.checked_shl.result (omega arith) shown
    ∙ ap (λ n. c.args.address % 2 ^ n == 0) rest)
