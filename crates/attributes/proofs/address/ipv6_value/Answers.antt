use Rattle.std.proofs.Common.{ℕ, arith, ◌++◌, drop, ap, ◌∙◌}
use Rattle.std.specs.Prelude.{bit_xor}
use Rattle.stun.specs.Endian.{big_bytes}
use Rattle.attributes.specs.Addresses.{ipv6_mask}
use Rattle.attributes.proofs.Addresses.{value_written}
use Rattle.attributes.proofs.address.ipv6_value.Goals as goal

pub returns : goal.returns
returns c =
    value_written 16 c.read_u128.result (ipv6_mask c.args.tx.now) c.write_front.new.front _ c.write_u128.new.buf c.split_at_mut-front.result.1.now c.args.ip.now c.write_front.ensures
    (c.write_u128.ensures ∙ ap (λ (m : ℕ). big_bytes 16 (bit_xor c.read_u128.result m) ++ drop 16 c.split_at_mut-front.result.1.now) c.ipv6_mask.ensures) (omega (arith, c.split_at_mut-front.ensures.back_len)) c.read_u128.ensures
