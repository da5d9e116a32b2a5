use Rattle.std.proofs.Common.{ℕ, ◌<◌, ◌^◌, ap, ◌∙◌, subst}
use Rattle.std.proofs.lemmas.Nat.{xor_lt}
use Rattle.std.specs.Prelude.{bit_xor}
use Rattle.std.specs.Int.{bytes_high_first}
use Rattle.stun.specs.Endian.{big_number}
use Rattle.attributes.specs.Addresses.{ipv6_mask}
use Rattle.attributes.proofs.Masks.{masked_back, masked_is, below}
use Rattle.attributes.proofs.address.ipv6_in.Goals as goal

pub returns-clause-spelled : goal.returns-clause-spelled
returns-clause-spelled c =
    let number_is = c.read_u128.ensures ∙ ap (big_number 16) c.split_at.ensures.back in
    let mask_fits : ipv6_mask c.args.tx.now < 2 ^ 128 = subst (λ (k : ℕ). k < 2 ^ 128) c.ipv6_mask.ensures c.ipv6_mask.type_inv in
    masked_back 16 c.args.value.now (ipv6_mask c.args.tx.now) c.read_u128.result c.to_be_bytes.result c.requires c.type_inv.value number_is
    (c.to_be_bytes.ensures ∙ ap (λ (m : ℕ). bytes_high_first 16 (bit_xor c.read_u128.result m)) c.ipv6_mask.ensures)
    (xor_lt 128 c.read_u128.result (ipv6_mask c.args.tx.now) (below 16 c.args.value.now c.read_u128.result c.type_inv.value number_is) mask_fits)

pub returns-clause-ip : goal.returns-clause-ip
returns-clause-ip c =
    masked_is 16 c.args.value.now (ipv6_mask c.args.tx.now) c.read_u128.result c.to_be_bytes.result (c.read_u128.ensures ∙ ap (big_number 16) c.split_at.ensures.back)
    (c.to_be_bytes.ensures ∙ ap (λ (m : ℕ). bytes_high_first 16 (bit_xor c.read_u128.result m)) c.ipv6_mask.ensures)
