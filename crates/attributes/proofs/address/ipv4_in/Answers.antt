use Rattle.std.proofs.Common.{ap, ◌∙◌, arith}
use Rattle.std.proofs.lemmas.Nat.{xor_lt}
use Rattle.stun.specs.Endian.{big_number}
use Rattle.stun.specs.Registry.{magic_cookie}
use Rattle.attributes.proofs.Masks.{masked_back, masked_is, below}
use Rattle.attributes.proofs.address.ipv4_in.Goals as goal

pub returns-clause-spelled : goal.returns-clause-spelled
returns-clause-spelled c =
    let number_is = c.read_u32.ensures ∙ ap (big_number 4) c.split_at.ensures.back in
    masked_back 4 c.args.value.now magic_cookie c.read_u32.result c.to_be_bytes.result c.requires c.type_inv.value number_is c.to_be_bytes.ensures (xor_lt 32 c.read_u32.result magic_cookie (below 4 c.args.value.now c.read_u32.result c.type_inv.value number_is) (omega arith))

pub returns-clause-ip : goal.returns-clause-ip
returns-clause-ip c = masked_is 4 c.args.value.now magic_cookie c.read_u32.result c.to_be_bytes.result (c.read_u32.ensures ∙ ap (big_number 4) c.split_at.ensures.back) c.to_be_bytes.ensures
