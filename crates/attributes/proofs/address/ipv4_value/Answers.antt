use Rattle.std.proofs.Common.{arith}
use Rattle.stun.specs.Registry.{magic_cookie}
use Rattle.attributes.proofs.Addresses.{value_written}
use Rattle.attributes.proofs.address.ipv4_value.Goals as goal

pub returns : goal.returns
returns c = value_written 4 c.read_u32.result magic_cookie c.write_front.new.front _ c.write_u32.new.buf c.split_at_mut-front.result.1.now c.args.ip.now c.write_front.ensures c.write_u32.ensures (omega (arith, c.split_at_mut-front.ensures.back_len)) c.read_u32.ensures
