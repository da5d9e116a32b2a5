use Rattle.std.proofs.Common.{arith}
use Rattle.stun.proofs.Writing.{appended}
use Rattle.stun.proofs.buffer.append.Goals as goal

pub returns-clause-building : goal.returns-clause-building
returns-clause-building g c =
    (appended c.args.buffer.now _ c.write_number.new.buffer c.args.kind (g.V.AttributeValue.bytes c.args.value.now) _ _ _ _ c.requires.building (omega (arith, c.ranges.kind.fits)) c.len-length.ensures c.padding_bytes.ensures c.length_in-before.ensures
    c.write_attribute.ensures c.write_number.ensures (omega arith) c.requires.room).0

pub returns-clause-appended : goal.returns-clause-appended
returns-clause-appended g c =
    (appended c.args.buffer.now _ c.write_number.new.buffer c.args.kind (g.V.AttributeValue.bytes c.args.value.now) _ _ _ _ c.requires.building (omega (arith, c.ranges.kind.fits)) c.len-length.ensures c.padding_bytes.ensures c.length_in-before.ensures
    c.write_attribute.ensures c.write_number.ensures (omega arith) c.requires.room).1
