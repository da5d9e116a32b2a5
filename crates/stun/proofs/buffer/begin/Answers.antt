use Rattle.std.proofs.Common.{rules}
use Rattle.stun.proofs.Writing.{begun}
use Rattle.stun.proofs.buffer.begin.Goals as goal

pub returns-clause-building : goal.returns-clause-building
returns-clause-building c = (begun c.args.buffer.now c.write_header.new.buffer c.args.kind c.args.tx.now c.requires (search rules) (search rules) c.write_header.ensures).0

pub returns-clause-begins : goal.returns-clause-begins
returns-clause-begins c = (begun c.args.buffer.now c.write_header.new.buffer c.args.kind c.args.tx.now c.requires (search rules) (search rules) c.write_header.ensures).1
