use Rattle.std.proofs.Common.{rules}
use Rattle.stun.proofs.Writing.{begun}
use Rattle.stun.proofs.building.Builder.with_header.Goals as goal

pub resume-requires : goal.resume-requires
resume-requires c = (begun c.args.buffer.now c.write_header.new.buffer c.args.kind c.args.tx c.requires.kind (search rules) c.requires.room c.write_header.ensures).0

pub returns-clause-begins : goal.returns-clause-begins
returns-clause-begins c = rw c.resume.ensures.bytes (begun c.args.buffer.now c.write_header.new.buffer c.args.kind c.args.tx c.requires.kind (search rules) c.requires.room c.write_header.ensures).1
