use Rattle.std.proofs.Common.{refl}
use Rattle.stun.proofs.Writing.{ended}
use Rattle.stun.proofs.building.Builder.finish.Goals as goal

pub returns-clause-size : goal.returns-clause-size
returns-clause-size c = (ended c.args.self.buffer.now c.written.result.now c.args.self.building c.written.ensures.bytes).0

pub returns-clause-bytes : goal.returns-clause-bytes
returns-clause-bytes c = (ended c.args.self.buffer.now c.written.result.now c.args.self.building c.written.ensures.bytes).1

pub returns-clause-message : goal.returns-clause-message
returns-clause-message c = (_, c.written.ensures.parts, (ended c.args.self.buffer.now c.written.result.now c.args.self.building c.written.ensures.bytes).1, refl)

pub returns-clause-inside : goal.returns-clause-inside
returns-clause-inside c = (ended c.args.self.buffer.now c.written.result.now c.args.self.building c.written.ensures.bytes).2
