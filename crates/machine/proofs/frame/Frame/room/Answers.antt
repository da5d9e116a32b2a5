use Rattle.std.proofs.Common.{length, drop, sym, ap, ◌∙◌, arith}
use Rattle.semantics.specs.declared.limits.TheConstants.{MAX_DATAGRAM}
use Rattle.flat.specs.declared.layout.TheConstants.{HEADROOM_INDEX}
use Rattle.machine.specs.Contents.{room_of}
use Rattle.machine.proofs.Frames.{datagram_length}
use Rattle.machine.proofs.frame.Frame.room.Goals as goal

pub returns-clause-len : goal.returns-clause-len
returns-clause-len c = sym (ap (λ f. length (room_of f)) c.self.view_is) ∙ datagram_length (drop HEADROOM_INDEX c.self.inside.flat.items) MAX_DATAGRAM c.self.invariant.holds.long (omega arith)
