use Rattle.std.proofs.Common.{arith}
use Rattle.stun.proofs.Writing.{used_is, room_of_length}
use Rattle.stun.proofs.buffer.has_room.Goals as goal

pub returns-then-end-le-MAX_MESSAGE : goal.returns-then-end-le-MAX_MESSAGE
returns-then-end-le-MAX_MESSAGE g c = grind (arith, used_is, room_of_length)
