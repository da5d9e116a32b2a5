use Rattle.std.proofs.Common.{rules}
use Rattle.insn.proofs.decoding.second_slot.Goals as goal

pub returns-then-rest-lt-SLOT_BYTES-clause-found : goal.returns-then-rest-lt-SLOT_BYTES-clause-found
returns-then-rest-lt-SLOT_BYTES-clause-found c = search rules
