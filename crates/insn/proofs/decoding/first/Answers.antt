use Rattle.insn.proofs.Programs.{refused_slot}
use Rattle.insn.proofs.decoding.first.Goals as goal

pub returns-clause-refused : goal.returns-clause-refused
returns-clause-refused c =
    refused_slot c.args.bytes.now c.split_at.result.1.now c.read_slot-fields.result c.requires c.read_slot-fields.ensures.room c.read_slot-fields.ensures.bytes c.split_at.ensures.back
    c.in_ok-head.head c.in_ok-head.ensures.found c.typed.result c.typed.ensures.refused
