use Rattle.std.proofs.Common.{arith}
use Rattle.insn.proofs.Slots.{slot_is}
use Rattle.insn.proofs.fields.read_slot.Goals as goal

pub returns-clause-bytes : goal.returns-clause-bytes
returns-clause-bytes c =
    slot_is c.args.bytes.now _ _ _ _ c.requires (λ k. omega (arith, c.type_inv.bytes k)) c.split_at.ensures.back c.split_at-2.ensures.back c.read_i16.ensures c.read_i32.ensures
