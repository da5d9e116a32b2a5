use Rattle.std.proofs.Common.{◌≡◌, ◌/◌, ◌%◌, ◌∙◌, sym, rules}
use Rattle.insn.specs.declared.opcode.OperandSource.TheVariants as source
use Rattle.insn.proofs.Slots.{neither_bit}
use Rattle.insn.proofs.Tables.{none_is_not_some}
use Rattle.insn.proofs.opcode.Opcode.operator_of.Goals as goal

-- the source bit is 0 or 1
pub returns-in_err-source-clause-only : goal.returns-in_err-source-clause-only
returns-in_err-source-clause-only c o e =
    let imm : 0 ≡ c.args.byte / 8 % 2 → ⊥ = λ is. none_is_not_some source.Imm (sym c.in_err-source.was ∙ c.from_bit.ensures.only source.Imm is) in
    let reg : 1 ≡ c.args.byte / 8 % 2 → ⊥ = λ is. none_is_not_some source.Reg (sym c.in_err-source.was ∙ c.from_bit.ensures.only source.Reg is) in
    absurd (neither_bit (c.args.byte / 8) imm reg)

pub returns-in-11-clause-only : goal.returns-in-11-clause-only
returns-in-11-clause-only c = search rules
