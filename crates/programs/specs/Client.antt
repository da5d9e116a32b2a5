-- Interface. The instructions of the program of the client's side. tests/shipped.py makes this file.
use Rattle.std.specs.Prelude.{List, [], ◌∷◌, pos, negsuc}
use Rattle.insn.specs.declared.condition.Condition.TheVariants.{Eq, Ne, Gt, Lt}
use Rattle.insn.specs.declared.instruction.Insn.{Insn}
use Rattle.insn.specs.declared.instruction.Insn.TheVariants.{Alu, Mov, Swap, Jump, JumpIf, Load, LoadImm, Store, Call, Exit}
use Rattle.insn.specs.declared.instruction.Operand.TheVariants.{Reg, Imm}
use Rattle.insn.specs.declared.operator.AluOp.TheVariants.{Add, Rsh, Lsh, Xor}
use Rattle.insn.specs.declared.operator.SwapOp.TheVariants.{ToBig}
use Rattle.insn.specs.declared.register.Reg.TheVariants.{R0, R1, R2, R3, R4, R5, R6, R7, R8, R9, R10}
use Rattle.insn.specs.declared.size.Size.TheVariants.{Byte, Half, Word, Double}
use Rattle.insn.specs.declared.size.SwapSize.TheVariants as swap
use Rattle.insn.specs.declared.width.Width.TheVariants.{W64}

abbrev pub client_program : List Insn
client_program =
    Mov W64 R6 (Reg R1)
    ∷ Load Double R2 R1 (pos 0)
    ∷ Load Double R3 R1 (pos 8)
    ∷ Load Double R9 R1 (pos 16)
    ∷ Mov W64 R0 (Imm (pos 0))
    ∷ Mov W64 R4 (Reg R2)
    ∷ Alu W64 Add R4 (Imm (pos 1))
    ∷ JumpIf W64 Gt R4 (Reg R3) (pos 110)
    ∷ Load Byte R5 R2 (pos 0)
    ∷ JumpIf W64 Lt R5 (Imm (pos 64)) (pos 34)
    ∷ JumpIf W64 Gt R5 (Imm (pos 127)) (pos 107)
    ∷ Mov W64 R4 (Reg R2)
    ∷ Alu W64 Add R4 (Imm (pos 4))
    ∷ JumpIf W64 Gt R4 (Reg R3) (pos 104)
    ∷ Load Half R7 R2 (pos 0)
    ∷ Swap ToBig swap.Half R7
    ∷ Load Half R8 R2 (pos 2)
    ∷ Swap ToBig swap.Half R8
    ∷ Mov W64 R4 (Reg R8)
    ∷ Alu W64 Add R4 (Imm (pos 4))
    ∷ JumpIf W64 Gt R4 (Reg R9) (pos 97)
    ∷ Mov W64 R2 (Reg R7)
    ∷ Mov W64 R3 (Reg R10)
    ∷ Alu W64 Add R3 (Imm (negsuc 7))
    ∷ Call (pos 1)
    ∷ JumpIf W64 Eq R0 (Imm (pos 0)) (pos 2)
    ∷ Mov W64 R7 (Imm (pos 68))
    ∷ Jump (pos 79)
    ∷ Mov W64 R1 (Reg R6)
    ∷ Mov W64 R2 (Reg R7)
    ∷ Mov W64 R3 (Reg R10)
    ∷ Alu W64 Add R3 (Imm (negsuc 23))
    ∷ Call (pos 6)
    ∷ JumpIf W64 Eq R0 (Imm (pos 0)) (pos 84)
    ∷ Mov W64 R1 (Reg R6)
    ∷ Mov W64 R2 (Imm (pos 68))
    ∷ Mov W64 R3 (Reg R8)
    ∷ Call (pos 4)
    ∷ Mov W64 R1 (Reg R6)
    ∷ Mov W64 R2 (Reg R10)
    ∷ Alu W64 Add R2 (Imm (negsuc 23))
    ∷ Call (pos 9)
    ∷ Mov W64 R0 (Imm (pos 2))
    ∷ Exit
    ∷ Mov W64 R4 (Reg R2)
    ∷ Alu W64 Add R4 (Imm (pos 36))
    ∷ JumpIf W64 Gt R4 (Reg R3) (pos 70)
    ∷ Load Half R5 R2 (pos 0)
    ∷ JumpIf W64 Ne R5 (Imm (pos 5632)) (pos 68)
    ∷ Load Word R5 R2 (pos 4)
    ∷ JumpIf W64 Ne R5 (Imm (pos 1118048801)) (pos 66)
    ∷ Load Half R5 R2 (pos 2)
    ∷ Swap ToBig swap.Half R5
    ∷ Alu W64 Add R5 (Imm (pos 20))
    ∷ JumpIf W64 Ne R5 (Reg R9) (pos 62)
    ∷ Load Word R5 R2 (pos 20)
    ∷ JumpIf W64 Ne R5 (Imm (pos 134222336)) (pos 13)
    ∷ Load Half R5 R2 (pos 32)
    ∷ JumpIf W64 Ne R5 (Imm (pos 4864)) (pos 58)
    ∷ Load Half R8 R2 (pos 34)
    ∷ Swap ToBig swap.Half R8
    ∷ Mov W64 R4 (Reg R8)
    ∷ Alu W64 Add R4 (Imm (pos 3))
    ∷ Alu W64 Rsh R4 (Imm (pos 2))
    ∷ Alu W64 Lsh R4 (Imm (pos 2))
    ∷ Alu W64 Add R4 (Imm (pos 36))
    ∷ JumpIf W64 Ne R4 (Reg R9) (pos 50)
    ∷ Mov W64 R7 (Imm (pos 100))
    ∷ Alu W64 Add R2 (Imm (pos 24))
    ∷ Jump (pos 19)
    ∷ Load Half R5 R2 (pos 20)
    ∷ JumpIf W64 Ne R5 (Imm (pos 4864)) (pos 45)
    ∷ Load Half R8 R2 (pos 22)
    ∷ Swap ToBig swap.Half R8
    ∷ Mov W64 R4 (Reg R8)
    ∷ Alu W64 Add R4 (Imm (pos 3))
    ∷ Alu W64 Rsh R4 (Imm (pos 2))
    ∷ Alu W64 Lsh R4 (Imm (pos 2))
    ∷ Mov W64 R5 (Reg R4)
    ∷ Alu W64 Add R5 (Imm (pos 36))
    ∷ JumpIf W64 Ne R5 (Reg R9) (pos 36)
    ∷ Alu W64 Add R2 (Reg R4)
    ∷ Mov W64 R5 (Reg R2)
    ∷ Alu W64 Add R5 (Imm (pos 36))
    ∷ JumpIf W64 Gt R5 (Reg R3) (pos 32)
    ∷ Load Word R5 R2 (pos 24)
    ∷ JumpIf W64 Ne R5 (Imm (pos 134222336)) (pos 30)
    ∷ Mov W64 R7 (Imm (pos 88))
    ∷ Alu W64 Add R2 (Imm (pos 28))
    ∷ Load Byte R4 R2 (pos 1)
    ∷ JumpIf W64 Ne R4 (Imm (pos 1)) (pos 27)
    ∷ Store Half R10 (Imm (pos 256)) (negsuc 7)
    ∷ Load Half R4 R2 (pos 2)
    ∷ Swap ToBig swap.Half R4
    ∷ Alu W64 Xor R4 (Imm (pos 8466))
    ∷ Swap ToBig swap.Half R4
    ∷ Store Half R10 (Reg R4) (negsuc 5)
    ∷ Load Word R4 R2 (pos 4)
    ∷ Swap ToBig swap.Word R4
    ∷ Alu W64 Xor R4 (Imm (pos 554869826))
    ∷ Swap ToBig swap.Word R4
    ∷ Store Word R10 (Reg R4) (negsuc 3)
    ∷ Mov W64 R1 (Reg R6)
    ∷ Mov W64 R2 (Reg R10)
    ∷ Alu W64 Add R2 (Imm (negsuc 7))
    ∷ Call (pos 3)
    ∷ JumpIf W64 Eq R0 (Imm (pos 0)) (pos 11)
    ∷ Mov W64 R1 (Reg R6)
    ∷ Mov W64 R2 (Reg R7)
    ∷ Mov W64 R3 (Reg R8)
    ∷ Call (pos 4)
    ∷ Mov W64 R1 (Reg R6)
    ∷ Mov W64 R2 (Reg R10)
    ∷ Alu W64 Add R2 (Imm (negsuc 7))
    ∷ Call (pos 5)
    ∷ Mov W64 R0 (Imm (pos 2))
    ∷ Exit
    ∷ Mov W64 R0 (Imm (pos 1))
    ∷ Exit
    ∷ []
