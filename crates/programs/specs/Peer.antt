-- Interface. The instructions of the program of the peers' side. tests/shipped.py makes this file.
use Rattle.std.specs.Prelude.{List, [], ◌∷◌, pos, negsuc}
use Rattle.insn.specs.declared.condition.Condition.TheVariants.{Eq, Ne, Gt, Lt}
use Rattle.insn.specs.declared.instruction.Insn.{Insn}
use Rattle.insn.specs.declared.instruction.Insn.TheVariants.{Alu, Mov, Swap, Jump, JumpIf, Load, LoadImm, Store, Call, Exit}
use Rattle.insn.specs.declared.instruction.Operand.TheVariants.{Reg, Imm}
use Rattle.insn.specs.declared.operator.AluOp.TheVariants.{Add, Rsh, Lsh, Xor}
use Rattle.insn.specs.declared.operator.SwapOp.TheVariants.{ToBig}
use Rattle.insn.specs.declared.register.Reg.TheVariants.{R0, R1, R2, R3, R4, R5, R6, R7, R8, R9, R10}
use Rattle.insn.specs.declared.size.Size.TheVariants.{Byte, Half, Word, Double}
use Rattle.insn.specs.declared.size.SwapSize.TheVariants as swap
use Rattle.insn.specs.declared.width.Width.TheVariants.{W64}

abbrev pub peer_program : List Insn
peer_program =
    Mov W64 R6 (Reg R1)
    ∷ Load Double R7 R1 (pos 24)
    ∷ JumpIf W64 Ne R7 (Imm (pos 0)) (pos 50)
    ∷ Load Double R7 R1 (pos 48)
    ∷ Store Double R10 (Reg R7) (negsuc 23)
    ∷ Load Double R2 R1 (pos 56)
    ∷ Store Double R10 (Reg R2) (negsuc 15)
    ∷ Load Word R2 R1 (pos 64)
    ∷ Store Word R10 (Reg R2) (negsuc 7)
    ∷ Mov W64 R2 (Reg R10)
    ∷ Alu W64 Add R2 (Imm (negsuc 23))
    ∷ Call (pos 8)
    ∷ JumpIf W64 Eq R0 (Imm (pos 0)) (pos 98)
    ∷ Mov W64 R1 (Reg R6)
    ∷ Mov W64 R2 (Reg R10)
    ∷ Alu W64 Add R2 (Imm (negsuc 23))
    ∷ Call (pos 7)
    ∷ Load Double R9 R6 (pos 0)
    ∷ Load Double R8 R6 (pos 16)
    ∷ JumpIf W64 Ne R0 (Imm (pos 0)) (pos 45)
    ∷ JumpIf W64 Gt R8 (Imm (pos 65456)) (pos 91)
    ∷ Mov W64 R3 (Reg R8)
    ∷ Alu W64 Add R3 (Imm (pos 3))
    ∷ Alu W64 Rsh R3 (Imm (pos 2))
    ∷ Alu W64 Lsh R3 (Imm (pos 2))
    ∷ Store Half R9 (Imm (pos 5888)) (negsuc 47)
    ∷ Mov W64 R2 (Reg R3)
    ∷ Alu W64 Add R2 (Imm (pos 28))
    ∷ Swap ToBig swap.Half R2
    ∷ Store Half R9 (Reg R2) (negsuc 45)
    ∷ Store Word R9 (Imm (pos 1118048801)) (negsuc 43)
    ∷ Load Double R2 R6 (pos 32)
    ∷ Store Double R9 (Reg R2) (negsuc 39)
    ∷ Load Word R4 R6 (pos 40)
    ∷ Store Word R9 (Reg R4) (negsuc 31)
    ∷ Store Word R9 (Imm (pos 335548928)) (negsuc 27)
    ∷ LoadImm R5 4801983035931164672
    ∷ Alu W64 Xor R7 (Reg R5)
    ∷ Store Double R9 (Reg R7) (negsuc 23)
    ∷ Load Double R5 R6 (pos 56)
    ∷ Alu W64 Xor R5 (Reg R2)
    ∷ Store Double R9 (Reg R5) (negsuc 15)
    ∷ Load Word R5 R6 (pos 64)
    ∷ Alu W64 Xor R5 (Reg R4)
    ∷ Store Word R9 (Reg R5) (negsuc 7)
    ∷ Store Half R9 (Imm (pos 4864)) (negsuc 3)
    ∷ Mov W64 R2 (Reg R8)
    ∷ Swap ToBig swap.Half R2
    ∷ Store Half R9 (Reg R2) (negsuc 1)
    ∷ Mov W64 R2 (Imm (pos 16))
    ∷ Alu W64 Add R3 (Imm (pos 48))
    ∷ Jump (pos 55)
    ∷ Store Double R10 (Reg R7) (negsuc 7)
    ∷ Mov W64 R2 (Reg R10)
    ∷ Alu W64 Add R2 (Imm (negsuc 7))
    ∷ Call (pos 3)
    ∷ JumpIf W64 Eq R0 (Imm (pos 0)) (pos 53)
    ∷ Mov W64 R1 (Reg R6)
    ∷ Mov W64 R2 (Reg R10)
    ∷ Alu W64 Add R2 (Imm (negsuc 7))
    ∷ Call (pos 2)
    ∷ Load Double R9 R6 (pos 0)
    ∷ Load Double R8 R6 (pos 16)
    ∷ JumpIf W64 Eq R0 (Imm (pos 0)) (pos 10)
    ∷ JumpIf W64 Gt R8 (Imm (pos 65503)) (pos 46)
    ∷ Swap ToBig swap.Half R0
    ∷ Store Half R9 (Reg R0) (negsuc 3)
    ∷ Mov W64 R2 (Reg R8)
    ∷ Swap ToBig swap.Half R2
    ∷ Store Half R9 (Reg R2) (negsuc 1)
    ∷ Mov W64 R2 (Imm (pos 60))
    ∷ Mov W64 R3 (Reg R8)
    ∷ Alu W64 Add R3 (Imm (pos 4))
    ∷ Jump (pos 33)
    ∷ JumpIf W64 Gt R8 (Imm (pos 65468)) (pos 36)
    ∷ Mov W64 R3 (Reg R8)
    ∷ Alu W64 Add R3 (Imm (pos 3))
    ∷ Alu W64 Rsh R3 (Imm (pos 2))
    ∷ Alu W64 Lsh R3 (Imm (pos 2))
    ∷ Store Half R9 (Imm (pos 5888)) (negsuc 35)
    ∷ Mov W64 R2 (Reg R3)
    ∷ Alu W64 Add R2 (Imm (pos 16))
    ∷ Swap ToBig swap.Half R2
    ∷ Store Half R9 (Reg R2) (negsuc 33)
    ∷ Store Word R9 (Imm (pos 1118048801)) (negsuc 31)
    ∷ Load Double R2 R6 (pos 32)
    ∷ Store Double R9 (Reg R2) (negsuc 27)
    ∷ Load Word R2 R6 (pos 40)
    ∷ Store Word R9 (Reg R2) (negsuc 19)
    ∷ Store Word R9 (Imm (pos 134222336)) (negsuc 15)
    ∷ Store Half R9 (Imm (pos 256)) (negsuc 11)
    ∷ Load Half R2 R10 (negsuc 5)
    ∷ Swap ToBig swap.Half R2
    ∷ Alu W64 Xor R2 (Imm (pos 8466))
    ∷ Swap ToBig swap.Half R2
    ∷ Store Half R9 (Reg R2) (negsuc 9)
    ∷ Load Word R2 R10 (negsuc 3)
    ∷ Swap ToBig swap.Word R2
    ∷ Alu W64 Xor R2 (Imm (pos 554869826))
    ∷ Swap ToBig swap.Word R2
    ∷ Store Word R9 (Reg R2) (negsuc 7)
    ∷ Store Half R9 (Imm (pos 4864)) (negsuc 3)
    ∷ Mov W64 R2 (Reg R8)
    ∷ Swap ToBig swap.Half R2
    ∷ Store Half R9 (Reg R2) (negsuc 1)
    ∷ Mov W64 R2 (Imm (pos 28))
    ∷ Alu W64 Add R3 (Imm (pos 36))
    ∷ Mov W64 R1 (Reg R6)
    ∷ Call (pos 4)
    ∷ Mov W64 R0 (Imm (pos 2))
    ∷ Exit
    ∷ Mov W64 R0 (Imm (pos 0))
    ∷ Exit
    ∷ []
