-- Meaning. The reasons for which a step on a path is refused: all but those of the layout.
use Rattle.insn.specs.declared.instruction.Insn.{Insn}
use Rattle.insn.specs.declared.instruction.Insn.TheVariants as insn
use Rattle.insn.specs.declared.instruction.Operand.TheVariants as operand
use Rattle.insn.specs.declared.operator.AluOp.TheVariants.{Add, Sub}
use Rattle.insn.specs.declared.width.Width.TheVariants.{W64}
use Rattle.semantics.specs.declared.reason.Reason.{Reason}
use Rattle.semantics.specs.declared.reason.Reason.TheVariants as reasons

abbrev pub IsStepReason : Reason → Type 0
IsStepReason reasons.JumpBackward = ⊥
IsStepReason reasons.JumpOutside = ⊥
IsStepReason reasons.JumpIntoWide = ⊥
IsStepReason reasons.FallsOffEnd = ⊥
IsStepReason reasons.UninitRegister = Unit {0}
IsStepReason reasons.UninitStack = Unit {0}
IsStepReason reasons.WritesFramePointer = Unit {0}
IsStepReason reasons.StackBounds = Unit {0}
IsStepReason reasons.ContextAccess = Unit {0}
IsStepReason reasons.DatagramBounds = Unit {0}
IsStepReason reasons.PointerArithmetic = Unit {0}
IsStepReason reasons.PointerCompare = Unit {0}
IsStepReason reasons.PointerStored = Unit {0}
IsStepReason reasons.UnknownHelper = Unit {0}
IsStepReason (reasons.HelperArgument k) = Unit {0}
IsStepReason reasons.ExitNotScalar = Unit {0}
IsStepReason reasons.NotAPointer = Unit {0}
IsStepReason reasons.PointerBytes = Unit {0}

-- a register is added to another one, or subtracted from it, on 64 bits
abbrev pub IsRegisterSum : Insn → Type 0
IsRegisterSum (insn.Alu W64 Add dst (operand.Reg src)) = Unit {0}
IsRegisterSum (insn.Alu W64 Sub dst (operand.Reg src)) = Unit {0}
IsRegisterSum i = ⊥

-- a constant is added to a register, or subtracted from it, on 64 bits
abbrev pub IsConstantSum : Insn → Type 0
IsConstantSum (insn.Alu W64 Add dst (operand.Imm n)) = Unit {0}
IsConstantSum (insn.Alu W64 Sub dst (operand.Imm n)) = Unit {0}
IsConstantSum i = ⊥

-- The refusals of an instruction that speak of the places of pointers into the datagram: an access outside the datagram, and
-- a constant that leads too far.
abbrev pub IsAboutPlaces : Reason → Insn → Type 0
IsAboutPlaces reasons.JumpBackward i = ⊥
IsAboutPlaces reasons.JumpOutside i = ⊥
IsAboutPlaces reasons.JumpIntoWide i = ⊥
IsAboutPlaces reasons.FallsOffEnd i = ⊥
IsAboutPlaces reasons.UninitRegister i = ⊥
IsAboutPlaces reasons.UninitStack i = ⊥
IsAboutPlaces reasons.WritesFramePointer i = ⊥
IsAboutPlaces reasons.StackBounds i = ⊥
IsAboutPlaces reasons.ContextAccess i = ⊥
IsAboutPlaces reasons.DatagramBounds i = Unit {0}
IsAboutPlaces reasons.PointerArithmetic i = IsConstantSum i
IsAboutPlaces reasons.PointerCompare i = ⊥
IsAboutPlaces reasons.PointerStored i = ⊥
IsAboutPlaces reasons.UnknownHelper i = ⊥
IsAboutPlaces (reasons.HelperArgument k) i = ⊥
IsAboutPlaces reasons.ExitNotScalar i = ⊥
IsAboutPlaces reasons.NotAPointer i = ⊥
IsAboutPlaces reasons.PointerBytes i = ⊥
