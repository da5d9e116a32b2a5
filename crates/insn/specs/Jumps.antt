-- Meaning. The distances of jumps (RFC 9669, section 4.3).
use Rattle.std.specs.Prelude.{ℤ}
use Rattle.insn.specs.declared.instruction.Insn.{Insn}
use Rattle.insn.specs.declared.instruction.Insn.TheVariants.{Jump, LongJump, JumpIf}

-- an instruction, with this distance in place of its own if it is a jump
abbrev pub with_distance : Insn → ℤ → Insn
with_distance (Jump d) distance = Jump distance
with_distance (LongJump d) distance = LongJump distance
with_distance (JumpIf width condition dst o d) distance = JumpIf width condition dst o distance
with_distance i distance = i
