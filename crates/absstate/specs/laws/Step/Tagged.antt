-- Internal. What every tagged state keeps: after the changes of a step, and in a loosening by proper values.
use Rattle.std.proofs.Common.{◌≡◌, ℕ, List, sym, ◌∙◌, subst, arith, ◌<◌}
use Rattle.std.proofs.lemmas.List.{length-set, get_or-set_same}
use Rattle.std.proofs.lemmas.List.Elements.{All-set}
use Rattle.insn.specs.Encoding.{Fits}
use Rattle.insn.specs.Register.{number_of}
use Rattle.insn.specs.declared.instruction.Insn.{Insn}
use Rattle.insn.specs.declared.register.Reg.{Reg}
use Rattle.semantics.specs.Effects.{value_at}
use Rattle.semantics.specs.Kept.{IsMemory, IsKept, IsProper, IsTagged}
use Rattle.semantics.specs.laws.Kept.{in_eleven, step_keeps}
use Rattle.semantics.specs.LooseRuns.{SameKind}
use Rattle.semantics.specs.Machine.{Memory, State, Environment}
use Rattle.semantics.specs.Runs.{Goes, IsPossible, memory_with_pointer, step, registers_with}
use Rattle.semantics.specs.declared.limits.TheConstants.{GROUPS}
use Rattle.semantics.specs.Slots.{fetch}
use Rattle.semantics.specs.declared.fetching.Fetched.TheVariants.{Begins}
use Rattle.semantics.specs.declared.plan.Plan.{Plan}
use Rattle.semantics.specs.declared.value.Value.{Value}
use Rattle.semantics.specs.declared.value.Value.TheVariants as value

-- a register holds a proper value
pub register_proper : (s : State) (r : Reg) → IsTagged s → IsProper (value_at s.registers r)
register_proper s r is = is.registers (number_of r) value.Nothing (omega (arith, in_eleven r, is.count))

-- a proper value is written to a register
pub register_tagged : (s : State) (r : Reg) (v : Value) (slot : ℕ) → IsProper v → IsTagged s → IsTagged (record s { slot = slot; registers = registers_with s r v })
register_tagged s r v slot proper is = record {
  count = length-set s.registers (number_of r) v ∙ is.count;
  registers = All-set IsProper s.registers (number_of r) v proper is.registers;
  memory = is.memory;
}

-- memory is replaced
pub memory_tagged : (s : State) (m : Memory) (slot : ℕ) (plan : Plan) → IsMemory m → IsTagged s → IsTagged (record s { slot = slot; memory = m; plan = plan })
memory_tagged s m slot plan memory is = record { count = is.count; registers = is.registers; memory = memory }

-- a step writes a proper value
pub written_proper : (w : Environment) (code : List Insn) (s : State) (i : Insn) (r : Reg) (v : Value) (slot : ℕ) → IsPossible w → fetch code s.slot ≡ Begins i → Fits i → IsTagged s
    → step w code s ≡ Goes (record s { slot = slot; registers = registers_with s r v }) → IsProper v
written_proper w code s i r v slot real here fit is goes =
    let next : State = record s { slot = slot; registers = registers_with s r v } in
    subst IsProper (get_or-set_same s.registers (number_of r) v value.Nothing (omega (arith, in_eleven r, is.count)))
    (register_proper next r (step_keeps w code s next i real here fit is goes))

-- a step stores a pointer, or what is no number
pub stored_kept : (w : Environment) (code : List Insn) (s : State) (i : Insn) (g : ℕ) (v : Value) (slot : ℕ) → IsPossible w → fetch code s.slot ≡ Begins i → Fits i → IsTagged s → g < GROUPS
    → step w code s ≡ Goes (record s { slot = slot; memory = memory_with_pointer s.memory g v }) → IsKept v
stored_kept w code s i g v slot real here fit is lt goes =
    let next : State = record s { slot = slot; memory = memory_with_pointer s.memory g v } in
    let after : IsTagged next = step_keeps w code s next i real here fit is goes in
    subst IsKept (get_or-set_same s.memory.stack.groups g v value.Nothing (omega (arith, lt, is.memory.groups_count))) (after.memory.groups g value.Nothing (omega (arith, lt, after.memory.groups_count)))

-- a value that differs from a proper one at most in its number, a word, is proper
pub same_kind_proper : (u v : Value) → SameKind u v → IsProper u → IsProper v
same_kind_proper value.Nothing v same proper = subst IsProper (sym same) proper
same_kind_proper (value.Scalar n) v same proper = subst IsProper (sym same.2) same.1
same_kind_proper value.Ctx v same proper = subst IsProper (sym same) proper
same_kind_proper (value.Stack k) v same proper = subst IsProper (sym same) proper
same_kind_proper (value.Data k) v same proper = subst IsProper (sym same) proper
same_kind_proper value.End v same proper = subst IsProper (sym same) proper
