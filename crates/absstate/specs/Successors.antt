-- Interface. The number of successors of an instruction: one, two at a conditional jump, none at an exit.
use Rattle.insn.specs.declared.instruction.Insn.{Insn}
use Rattle.semantics.specs.Flow.{Flow, Straight, Jumps, Forks, flow_of}
use Rattle.semantics.specs.Flow as flow
use Rattle.absstate.specs.declared.abstract_step.Next.{Next}
use Rattle.absstate.specs.declared.abstract_step.Next.TheVariants as next

pub data Successors : Type 0 where
  One : Successors
  Two : Successors
  Ends : Successors

abbrev pub flow_successors : Flow → Successors
flow_successors Straight = One
flow_successors (Jumps distance) = One
flow_successors (Forks distance) = Two
flow_successors flow.Ends = Ends

abbrev pub successors_of : Insn → Successors
successors_of i = flow_successors (flow_of i)

abbrev pub successors_in : {D : Type 0} → Next D → Successors
successors_in (next.On state) = One
successors_in (next.Fork not_taken taken) = Two
successors_in next.Exit = Ends
