use Rattle.std.proofs.Common.{arith, rules, ◌≡◌, ◌≤◌, ◌*◌, ◌++◌, ◌∷◌, [], take, drop, length}
use Rattle.insn.specs.Encoding.{encoding, slots_of, Fits}
use Rattle.insn.proofs.TwoSlots.{slots_small}
use Rattle.insn.proofs.Programs.{HasRead-push, slots_of_bytes}
use Rattle.insn.proofs.decoding.instructions.Goals as goal

pub overflow_add-slot : goal.overflow_add-slot
overflow_add-slot c = omega (arith, slots_of_bytes _ _ _ _ c.loop-rest.invariant, c.slots.ensures, slots_small c.in_ok-insn.insn)

pub loop-rest-preserved : goal.loop-rest-preserved
loop-rest-preserved c =
    let read : Fits c.in_ok-insn.insn × (take (8 * slots_of c.in_ok-insn.insn) c.loop-rest.rest.now ≡ encoding c.in_ok-insn.insn) × (8 * slots_of c.in_ok-insn.insn ≤ length c.loop-rest.rest.now) = search rules in
    let pushed : c.push.new.self.items ≡ c.loop-rest.code.items ++ c.in_ok-insn.insn ∷ [] = search rules in
    let after : c.split_at.result.1.now ≡ drop (8 * slots_of c.in_ok-insn.insn) c.loop-rest.rest.now = search rules in
    let more = HasRead-push _ _ _ _ _ c.in_ok-insn.insn c.loop-rest.invariant read.0 read.1 after read.2 in
    rw (pushed, c.slots.ensures) more

pub returns-in_err-insn-clause-refused : goal.returns-in_err-insn-clause-refused
returns-in_err-insn-clause-refused c = search rules
