use Rattle.std.proofs.Common.{◌≡◌, sym, ◌∙◌, arith}
use Rattle.insn.specs.Encoding.{slots_of}
use Rattle.verifier.proofs.Slots.{put_one, put_two, has_two}
use Rattle.verifier.proofs.layout.put_slots.Goals as goal

pub returns-then-slots-eq1-clause-put : goal.returns-then-slots-eq1-clause-put
returns-then-slots-eq1-clause-put c = λ code is lists.
    let one : slots_of c.args.insn ≡ 1 = sym c.slots.ensures ∙ c.if-slots-eq1.true in
    put_one code c.args.insn c.args.slots.now c.args.at one is (omega (arith, c.requires, one)) lists

pub returns-clause-put : goal.returns-clause-put
returns-clause-put c = λ code is lists.
    let two : slots_of c.args.insn ≡ 2 = has_two c.args.insn (λ one. c.if-slots-eq1.false (c.slots.ensures ∙ one)) in
    put_two code c.args.insn c.args.slots.now c.args.at two is (omega (arith, c.requires, two)) lists
