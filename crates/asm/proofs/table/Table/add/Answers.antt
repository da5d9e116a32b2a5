use Rattle.std.proofs.Common.{refl, ap, ◌∙◌, ◌+◌}
use Rattle.std.specs.Prelude.{min}
use Rattle.insn.specs.declared.decoding.TheConstants.{MAX_SLOTS}
use Rattle.asm.proofs.Tables.{nothing_added, insn_added}
use Rattle.asm.proofs.table.Table.add.Goals as goal

pub returns-in-Empty : goal.returns-in-Empty
returns-in-Empty c said holds = rw c.in-Empty.is (nothing_added c.args.self.now said holds, tt)

pub returns-in-Insn : goal.returns-in-Insn
returns-in-Insn c said holds = rw c.in-Insn.is
    (insn_added c.args.self.now _ said c.in-Insn.insn _ holds refl (c.min-self.ensures ∙ ap (λ k. min (c.args.self.now.slots + k) (MAX_SLOTS + 1)) c.slots.ensures), tt)
