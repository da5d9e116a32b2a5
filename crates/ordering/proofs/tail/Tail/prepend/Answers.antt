use Rattle.std.proofs.Common.{◌+◌, ap, ◌∙◌, arith}
use Rattle.std.specs.Prelude.{reverse}
use Rattle.ordering.proofs.Backs.{grown, reverse_push}
use Rattle.ordering.proofs.tail.Tail.prepend.Goals as goal

pub returns-clause-tail : goal.returns-clause-tail
returns-clause-tail c =
    grown c.args.self.now (record { back = c.push.new.self; slots = c.args.self.now.slots + c.slots-2.result }) c.args.insn c.requires.tail c.requires.fits c.requires.lands
    (ap reverse c.in_ok-push.ensures.items ∙ reverse_push c.args.self.now.back.items c.args.insn)
    (omega (arith, c.slots-2.ensures))
    (omega (arith, c.slots.ensures, c.slots-2.ensures))
