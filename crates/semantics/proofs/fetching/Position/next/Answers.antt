use Rattle.std.proofs.Common.{ℕ, ◌+◌, ap, ◌∙◌}
use Rattle.semantics.specs.laws.Slot.{slots_here}
use Rattle.semantics.proofs.fetching.Position.next.Goals as goal

pub returns-clause-slot : goal.returns-clause-slot
returns-clause-slot c i here =
    ap (λ (n : ℕ). c.args.self.slot + n) (c.slots.ensures ∙ slots_here c.args.code.now c.args.self c.requires.at i _ here c.requires.inside)
