use Rattle.std.proofs.Common.{◌≡◌, sym, ap, ◌∙◌, subst}
use Rattle.verifier.specs.Keeping.{kept_at, HasCover}
use Rattle.verifier.specs.declared.kept.KeptStates.{KeptStates}
use Rattle.verifier.specs.declared.walk.Pending.{Pending}
use Rattle.verifier.proofs.Slicing.{unit_ends}
use Rattle.verifier.proofs.slices.step_next.Goals as goal

pub returns-in-Ended-clause-ended : goal.returns-in-Ended-clause-ended
returns-in-Ended-clause-ended g c =
    unit_ends g.D.Domain.ops g.D.Domain.Member c.args.program.now c.args.budget c.args.at.now c.requires.pauses c.requires.within c.args.steps.now (sym c.take_next.ensures.waits ∙ c.take_next.ensures.none c.in-Ended.is)

pub settle-requires-clause-members : goal.settle-requires-clause-members
settle-requires-clause-members g c = λ covered.
    let here : c.is_covered-covered.new.at.here.value ≡ c.take_next.new.at.here.value = ap (λ (b : _). b.value) c.is_covered-covered.ensures.here in
    subst (λ (p : Pending g.row.D.Denot). HasCover g.D.Domain.Member (kept_at c.is_covered-covered.new.at.kept p.slot) p.state) (sym here)
    (subst (λ (k : KeptStates g.row.D.Denot). HasCover g.D.Domain.Member (kept_at k c.take_next.new.at.here.value.slot) c.take_next.new.at.here.value.state) (sym c.is_covered-covered.ensures.kept) (c.is_covered-covered.ensures.members covered))
