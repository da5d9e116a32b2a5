use Rattle.std.proofs.Common.{◌≡◌, sym, ap, ◌∙◌, subst}
use denote.Memory.{lone}
use Rattle.verifier.specs.Keeping.{kept_at}
use Rattle.verifier.specs.Searches.{HasPassed}
use Rattle.verifier.specs.declared.kept.KeptStates.{KeptStates}
use Rattle.verifier.specs.declared.walk.Pending.{Pending}
use Rattle.verifier.proofs.Sizes.{pending_fits}
use Rattle.verifier.proofs.slices.is_covered.Goals as goal

pub search-requires : goal.search-requires
search-requires g c =
    let here : c.deref.result.now ≡ c.args.at.now.here.value = c.deref.ensures ∙ ap (λ (b : _). b.value) c.loop-passed.invariant.here in (
      pending_fits (lone g.row.D.mir) g.met.D.Domain.small,
      subst (λ (p : Pending g.row.D.Denot). HasPassed g.D.Domain.ops (kept_at c.loop-passed.at.kept p.slot) c.loop-passed.at.passed p.state) (sym here)
          (subst (λ (k : KeptStates g.row.D.Denot). HasPassed g.D.Domain.ops (kept_at k c.args.at.now.here.value.slot) c.loop-passed.at.passed c.args.at.now.here.value.state) (sym c.loop-passed.invariant.kept) c.loop-passed.invariant.has_passed),
    )
