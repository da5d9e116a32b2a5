use Rattle.std.proofs.Common.{inl, inr, refl}
use Rattle.std.proofs.lemmas.Result.{err_from_is_err_and}
use denote.Memory.{lone}
use Rattle.verifier.proofs.Branches.{jumps_inside}
use Rattle.verifier.proofs.Sizes.{state_fits}
use Rattle.verifier.proofs.Slicing.{start_verdict}
use Rattle.verifier.proofs.slices.Walk.new.Goals as goal
use Rattle.verifier.specs.declared.refusal.Refusal.TheVariants as refusal

pub new-requires-clause-inside : goal.new-requires-clause-inside
new-requires-clause-inside g c = jumps_inside c.args.code.now c.requires c.in_ok-check_layout.ensures.ok.jumps

pub start-requires : goal.start-requires
start-requires g c = state_fits (lone g.row.D.mir) g.met.D.Domain.small

pub returns-in_err-check_layout-clause-verdict : goal.returns-in_err-check_layout-clause-verdict
returns-in_err-check_layout-clause-verdict g c =
    let p = err_from_is_err_and c.from_residual.result c.from_residual.ensures.1 in
    rw (p.1, p.2) (start_verdict g.D.Domain.ops g.D.Domain.Member c.args.code.now c.args.budget c.in_err-check_layout.field-0.0 (inl c.in_err-check_layout.ensures.err))

pub returns-in_default-clause-verdict : goal.returns-in_default-clause-verdict
returns-in_default-clause-verdict g c = start_verdict g.D.Domain.ops g.D.Domain.Member c.args.code.now c.args.budget (refusal.Memory 0) (inr (refl, c.in_ok-check_layout.ensures.ok))

pub returns-in_default-new-clause-verdict : goal.returns-in_default-new-clause-verdict
returns-in_default-new-clause-verdict g c = start_verdict g.D.Domain.ops g.D.Domain.Member c.args.code.now c.args.budget (refusal.Memory 0) (inr (refl, c.in_ok-check_layout.ensures.ok))

pub returns-in_default-new-2-clause-verdict : goal.returns-in_default-new-2-clause-verdict
returns-in_default-new-2-clause-verdict g c = start_verdict g.D.Domain.ops g.D.Domain.Member c.args.code.now c.args.budget (refusal.Memory 0) (inr (refl, c.in_ok-check_layout.ensures.ok))

pub returns-in_default-with_capacity-clause-verdict : goal.returns-in_default-with_capacity-clause-verdict
returns-in_default-with_capacity-clause-verdict g c = start_verdict g.D.Domain.ops g.D.Domain.Member c.args.code.now c.args.budget (refusal.Memory 0) (inr (refl, c.in_ok-check_layout.ensures.ok))
