use Rattle.std.proofs.Common.{◌≡◌, None, Ok, [], refl, sym, ◌∙◌, rules, subst, append-nil}
use Rattle.insn.specs.Encoding.{Fits}
use Rattle.semantics.specs.laws.Slot.{begins_inside}
use Rattle.semantics.specs.declared.fetching.Branch.TheVariants.{NotTaken, Taken}
use denote.Memory.{lone}
use Rattle.absstate.specs.AbstractSteps.{abstract_step}
use Rattle.absstate.specs.Changes.{next_of}
use Rattle.absstate.specs.declared.change.Transition.{Transition}
use Rattle.verifier.specs.Walk.{GoesOn, state_to_follow}
use Rattle.verifier.proofs.Branches.{branch_is_good}
use Rattle.verifier.proofs.Walking.{advances}
use Rattle.verifier.proofs.Sizes.{state_fits, pending_fits}
use Rattle.verifier.proofs.walk.advance.Goals as goal

pub transition-requires : goal.transition-requires
transition-requires g c = state_fits (lone g.row.D.mir) g.met.D.Domain.small

pub push_branch-requires : goal.push_branch-requires
push_branch-requires g c = (
  pending_fits (lone g.row.D.mir) g.met.D.Domain.small,
  (
    c.requires.few,
    (
      begins_inside c.args.program.now c.args.here.now.slot c.requires.inside.0 c.requires.inside.1,
      branch_is_good c.args.program.now c.args.here.now.slot c.in-Begins.insn Taken c.requires.laid_out.jumps (sym c.fetch.ensures ∙ c.in-Begins.is),
    ),
  ),
)

pub follow-requires : goal.follow-requires
follow-requires g c = (
  pending_fits (lone g.row.D.mir) g.met.D.Domain.small,
  (
    c.requires.few,
    (
      begins_inside c.args.program.now c.args.here.now.slot c.requires.inside.0 c.requires.inside.1,
      branch_is_good c.args.program.now c.args.here.now.slot c.in-Begins.insn NotTaken c.requires.laid_out.jumps (sym c.fetch.ensures ∙ c.in-Begins.is),
    ),
  ),
)

pub follow-requires-in-Fork : goal.follow-requires-in-Fork
follow-requires-in-Fork g c = (
  pending_fits (lone g.row.D.mir) g.met.D.Domain.small,
  (
    c.requires.few,
    (
      begins_inside c.args.program.now c.args.here.now.slot c.requires.inside.0 c.requires.inside.1,
      branch_is_good c.args.program.now c.args.here.now.slot c.in-Begins.insn NotTaken c.requires.laid_out.jumps (sym c.fetch.ensures ∙ c.in-Begins.is),
    ),
  ),
)

pub returns-in_err-transition-clause-refused : goal.returns-in_err-transition-clause-refused
returns-in_err-transition-clause-refused g c =
    let fits : Fits c.in-Begins.insn = c.transition.ensures.fits in
    search (rules, fits)

pub returns-in-Exit-clause-advanced : goal.returns-in-Exit-clause-advanced
returns-in-Exit-clause-advanced g c =
    let fits : Fits c.in-Begins.insn = c.transition.ensures.fits in
    let step_is : abstract_step g.D.Domain.ops c.args.here.now.state c.in-Begins.insn ≡ Ok (next_of c.args.here.now.state c.in_ok-transition.transition) = search rules in
    advances g.D.Domain.ops c.args.program.now c.args.here.now c.args.pending.now.items c.args.pending.now.items c.in-Begins.insn (sym c.fetch.ensures ∙ c.in-Begins.is) fits (next_of c.args.here.now.state c.in_ok-transition.transition) step_is None [] (sym (append-nil c.args.pending.now.items))
    (subst (λ (e : Transition g.row.D.Denot). GoesOn c.args.program.now c.args.here.now.slot c.in-Begins.insn (next_of c.args.here.now.state e) None []) (sym c.in-Exit.is) (tt, refl))

pub returns-in-On-clause-advanced : goal.returns-in-On-clause-advanced
returns-in-On-clause-advanced g c =
    let fits : Fits c.in-Begins.insn = c.transition.ensures.fits in
    let step_is : abstract_step g.D.Domain.ops c.args.here.now.state c.in-Begins.insn ≡ Ok (next_of c.args.here.now.state c.in_ok-transition.transition) = search rules in
    advances g.D.Domain.ops c.args.program.now c.args.here.now c.args.pending.now.items c.args.pending.now.items c.in-Begins.insn (sym c.fetch.ensures ∙ c.in-Begins.is) fits (next_of c.args.here.now.state c.in_ok-transition.transition) step_is (state_to_follow c.follow.result c.follow.new.here) [] (sym (append-nil c.args.pending.now.items))
    (subst (λ (e : Transition g.row.D.Denot). GoesOn c.args.program.now c.args.here.now.slot c.in-Begins.insn (next_of c.args.here.now.state e) (state_to_follow c.follow.result c.follow.new.here) []) (sym c.in-On.is) (c.follow.ensures, refl))

pub returns-in_ok-push_branch-in-Fork-clause-advanced : goal.returns-in_ok-push_branch-in-Fork-clause-advanced
returns-in_ok-push_branch-in-Fork-clause-advanced g c =
    let fits : Fits c.in-Begins.insn = c.transition.ensures.fits in
    let step_is : abstract_step g.D.Domain.ops c.args.here.now.state c.in-Begins.insn ≡ Ok (next_of c.args.here.now.state c.in_ok-transition.transition) = search rules in
    let left = c.in_ok-push_branch-in-Fork.ensures.left in
    advances g.D.Domain.ops c.args.program.now c.args.here.now c.args.pending.now.items c.push_branch.new.pending.items c.in-Begins.insn (sym c.fetch.ensures ∙ c.in-Begins.is) fits (next_of c.args.here.now.state c.in_ok-transition.transition) step_is (state_to_follow c.follow-in-Fork.result c.follow-in-Fork.new.here) left.0 left.1
    (subst (λ (e : Transition g.row.D.Denot). GoesOn c.args.program.now c.args.here.now.slot c.in-Begins.insn (next_of c.args.here.now.state e) (state_to_follow c.follow-in-Fork.result c.follow-in-Fork.new.here) left.0) (sym c.in-Fork.is) (c.follow-in-Fork.ensures, left.2))
