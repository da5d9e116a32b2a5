use Rattle.std.proofs.Common.{Option, [], refl, sym, subst, append-nil}
use Rattle.std.specs.Option.{option_map}
use Rattle.absstate.specs.Changes.{state_after_change}
use Rattle.absstate.specs.declared.change.Change.{Change}
use Rattle.semantics.specs.declared.fetching.Branch.TheVariants.{Taken}
use Rattle.verifier.specs.Walk.{IsLeft}
use Rattle.verifier.proofs.walk.push_branch.Goals as goal

pub returns-in_default-clause-left : goal.returns-in_default-clause-left
returns-in_default-clause-left g c = ([], sym (append-nil c.args.pending.now.items), subst (λ (change : Option (Change g.row.D.Denot)). IsLeft c.args.program.now c.args.here.now.slot c.args.insn Taken (option_map (state_after_change c.args.here.now.state) change) []) (sym c.in_default.is) refl)
