use Rattle.std.proofs.Common.{◌<◌, ◌∙◌, length, sym, arith}
use Rattle.std.proofs.lemmas.List.{get_or_read}
use Rattle.insn.specs.declared.decoding.TheConstants.{MAX_SLOTS}
use Rattle.ordering.specs.Searches.{path_of}
use Rattle.ordering.specs.declared.search.Mark.TheVariants.{Unseen}
use Rattle.ordering.proofs.BranchTargets.{visit_inside, branch_leads}
use Rattle.ordering.proofs.Paths.{loop_closes}
use Rattle.ordering.proofs.search.Search.look_at.Goals as goal

pub index-requires : goal.index-requires
index-requires c =
    let to = branch_leads c.args.program.now c.args.at c.args.branch c.args.target c.in-Some.to c.requires.target c.in-Some.is in
    omega (arith, visit_inside c.args.program.now c.in-Some.to MAX_SLOTS to.1 c.requires.few, c.requires.visits.search.count, c.args.self.now.marks.ok.0)

pub returns-in-Open-clause-err : goal.returns-in-Open-clause-err
returns-in-Open-clause-err c =
    let to = branch_leads c.args.program.now c.args.at c.args.branch c.args.target c.in-Some.to c.requires.target c.in-Some.is in
    let lt : c.in-Some.to.slot < length c.args.self.now.marks.items = omega (arith, visit_inside c.args.program.now c.in-Some.to MAX_SLOTS to.1 c.requires.few, c.requires.visits.search.count) in
    loop_closes c.args.program.now c.args.at (path_of c.args.self.now) c.in-Some.to.slot c.requires.visits.search.chain
    (c.requires.visits.search.on_path c.in-Some.to.slot (sym (get_or_read c.args.self.now.marks.items c.in-Some.to.slot c.index.result.now lt c.index.ensures Unseen) ∙ c.in-Open.is))
    (c.args.at.insn, c.args.branch, to.0)

pub returns-in-Placed-clause-ok : goal.returns-in-Placed-clause-ok
returns-in-Placed-clause-ok c =
    let to = branch_leads c.args.program.now c.args.at c.args.branch c.args.target c.in-Some.to c.requires.target c.in-Some.is in
    let lt : c.in-Some.to.slot < length c.args.self.now.marks.items = omega (arith, visit_inside c.args.program.now c.in-Some.to MAX_SLOTS to.1 c.requires.few, c.requires.visits.search.count) in
    record {
      to = c.in-Some.to.slot;
      leads = to.0;
      mark = sym (get_or_read c.args.self.now.marks.items c.in-Some.to.slot c.index.result.now lt c.index.ensures Unseen) ∙ c.in-Placed.is;
    }
