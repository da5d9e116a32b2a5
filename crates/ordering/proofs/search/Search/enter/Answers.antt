use Rattle.std.proofs.Common.{◌≡◌, ◌<◌, List, ◌∷◌, length, sym, ap, ◌∙◌, subst, arith}
use Rattle.std.specs.Prelude.{slice_set, reverse}
use Rattle.std.proofs.lemmas.List.{length_push}
use Rattle.insn.specs.declared.decoding.TheConstants.{MAX_SLOTS}
use Rattle.semantics.specs.declared.fetching.Visit.{Visit}
use Rattle.ordering.specs.Searches.{path_of, IsSearch}
use Rattle.ordering.specs.Tails.{tail_list}
use Rattle.ordering.specs.declared.search.Mark.TheVariants.{Open}
use Rattle.ordering.proofs.Backs.{reverse_push}
use Rattle.ordering.proofs.BranchTargets.{visit_inside}
use Rattle.ordering.proofs.Searching.{entered, weight_entered}
use Rattle.ordering.proofs.search.Search.enter.Goals as goal

pub index_mut-requires : goal.index_mut-requires
index_mut-requires c =
    omega (arith, visit_inside c.args.program.now c.args.to MAX_SLOTS c.requires.leads.0 c.requires.few, c.requires.visits.search.count, c.args.self.now.marks.ok.0)

pub returns-clause-ok : goal.returns-clause-ok
returns-clause-ok c =
    let marks = c.args.self.now.marks.items in
    let lt : c.args.to.slot < length marks = omega (arith, visit_inside c.args.program.now c.args.to MAX_SLOTS c.requires.leads.0 c.requires.few, c.requires.visits.search.count) in
    let first : reverse c.push.new.self.items ≡ c.args.at ∷ path_of c.args.self.now = ap reverse c.in_ok-push.ensures.items ∙ reverse_push c.args.self.now.stack.items c.args.at in
    let path : reverse c.push-2.new.self.items ≡ c.args.to ∷ c.args.at ∷ path_of c.args.self.now = ap reverse c.in_ok-push-2.ensures.items ∙ reverse_push c.push.new.self.items c.args.to ∙ ap (λ (p : List Visit). c.args.to ∷ p) first in
    record {
      tail = c.requires.visits.tail;
      search = subst (λ (p : List Visit). IsSearch c.args.program.now (slice_set marks c.args.to.slot Open) p (tail_list c.args.self.now.tail)) (sym path)
          (entered c.args.program.now marks c.args.at c.args.to (path_of c.args.self.now) (tail_list c.args.self.now.tail) c.requires.visits.search c.requires.leads c.requires.unseen lt);
    }

pub returns-clause-work : goal.returns-clause-work
returns-clause-work c =
    let marks = c.args.self.now.marks.items in
    let lt : c.args.to.slot < length marks = omega (arith, visit_inside c.args.program.now c.args.to MAX_SLOTS c.requires.leads.0 c.requires.few, c.requires.visits.search.count) in
    omega (
      arith,
      weight_entered marks c.args.to.slot lt c.requires.unseen,
      ap (length {A = Visit}) c.in_ok-push.ensures.items,
      ap (length {A = Visit}) c.in_ok-push-2.ensures.items,
      length_push c.args.self.now.stack.items c.args.at,
      length_push c.push.new.self.items c.args.to,
    )
