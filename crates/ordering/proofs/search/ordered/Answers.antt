use Rattle.std.proofs.Common.{List, ap, ◌∙◌, subst}
use Rattle.std.specs.Prelude.{reverse}
use Rattle.semantics.specs.declared.fetching.Visit.{Visit}
use Rattle.ordering.specs.Searches.{IsSearch}
use Rattle.ordering.specs.Tails.{tail_list}
use Rattle.ordering.proofs.Backs.{reverse_push}
use Rattle.ordering.proofs.search.ordered.Goals as goal

pub visit-requires-clause-visits : goal.visit-requires-clause-visits
visit-requires-clause-visits c = record {
  tail = c.loop-at.invariant.tail;
  search = subst (λ (path : List Visit). IsSearch c.args.program.now c.loop-at.search.marks.items path (tail_list c.loop-at.search.tail))
      (ap reverse c.in-Some.ensures.items ∙ reverse_push c.pop.new.self.items c.in-Some.at) c.loop-at.invariant.search;
}
