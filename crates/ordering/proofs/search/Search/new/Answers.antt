use Rattle.std.proofs.Common.{◌≡◌, ℕ, ◌<◌, List, [], ◌∷◌, length, refl, sym, ap, ◌∙◌, subst, inl, inr, arith}
use Rattle.std.specs.Prelude.{slice_set, reverse}
use Rattle.std.proofs.lemmas.Bool.{cases_lt}
use Rattle.std.proofs.lemmas.List.{get_or_past}
use Rattle.insn.specs.declared.decoding.TheConstants.{MAX_SLOTS}
use Rattle.insn.specs.declared.instruction.Insn.{Insn}
use Rattle.semantics.specs.declared.fetching.Visit.{Visit}
use Rattle.ordering.specs.Searches.{mark_at, IsSearch}
use Rattle.ordering.specs.declared.search.Mark.TheVariants.{Unseen, Open}
use Rattle.ordering.proofs.Backs.{reverse_push}
use Rattle.ordering.proofs.Searching.{started}
use Rattle.ordering.proofs.search.Search.new.Goals as goal

pub returns-clause-ok : goal.returns-clause-ok
returns-clause-ok c =
    let marks = c.resize.new.self.items in
    let first = c.args.first in
    let count : length marks ≡ MAX_SLOTS = omega (arith, c.in_ok-resize.ensures.len, c.resize.new.self.ok.0) in
    let unseen : (k : ℕ) → mark_at marks k ≡ Unseen = λ k. elim (cases_lt k MAX_SLOTS) [
      | inl lt ↦ c.in_ok-resize.ensures.by_index.1 k Unseen refl (omega (arith, c.new-marks.ensures.len)) lt
      | inr le ↦ get_or_past marks k Unseen (omega (arith, count))
    ] in
    let lt : first.slot < length marks = omega (arith, count, c.requires.start) in
    let path : reverse c.push.new.self.items ≡ first ∷ [] =
    ap reverse c.in_ok-push.ensures.items ∙ reverse_push c.new-stack.result.items first ∙ ap (λ (vs : List Visit). first ∷ reverse vs) c.new-stack.ensures.items in
    record {
      tail = c.new.ensures.tail;
      search = subst (λ (list : List Insn). IsSearch c.args.program.now (slice_set marks first.slot Open) (reverse c.push.new.self.items) list) (sym c.new.ensures.list)
          (subst (λ (vs : List Visit). IsSearch c.args.program.now (slice_set marks first.slot Open) vs []) (sym path) (started c.args.program.now marks first unseen lt count c.requires.start c.requires.here));
    }
