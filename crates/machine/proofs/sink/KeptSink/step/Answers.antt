use Rattle.std.proofs.Common.{rules, ◌≡◌, List, [], ◌∷◌, ◌++◌, ◌<◌, length, sym, arith}
use Rattle.std.proofs.lemmas.List.{length-append, take_all, take_at}
use Rattle.semantics.specs.declared.fetching.Visit.{Visit}
use Rattle.machine.specs.Keeping.{kept_more}
use Rattle.machine.specs.declared.sink.TheConstants.{KEPT}
use Rattle.machine.proofs.sink.KeptSink.step.Goals as goal

-- a list with room keeps one step more, and a full one no more
more : (kept : List Visit) (v : Visit) → length kept < KEPT → kept ++ v ∷ [] ≡ kept_more kept v
more kept v few = sym (take_all KEPT (kept ++ v ∷ []) (omega (arith, length-append kept (v ∷ []), few)))

full : (kept : List Visit) (v : Visit) → length kept ≡ KEPT → kept ≡ kept_more kept v
full kept v long = sym (take_at kept (v ∷ []) KEPT long)

pub returns-then-len-lt-KEPT : goal.returns-then-len-lt-KEPT
returns-then-len-lt-KEPT c = search (rules, more)

pub returns-else-len-lt-KEPT : goal.returns-else-len-lt-KEPT
returns-else-len-lt-KEPT c = search (rules, full)
