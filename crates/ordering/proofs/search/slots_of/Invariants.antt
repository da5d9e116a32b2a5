use Rattle.std.proofs.Common.{◌≡◌, map, take}
use Rattle.ordering.specs.Searches.{slot_of_mark}
use Rattle.ordering.proofs.search.slots_of.Given as goal

abbrev pub invariant-loop-mark : goal.invariant-loop-mark
invariant-loop-mark l = l.found.items ≡ map (slot_of_mark l.slots) (take l.mark-index l.marks)
