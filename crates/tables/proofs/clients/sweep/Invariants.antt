use Rattle.std.proofs.Common.{◌≡◌, ◌++◌, length, map, take, drop}
use Rattle.tables.specs.Stored.{left_at}
use Rattle.tables.proofs.clients.sweep.Given as goal

abbrev pub invariant-loop-slot : goal.invariant-loop-slot
invariant-loop-slot l =
    record {
      long : length l.slots.items ≡ length l.initial.slots.items;
      swept : l.slots.items ≡ map (left_at l.moment) (take l.slot l.initial.slots.items) ++ drop l.slot l.initial.slots.items;
    }
