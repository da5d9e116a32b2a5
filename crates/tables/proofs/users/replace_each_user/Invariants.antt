use Rattle.std.proofs.Common.{◌≡◌, ◌++◌, length, map, take, drop, option_and_then}
use Rattle.tables.specs.Users.{held_of_user}
use Rattle.tables.specs.NewUsers.{user_after}
use Rattle.tables.proofs.users.replace_each_user.Given as goal

abbrev pub invariant-loop-slot : goal.invariant-loop-slot
invariant-loop-slot l =
    record {
      long : length l.slots.items ≡ length l.initial.slots.items;
      replaced : l.slots.items ≡ map (option_and_then (held_of_user (user_after l.users))) (take l.slot l.initial.slots.items) ++ drop l.slot l.initial.slots.items;
    }
