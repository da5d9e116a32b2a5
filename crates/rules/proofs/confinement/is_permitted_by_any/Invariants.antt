use Rattle.std.proofs.Common.{◌≡◌, ◌≤◌, ◌+◌, ◌*◌, ◌||◌, ◌&&◌, is_some, take}
use Rattle.std.specs.List.{list_any}
use Rattle.tables.specs.LookUps.{bound_channel, permission_of}
use Rattle.rules.specs.Permitted.{counted_as, is_alias_of}
use Rattle.rules.proofs.confinement.is_permitted_by_any.Given as goal

abbrev pub invariant-loop-alias : goal.invariant-loop-alias
invariant-loop-alias g l =
    record {
      any : l.permitted ≡ list_any (λ alias. is_alias_of l.peer alias && (is_some (permission_of (counted_as l.peer alias) l.live) || is_some (bound_channel (counted_as l.peer alias) l.live))) (take l.alias-index l.aliases);
      keys : g.C.Count.count l.keys ≤ g.C.Count.count l.initial.keys + 14 * l.alias-index;
    }
