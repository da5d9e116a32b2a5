use Rattle.std.proofs.Common.{◌≡◌, ◌≤◌, drop}
use Rattle.std.specs.FinMap.{len}
use Rattle.tables.specs.Permissions.{with_all}
use Rattle.tables.specs.declared.permissions.TheConstants.{MAX_PERMISSIONS}
use Rattle.tables.proofs.permissions.Permissions.insert_all.Given as goal

abbrev pub invariant-loop-ip : goal.invariant-loop-ip
invariant-loop-ip l =
    record {
      rest : with_all l.self (drop l.ip-index l.ips) l.end ≡ with_all l.initial.self l.ips l.end;
      few : len l.self ≤ MAX_PERMISSIONS;
    }
