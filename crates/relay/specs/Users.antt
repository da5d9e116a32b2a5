-- Meaning. A relay whose users, secrets or revoked users are replaced.
use Rattle.std.specs.Prelude.{ℕ, List, Option, Some, Vec}
use Rattle.std.specs.declared.alloc.Global.{Global}
use Rattle.credentials.specs.declared.checking.User.{User}
use Rattle.control.specs.Users.{new_index}
use Rattle.tables.specs.Users.{rows_of_users, rows_without}
use Rattle.relay.specs.Relays.{RelayContents}

-- It has these users, and of its allocations those of a user who is one of them, by name and password, or who was in no list.
abbrev pub after_users : RelayContents → Vec User Global → RelayContents
after_users r users = record r {
  config = record r.config { users = users };
  rows = rows_of_users (new_index r.config.users.items users.items) r.rows;
}

-- it has these secrets
abbrev pub after_secrets : RelayContents → Vec ℕ Global → Option (Vec ℕ Global) → RelayContents
after_secrets r secret former = record r { config = record r.config { secret = Some secret; former_secret = former } }

-- it has these revoked users, and nothing that is theirs
abbrev pub after_revoked : RelayContents → Vec (List ℕ) Global → RelayContents
after_revoked r revoked = record r {
  config = record r.config { revoked = revoked };
  rows = rows_without revoked.items r.rows;
}
