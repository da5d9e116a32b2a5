-- Interface. The number of a name with time-limited credentials is the index of no user of a list.
use Rattle.std.specs.Prelude.{ℕ, ◌≤◌, List}
use Rattle.std.proofs.Common.{arith}
use Rattle.credentials.specs.TimeLimited.{user_number}
use Rattle.control.specs.declared.config.TheConstants.{MAX_USERS}

-- a list has at most MAX_USERS users, and so its indices are below that
pub user_number-is_no_index : (secret name : List ℕ) → MAX_USERS ≤ user_number secret name
user_number-is_no_index secret name = omega arith
