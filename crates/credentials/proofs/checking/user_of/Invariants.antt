use Rattle.std.proofs.Common.{◌≢◌, ◌<◌, ℕ, []}
use Rattle.std.specs.Prelude.{slice_index_or}
use Rattle.credentials.specs.Checks.{users_of}
use Rattle.credentials.proofs.checking.user_of.Given as goal

abbrev pub invariant-loop-index : goal.invariant-loop-index
invariant-loop-index l = (k : ℕ) → k < l.index → (slice_index_or (users_of l.users) k ([], [])).0 ≢ l.name
