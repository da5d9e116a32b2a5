-- The rows of a relay whose users are replaced.
use Rattle.std.proofs.Common.{◌≡◌, ℕ, List, map, Option, Some, ap}
use Rattle.std.specs.Prelude.{unwrap_or}
use Rattle.std.proofs.lemmas.Option.{slice_get-map}
use Rattle.credentials.specs.declared.checking.User.{User}
use Rattle.control.specs.Users.{index_of_user, new_index}
use Rattle.tables.specs.Rows.{Rows}
use Rattle.tables.specs.Users.{rows_of_users, index_in}

same_index : (old new : List User) (index : ℕ) → index_in (map (index_of_user new) old) index ≡ new_index old new index
same_index old new index = ap (λ (o : Option (Option ℕ)). unwrap_or o (Some index)) (slice_get-map (index_of_user new) old index)

-- the indices that are found for the old users are those of the definition
pub same_rows : (old new : List User) (rows : Rows) → rows_of_users (index_in (map (index_of_user new) old)) rows ≡ rows_of_users (new_index old new) rows
same_rows old new rows = λ i. rows_of_users (λ index. same_index old new index i) rows
