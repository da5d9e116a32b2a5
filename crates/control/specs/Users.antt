-- Meaning. The users of a relay where a list of them is replaced by another one.
use Rattle.std.specs.Prelude.{ℕ, Bool, ◌&&◌, List, position, slice_get, bytes_eq, string_bytes, Option, Some, option_map, unwrap_or}
use Rattle.credentials.specs.declared.checking.User.{User}

-- whether two users have one name and one password
abbrev pub is_same_user : User → User → Bool
is_same_user user other = bytes_eq (string_bytes user.name) (string_bytes other.name) && bytes_eq (string_bytes user.password) (string_bytes other.password)

-- the index of a user among some, if it is one of them
abbrev pub index_of_user : List User → User → Option ℕ
index_of_user users user = position (is_same_user user) users

-- the index in the new list of the user at an index of the old one, if the new list has that user; the user of a name that is
-- in no list keeps its number
abbrev pub new_index : List User → List User → ℕ → Option ℕ
new_index old new user = unwrap_or (option_map (index_of_user new) (slice_get old user)) (Some user)
