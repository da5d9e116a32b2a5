-- Meaning. Users as texts.
use Rattle.std.specs.Prelude.{◌≡◌, ℕ, Bool, true, false, List, [], ◌∷◌, Option, Some, None, ◌==◌, string_bytes}
use Rattle.std.specs.List.{list_any, before_first, after_first}
use Rattle.credentials.specs.TimeLimited.{is_colon}
use Rattle.credentials.specs.declared.checking.User.{User}

-- a line without a user: nothing, or a comment
abbrev pub is_comment : List ℕ → Bool
is_comment [] = true
is_comment (byte ∷ line) = byte == 0x23

-- the name before the first colon and the password after it, or none where there is no colon
abbrev pub IsUserIn : List ℕ → Option User → Type 0
IsUserIn text (Some user) = (string_bytes user.name ≡ before_first is_colon text)
    × (string_bytes user.password ≡ after_first is_colon text)
IsUserIn text None = list_any is_colon text ≡ false
