-- Internal. Bounds on the lengths of the parts of a reply, in bytes.
use Rattle.std.specs.Prelude.{ℕ}

-- a bound on the length of the attributes of a success response
abbrev pub longest_grant : ℕ
longest_grant = 56

-- the room that they are appended in
abbrev pub grant_room : ℕ
grant_room = 100

-- a bound on the length of what follows ERROR-CODE in an error response
abbrev pub longest_details : ℕ
longest_details = 210

-- the room that it is appended in
abbrev pub details_room : ℕ
details_room = 300
