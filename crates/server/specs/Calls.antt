-- Meaning. The calls of a link: what each was handed, and what it answered. How calls are reported.
use Rattle.std.specs.Prelude.{◌≡◌, ℕ, List, ◌++◌, Option, None, Some, Result}
use Rattle.addresses.specs.declared.address.Addr.{Addr}
use Rattle.server.specs.declared.link.LinkFault.{LinkFault}
use Rattle.server.specs.declared.link.Place.{Place}

-- a receive, with the bytes that the buffer has afterwards; and a send
pub data Call : Type 0 where
  Received : (endpoint : Place) (buffer : List ℕ) (answer : Result (Option (ℕ × Addr)) LinkFault) → Call
  Sent : (endpoint : Place) (to : Addr) (bytes : List ℕ) (answer : Result (Unit {0}) LinkFault) → Call

-- What reports its calls has reported these after its former ones, or reports no more, as where it has no memory for them. What
-- doesn't report never begins to.
abbrev pub HasReported : {A : Type 0} → Option (List A) → Option (List A) → List A → Type 0
HasReported None new calls = new ≡ None
HasReported (Some former) None calls = Unit {0}
HasReported (Some former) (Some now) calls = now ≡ former ++ calls
