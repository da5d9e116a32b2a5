-- Internal. What is stored of what was received ahead, and one receive of a filling.
use Rattle.std.specs.Prelude.{◌≡◌, ℕ, ◌+◌, ◌≤◌, ◌⊎◌, Bool, false, List, [], ◌∷◌, ◌++◌, length, take, drop, map, Option}
use Rattle.server.specs.Calls.{Call, HasReported}
use Rattle.server.specs.declared.link.Place.{Place}
use Rattle.server.specs.Ahead.{Waiting, Datagram, Nothing, Fault, Receive, call_at, waiting_of, IsReceive, AreDatagrams}
use Rattle.server.specs.declared.ahead.Stored.{Stored}
use Rattle.server.specs.declared.ahead.BatchEnd.{BatchEnd}
use Rattle.server.specs.declared.ahead.BatchEnd.TheVariants as then
use Rattle.server.specs.declared.ahead.TheConstants.{TURNS}

abbrev pub stored_datagram : List ℕ → Stored → Waiting
stored_datagram bytes s = Datagram (take s.n (drop s.start bytes)) s.from

abbrev pub ending_of : BatchEnd → List Waiting
ending_of then.Receive = []
ending_of then.Nothing = Nothing ∷ []
ending_of then.Fault = Fault ∷ []

abbrev pub waiting_in : List ℕ → List Stored → ℕ → BatchEnd → List Waiting
waiting_in bytes datagrams count then = map (stored_datagram bytes) (drop count datagrams) ++ ending_of then

-- each datagram lies before an end
abbrev pub AreWithin : ℕ → List Stored → Type 0
AreWithin end [] = Unit {0}
AreWithin end (s ∷ rest) = (s.start + s.n ≤ end) × AreWithin end rest

pub record IsAhead (room capacity : ℕ) (datagrams : List Stored) (count end : ℕ) : Type 0 where
  pub within : AreWithin end datagrams
  pub inside : end ≤ room
  pub handed : count ≤ length datagrams
  pub few : TURNS ≤ capacity

-- one receive was made, and what it gave waits after the others
pub record HasReceived (endpoint : Place) (before after : Option (List Call)) (old new : List Waiting) (came : Bool) : Type 0 where
  pub receive : Receive
  pub is_receive : IsReceive receive came
  pub reported : HasReported before after (call_at endpoint receive ∷ [])
  pub waits : new ≡ old ++ waiting_of receive ∷ []

-- or no receive was made
abbrev pub HasReceivedOne : Place → Option (List Call) → Option (List Call) → List Waiting → List Waiting → Bool → Type 0
HasReceivedOne endpoint before after old new came =
    ((after ≡ before) × (new ≡ old) × (came ≡ false)) ⊎ HasReceived endpoint before after old new came

-- what a filling has received so far, where nothing waited
pub record HasFilledSoFar (endpoint : Place) (before after : Option (List Call)) (new : List Waiting) : Type 0 where
  pub datagrams : List Receive
  pub each : AreDatagrams datagrams
  pub reported : HasReported before after (map (call_at endpoint) datagrams)
  pub waits : new ≡ map waiting_of datagrams
