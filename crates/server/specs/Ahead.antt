-- Meaning. What is received ahead at a link, and how it is passed on.
use Rattle.std.specs.Prelude.{◌≡◌, ◌≢◌, ℕ, ◌≤◌, ◌<◌, nat_le, ◌⊎◌, Bool, true, false, List, [], ◌∷◌, ◌++◌, length, take, drop, map, Option, None, Some, Result, Ok, Err, IsErr, option_to_list, if◌then◌else◌}
use Rattle.addresses.specs.declared.address.Addr.{Addr}
use Rattle.semantics.specs.declared.limits.TheConstants.{MAX_DATAGRAM}
use Rattle.server.specs.Calls.{Call, Received, HasReported}
use Rattle.server.specs.declared.link.LinkFault.{LinkFault}
use Rattle.server.specs.declared.link.Place.{Place}

-- what waits: a datagram with its source, that nothing more had come, or that a receive failed
pub data Waiting : Type 0 where
  Datagram : (bytes : List ℕ) (from : Addr) → Waiting
  Nothing : Waiting
  Fault : Waiting

-- ---- filling

-- a receive of a link: the bytes that the buffer has afterwards, and the answer
pub record Receive : Type 0 where
  pub buffer : List ℕ
  pub answer : Result (Option (ℕ × Addr)) LinkFault

abbrev pub call_at : Place → Receive → Call
call_at endpoint r = Received endpoint r.buffer r.answer

-- a datagram is the first n bytes of the buffer; one that is longer than a datagram may be is a fault
abbrev pub waiting_after : List ℕ → Result (Option (ℕ × Addr)) LinkFault → Waiting
waiting_after buffer (Ok (Some (n, from))) = if nat_le n MAX_DATAGRAM then Datagram (take n buffer) from else Fault
waiting_after buffer (Ok None) = Nothing
waiting_after buffer (Err fault) = Fault

abbrev pub waiting_of : Receive → Waiting
waiting_of r = waiting_after r.buffer r.answer

abbrev pub is_datagram : Waiting → Bool
is_datagram (Datagram bytes from) = true
is_datagram Nothing = false
is_datagram Fault = false

-- a receive into room for the longest datagram, and whether one came
pub record IsReceive (r : Receive) (came : Bool) : Type 0 where
  pub room : length r.buffer ≡ MAX_DATAGRAM
  pub gives : is_datagram (waiting_of r) ≡ came

abbrev pub AreDatagrams : List Receive → Type 0
AreDatagrams [] = Unit {0}
AreDatagrams (r ∷ rest) = IsReceive r true × AreDatagrams rest

abbrev pub IsEnding : Option Receive → Type 0
IsEnding None = Unit {0}
IsEnding (Some r) = IsReceive r false

-- Receives at an endpoint, of which each but the last gave a datagram, and the last one maybe nothing or a fault. What they gave
-- waits, in order. Where something waits already there is none.
pub record HasFilled (endpoint : Place) (before after : Option (List Call)) (old new : List Waiting) : Type 0 where
  pub datagrams : List Receive
  pub ending : Option Receive
  pub each : AreDatagrams datagrams
  pub last : IsEnding ending
  pub reported : HasReported before after (map (call_at endpoint) (datagrams ++ option_to_list ending))
  pub waits : new ≡ old ++ map waiting_of (datagrams ++ option_to_list ending)
  pub unfilled : old ≢ [] → datagrams ++ option_to_list ending ≡ []

-- ---- handing on

-- A datagram's bytes are written over the first of a buffer, which is else as before; one that is longer than the buffer is lost,
-- and counts as a fault.
abbrev pub IsHandedOn : Waiting → List ℕ → List ℕ → Result (Option (ℕ × Addr)) LinkFault → Type 0
IsHandedOn (Datagram bytes from) into now result =
    ((length bytes ≤ length into) × (now ≡ bytes ++ drop (length bytes) into) × (result ≡ Ok (Some (length bytes, from))))
    ⊎ ((length into < length bytes) × (now ≡ into) × IsErr result)
IsHandedOn Nothing into now result = (now ≡ into) × (result ≡ Ok None)
IsHandedOn Fault into now result = (now ≡ into) × IsErr result

-- The first of what waits is passed on, and no call of the link is made. Where nothing waits, one receive of the link is made, and
-- its answer is the result.
abbrev pub HasTaken : Place → Option (List Call) → Option (List Call) → List Waiting → List Waiting → List ℕ → List ℕ → Result (Option (ℕ × Addr)) LinkFault → Type 0
HasTaken endpoint before after [] new into now result = (new ≡ []) × HasReported before after (Received endpoint now result ∷ [])
HasTaken endpoint before after (w ∷ rest) new into now result = (new ≡ rest) × (after ≡ before) × IsHandedOn w into now result
