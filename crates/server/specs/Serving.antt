-- Meaning. A turn that is neither recorded nor filtered: one receive, one step of the relay on what came, and one send of its answer.
use Rattle.std.specs.Prelude.{◌≡◌, ℕ, ◌<◌, ◌≤◌, ◌⊎◌, List, [], ◌∷◌, length, take, Option, None, Some, Result, Ok, Err}
use Rattle.addresses.specs.declared.address.Addr.{Addr}
use Rattle.events.specs.Events.{Sending}
use Rattle.events.specs.declared.meta.Meta.{Meta}
use Rattle.relay.specs.Relays.{RelayContents}
use Rattle.rules.specs.declared.disposition.Disposition.{Disposition}
use Rattle.semantics.specs.declared.limits.TheConstants.{MAX_DATAGRAM}
use Rattle.server.specs.Calls.{Call, Received, HasReported}
use Rattle.server.specs.Turns.{source_at, send_of, IsUntouched, HasDecided, outcome_of_bytes, disposition_of_bytes}
use Rattle.server.specs.declared.link.Place.{Place}
use Rattle.server.specs.declared.link.LinkFault.{LinkFault}
use Rattle.server.specs.declared.serving.ServeError.{ServeError}
use Rattle.server.specs.declared.serving.ServeError.TheVariants as error

-- what was done, where the answer was sent
abbrev pub result_of_send : Disposition → Result (Unit {0}) LinkFault → Result (Option Disposition) ServeError
result_of_send done (Ok sent) = Ok (Some done)
result_of_send done (Err fault) = Err error.Send

-- where there is no answer, nothing is sent; an answer is sent once
abbrev pub HasSent : Option Sending → Disposition → List Call → Result (Option Disposition) ServeError → Type 0
HasSent None done sends result = (sends ≡ []) × (result ≡ Ok (Some done))
HasSent (Some sending) done sends result =
    (answer : Result (Unit {0}) LinkFault) × (sends ≡ send_of sending answer ∷ []) × (result ≡ result_of_send done answer)

-- a fault, nothing, or a datagram; one longer than a datagram may be is a fault
abbrev pub HasServed : RelayContents → RelayContents → Place → ℕ → List ℕ → List ℕ → Result (Option (ℕ × Addr)) LinkFault → List Call → Result (Option Disposition) ServeError → Type 0
HasServed old new endpoint now tx buffer (Err fault) sends result = IsUntouched old new sends × (result ≡ Err error.Receive)
HasServed old new endpoint now tx buffer (Ok None) sends result = IsUntouched old new sends × (result ≡ Ok None)
HasServed old new endpoint now tx buffer (Ok (Some (n, from))) sends result =
    (let given : Meta = record { now = now; tx = tx; from = source_at endpoint from } in
    (n ≤ MAX_DATAGRAM) × HasDecided old new given (take n buffer)
    × HasSent (outcome_of_bytes old given (take n buffer)).answer (disposition_of_bytes old given (take n buffer)) sends result)
    ⊎ ((MAX_DATAGRAM < n) × IsUntouched old new sends × (result ≡ Err error.Receive))

-- a turn at an endpoint: one receive there, into the whole room of the relay, and what follows from its answer
pub record IsServed (endpoint : Place) (now : ℕ) (tx : List ℕ) (old new : RelayContents) (before after : Option (List Call)) (result : Result (Option Disposition) ServeError) : Type 0 where
  pub received : Result (Option (ℕ × Addr)) LinkFault
  pub buffer : List ℕ
  pub room : length buffer ≡ MAX_DATAGRAM
  pub sends : List Call
  pub reported : HasReported before after (Received endpoint buffer received ∷ sends)
  pub served : HasServed old new endpoint now tx buffer received sends result
