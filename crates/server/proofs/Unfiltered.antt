-- A turn of which nothing is recorded or denied.
use Rattle.std.proofs.Common.{◌≡◌, ℕ, ◌≤◌, ◌<◌, List, [], ◌∷◌, take, Bool, true, false, inl, inr, refl, sym, ap, subst, ◌∙◌}
use Rattle.std.specs.Prelude.{Option, None, Some, Result, Ok, Err, IsErr}
use Rattle.std.proofs.lemmas.Bool.{both_ways}
use Rattle.addresses.specs.declared.address.Addr.{Addr}
use Rattle.events.specs.Events.{Event, Sending, ToPeer, ToClient}
use Rattle.relay.specs.Relays.{RelayContents}
use Rattle.semantics.specs.declared.limits.TheConstants.{MAX_DATAGRAM}
use Rattle.rules.specs.declared.disposition.Disposition.{Disposition}
use Rattle.server.specs.Calls.{Call}
use Rattle.server.specs.Serving.{IsServed, HasServed, HasSent, result_of_send}
use Rattle.server.specs.Turns.{may_send, outcome_of_send, arrived, HasArrived, HasAnswered, HasTurned, IsTurn}
use Rattle.server.specs.declared.counters.TurnOutcome.{TurnOutcome}
use Rattle.server.specs.declared.counters.TurnOutcome.TheVariants as outcome
use Rattle.server.specs.declared.link.LinkFault.{LinkFault}
use Rattle.server.specs.declared.serving.ServeError.{ServeError}
use Rattle.server.specs.declared.serving.ServeError.TheVariants as error
use Rattle.server.specs.declared.turning.Arrival.{Arrival}
use Rattle.server.specs.declared.turning.Arrived.{Arrived}
use Rattle.server.specs.declared.turning.Served.{Served}

abbrev pub result_of : TurnOutcome → Result (Option Disposition) ServeError
result_of (outcome.Done done) = Ok (Some done)
result_of outcome.Denied = Err error.Send
result_of outcome.SendFailed = Err error.Send

abbrev pub served_as : Result (Option Served) LinkFault → Result (Option Disposition) ServeError
served_as (Err fault) = Err error.Receive
served_as (Ok None) = Ok None
served_as (Ok (Some served)) = result_of served.outcome

result_sent : (done : Disposition) (answer : Result (Unit {0}) LinkFault) → result_of (outcome_of_send done answer) ≡ result_of_send done answer
result_sent done (Ok sent) = refl
result_sent done (Err fault) = refl

each_allowed : (sending : Sending) → may_send None sending ≡ true
each_allowed (ToPeer slot peer bytes) = refl
each_allowed (ToClient client bytes) = refl

has_sent : (answer : Option Sending) (done : Disposition) (sends : List Call) (became : TurnOutcome) → HasAnswered None answer done sends became → HasSent answer done sends (result_of became)
has_sent None done sends became (none, is) = (none, ap result_of is)
has_sent (Some sending) done sends became (inl (may, called, sent, is)) = (called, sent, ap result_of is ∙ result_sent done called)
has_sent (Some sending) done sends became (inr (denied, none, is)) = absurd (both_ways (may_send None sending) denied (each_allowed sending))

module _ (arrival : Arrival) (old new : RelayContents) (buffer : List ℕ) where
  too_long : (came : Result (Option Arrived) LinkFault) (sends : List Call) (taken : Result (Option Served) LinkFault) (n : ℕ) (from : Addr) → IsErr came → HasTurned None old new buffer came sends taken → MAX_DATAGRAM < n
      → HasServed old new arrival.endpoint arrival.now arrival.tx buffer (Ok (Some (n, from))) sends (served_as taken)
  too_long (Err fault) sends taken n from is turned long = inr (long, turned.0, ap served_as turned.1)
  too_long (Ok came) sends taken n from is turned long = absurd (both_ways false refl is)

  has_served : (received : Result (Option (ℕ × Addr)) LinkFault) (recorded : List Event) (came : Result (Option Arrived) LinkFault) (sends : List Call) (taken : Result (Option Served) LinkFault)
      → HasArrived arrival buffer received recorded came → HasTurned None old new buffer came sends taken
      → HasServed old new arrival.endpoint arrival.now arrival.tx buffer received sends (served_as taken)
  has_served (Err fault) recorded came sends taken (none, is) turned =
      let t = subst (λ r. HasTurned None old new buffer r sends taken) is turned in (t.0, ap served_as t.1)
  has_served (Ok None) recorded came sends taken (none, is) turned =
      let t = subst (λ r. HasTurned None old new buffer r sends taken) is turned in (t.0, ap served_as t.1)
  has_served (Ok (Some (n, from))) recorded came sends taken (inl (short, record_is, is)) turned =
      let t = subst (λ r. HasTurned None old new buffer r sends taken) is turned in
      inl (short, t.decided, subst (HasSent _ _ sends) (sym (ap served_as t.served)) (has_sent _ _ sends t.became t.answered))
  has_served (Ok (Some (n, from))) recorded came sends taken (inr (long, none, is)) turned = too_long came sends taken n from is turned long

pub serves : (arrival : Arrival) (old new : RelayContents) (before after : Option (List Call)) (former latter : Option (List Event)) (taken : Result (Option Served) LinkFault)
    → IsTurn None arrival old new before after former latter taken
    → IsServed arrival.endpoint arrival.now arrival.tx old new before after (served_as taken)
serves arrival old new before after former latter taken turn = record {
  received = turn.received;
  buffer = turn.buffer;
  room = turn.room;
  sends = turn.sends;
  reported = turn.reported;
  served = has_served arrival old new turn.buffer turn.received turn.recorded turn.came turn.sends taken turn.arrived turn.taken;
}
