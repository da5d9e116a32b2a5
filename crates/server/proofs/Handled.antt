-- A turn in which a datagram was received.
use Rattle.std.proofs.Common.{◌≡◌, ℕ, ◌≤◌, List, [], ◌∷◌, ◌++◌, length, take, Bool, true, false, inl, inr, refl, sym, ap, subst, ◌∙◌, append_assoc, append-nil}
use Rattle.std.specs.Prelude.{Option, None, Some, Result, Ok, Err}
use Rattle.addresses.specs.declared.address.Addr.{Addr}
use Rattle.events.specs.Events.{Event, Datagram, Sending}
use Rattle.machine.specs.Contents.{room_of, with_room}
use Rattle.machine.specs.laws.Frame.{room_written}
use Rattle.peer_filter.specs.Filters.{Filter}
use Rattle.semantics.specs.declared.limits.TheConstants.{MAX_DATAGRAM}
use Rattle.rules.specs.ByRules.{by_rules}
use Rattle.relay.specs.Harmless.{IsHarmless}
use Rattle.relay.specs.Relays.{RelayContents, datagram_at, state_of}
use Rattle.relay.specs.Replays.{system_of}
use Rattle.relay.specs.Shipped.{AreShipped}
use Rattle.relay.specs.ByPrograms.{disposition_of_datagram}
use Rattle.relay.specs.EventRuns.{verdict_of_datagram}
use Rattle.relay.specs.Steps as relay
use Rattle.relay.specs.Steps.{HasStepped}
use Rattle.rules.specs.Systems.{SystemOutcome, system_step}
use Rattle.rules.specs.declared.disposition.Disposition.{Disposition}
use Rattle.tables.specs.Moments.{moment_of}
use Rattle.server.proofs.Reported.{reported_more, reported_none}
use Rattle.server.specs.Calls.{Call, Received, HasReported}
use Rattle.server.specs.Turns.{may_send, send_of, outcome_of_send, IsReceived, HasAnswered, IsAnswered, IsTurn, HasTurned, IsUntouched, outcome_of_bytes, ruled_outcome_of_bytes, disposition_of_bytes}
use Rattle.server.specs.declared.counters.TurnOutcome.{TurnOutcome}
use Rattle.server.specs.declared.counters.TurnOutcome.TheVariants as outcome
use Rattle.server.specs.declared.link.LinkFault.{LinkFault}
use Rattle.server.specs.declared.turning.Arrival.{Arrival}
use Rattle.server.specs.declared.turning.Arrived.{Arrived}
use Rattle.server.specs.declared.turning.Served.{Served}

-- ---- an answer

-- that was sent, or whose send failed
pub is_answered : (filter : Option Filter) (answer : Option Sending) (sending : Sending) (done : Disposition) (before after : Option (List Call)) (became : TurnOutcome) → answer ≡ Some sending → may_send filter sending ≡ true
    → ((called : Result (Unit {0}) LinkFault) × HasReported before after (send_of sending called ∷ []) × (became ≡ outcome_of_send done called)) → IsAnswered filter answer done before after became
is_answered filter answer sending done before after became is may (called, reported, same) =
    subst (λ o. IsAnswered filter o done before after became) (sym is) (record { sends = send_of sending called ∷ []; reported = reported; answered = inl (may, called, refl, same) })

-- whose peer is denied
pub is_denied : (filter : Option Filter) (answer : Option Sending) (sending : Sending) (done : Disposition) (now : Option (List Call)) (became : TurnOutcome) → answer ≡ Some sending → may_send filter sending ≡ false → became ≡ outcome.Denied
    → IsAnswered filter answer done now now became
is_denied filter answer sending done now became is may denied =
    subst (λ o. IsAnswered filter o done now now became) (sym is) (record { sends = []; reported = reported_none now; answered = inr (may, refl, denied) })

-- ---- a turn

module _ (filter : Option Filter) (arrival : Arrival) (old : RelayContents) (buffer : List ℕ)
    (had : length (room_of old.frame) ≡ MAX_DATAGRAM) (has : length buffer ≡ MAX_DATAGRAM) where
  -- the relay with what was received in its room
  abbrev pub with_buffer : RelayContents
  with_buffer = record old { frame = with_room old.frame buffer }

  outcome_is : (a : Arrived) → relay.outcome_of with_buffer a.meta a.n ≡ outcome_of_bytes old a.meta (take a.n buffer)
  outcome_is a = λ i. system_step (system_of old) old.config (state_of old) (Datagram a.meta (take a.n (room_written old.frame buffer had has i)))

  ruled_is : (a : Arrived) → relay.ruled_outcome_of with_buffer a.meta a.n ≡ ruled_outcome_of_bytes old a.meta (take a.n buffer)
  ruled_is a = λ i. system_step by_rules old.config (state_of old) (Datagram a.meta (take a.n (room_written old.frame buffer had has i)))

  done_is : (a : Arrived) → relay.disposition_of_step with_buffer a.meta a.n ≡ disposition_of_bytes old a.meta (take a.n buffer)
  done_is a = λ i. disposition_of_datagram old.programs old.config (moment_of old.greatest a.meta.now) a.meta.tx a.meta.from old.rows (take a.n (room_written old.frame buffer had has i))

  verdict_is : (a : Arrived) → verdict_of_datagram with_buffer a.meta (datagram_at with_buffer a.n) ≡ verdict_of_datagram old a.meta (take a.n buffer)
  verdict_is a = λ i. verdict_of_datagram old a.meta (take a.n (room_written old.frame buffer had has i))

  -- nothing came, or a receive failed
  pub takes_none : (new : RelayContents) (before after : Option (List Call)) (former latter : Option (List Event)) (came : Result (Option Arrived) LinkFault) (result : Result (Option Served) LinkFault)
      → IsReceived arrival buffer before after former latter came → HasTurned filter old new buffer came [] result
      → IsTurn filter arrival old new before after former latter result
  takes_none new before after former latter came result received taken = record {
    received = received.received;
    buffer = buffer;
    room = has;
    sends = [];
    reported = received.reported;
    recorded = received.recorded;
    records = received.records;
    came = came;
    arrived = received.arrived;
    taken = taken;
  }

  pub takes : (a : Arrived) (new : RelayContents) (answer : Option Sending) (done : Disposition) (before between after : Option (List Call)) (former latter : Option (List Event)) (became : TurnOutcome) (verdict : Option ℕ) (result : Result (Option Served) LinkFault)
      → IsReceived arrival buffer before between former latter (Ok (Some a))
      → HasStepped with_buffer new (relay.outcome_of with_buffer a.meta a.n) → answer ≡ (relay.outcome_of with_buffer a.meta a.n).answer
      → done ≡ relay.disposition_of_step with_buffer a.meta a.n → IsAnswered filter answer done between after became
      → verdict ≡ verdict_of_datagram with_buffer a.meta (datagram_at with_buffer a.n)
      → result ≡ Ok (Some (record { from = a.meta.from; kind = a.kind; outcome = became; verdict = verdict }))
      → (AreShipped old.programs → relay.outcome_of with_buffer a.meta a.n ≡ relay.ruled_outcome_of with_buffer a.meta a.n)
      → IsHarmless old.programs old.config (state_of old) a.meta (datagram_at with_buffer a.n) answer
      → IsTurn filter arrival old new before after former latter result
  takes a new answer done before between after former latter became verdict result received stepped answers does sent ended gives rules harmless =
      let answer_is : answer ≡ (outcome_of_bytes old a.meta (take a.n buffer)).answer = answers ∙ ap (λ (o : SystemOutcome). o.answer) (outcome_is a) in
      record {
        received = received.received;
        buffer = buffer;
        room = has;
        sends = sent.sends;
        reported = reported_more before between after (Received arrival.endpoint buffer received.received ∷ []) sent.sends received.reported sent.reported;
        recorded = received.recorded;
        records = received.records;
        came = Ok (Some a);
        arrived = received.arrived;
        taken = record {
          decided = record {
            stepped = record { state = stepped.state ∙ ap (λ (o : SystemOutcome). o.state) (outcome_is a); config = stepped.config; programs = stepped.programs };
            rules = λ are. sym (outcome_is a) ∙ rules are ∙ ruled_is a;
            harmless =
                let Does : List ℕ → Option Sending → Type 0 = λ bytes sent. IsHarmless old.programs old.config (state_of old) a.meta bytes sent in
                subst (λ (bytes : List ℕ). Does bytes (outcome_of_bytes old a.meta (take a.n buffer)).answer) (ap (take a.n) (room_written old.frame buffer had has))
                (subst (λ (o : Option Sending). Does (datagram_at with_buffer a.n) o) answer_is harmless);
          };
          became = became;
          answered = subst (λ d. HasAnswered filter (outcome_of_bytes old a.meta (take a.n buffer)).answer d sent.sends became) (does ∙ done_is a)
              (subst (λ o. HasAnswered filter o done sent.sends became) answer_is sent.answered);
          served = gives ∙ ap (λ v. Ok (Some (record { from = a.meta.from; kind = a.kind; outcome = became; verdict = v }))) (ended ∙ verdict_is a);
        };
      }
