-- A datagram that was read over the room of a relay, and stepped.
use Rattle.std.proofs.Common.{◌≡◌, ℕ, Bool, true, false, List, ◌++◌, length, take, refl, sym, subst, ap, ◌∙◌}
use Rattle.std.specs.Prelude.{Option, Some, is_some}
use Rattle.machine.specs.Contents.{room_of, with_room}
use Rattle.machine.specs.laws.Frame.{room_written}
use Rattle.semantics.specs.declared.limits.TheConstants.{MAX_DATAGRAM}
use Rattle.control.specs.declared.config.Config.{Config}
use Rattle.tables.specs.Moments.{moment_of}
use Rattle.events.specs.Events.{Event, Datagram, Sending}
use Rattle.basics.specs.Outputs.{AppendsBeginning}
use Rattle.events.specs.Lines.{answer_line}
use Rattle.events.specs.Parsing.{event_of}
use Rattle.events.specs.Reading.{event_in}
use Rattle.events.specs.declared.meta.Meta.{Meta}
use Rattle.events.specs.declared.parsing.Parsed.{Parsed}
use Rattle.events.specs.declared.parsing.Parsed.TheVariants as parsed
use Rattle.relay.specs.ByPrograms.{disposition_of_datagram}
use Rattle.relay.specs.Evidence.{evidence_of_line, reason_by}
use Rattle.relay.specs.ReasonTexts.{line_ending}
use Rattle.relay.specs.Relays.{RelayContents, state_of, datagram_at}
use Rattle.relay.specs.Replays.{system_of, after_line, answer_to, reason_wanted, IsCut}
use Rattle.relay.specs.Steps.{HasStepped, outcome_of, disposition_of_step}
use Rattle.relay.specs.declared.explaining.Evidence.{Evidence}
use Rattle.rules.specs.Systems.{SystemOutcome, system_step, with_nonce}
use Rattle.rules.specs.declared.disposition.Disposition.{Disposition}
use Rattle.relay.proofs.SameNonce.{disposition_of_datagram_same}

-- the datagram that was read is the event of a line
pub read_is : (old mid : RelayContents) (line room : List ℕ) (slots : ℕ) (p : Parsed) (given : Meta) (n : ℕ)
    → p ≡ parsed.Datagram given n → Some (event_of room p) ≡ event_in slots line
    → slots ≡ mid.config.slots → mid ≡ record old { frame = mid.frame }
    → Some (Datagram given (take n room)) ≡ event_in old.config.slots line
read_is old mid line room slots p given n is reads same kept =
    (λ i. Some (event_of room (sym is i))) ∙ reads ∙ ap (λ s. event_in s line) same
    ∙ ap (λ (r : RelayContents). event_in r.config.slots line) kept

-- before the step all but the frame was as it is in `old`
module _ (old mid : RelayContents) (room : List ℕ) (given : Meta) (n : ℕ) (read : Option Event)
    (kept : mid ≡ record old { frame = mid.frame })
    (had : length (room_of mid.frame) ≡ MAX_DATAGRAM) (has : length room ≡ MAX_DATAGRAM)
    (is : Some (Datagram given (take n room)) ≡ read) where
  abbrev pub with_bytes : RelayContents
  with_bytes = record mid { frame = with_room mid.frame room }

  abbrev config : Config
  config = with_nonce old.config old.config.nonce.bytes

  bytes_are : datagram_at with_bytes n ≡ take n room
  bytes_are = ap (take n) (room_written mid.frame room had has)

  -- the datagram of the step is the event's
  outcome_is : outcome_of with_bytes given n
      ≡ system_step (system_of old) old.config (state_of old) (Datagram given (take n room))
  outcome_is = λ i. system_step (system_of (kept i)) (kept i).config (state_of (kept i)) (Datagram given (bytes_are i))

  -- what the programs do with it
  abbrev done_by_programs : Disposition
  done_by_programs = disposition_of_datagram old.programs config (moment_of old.greatest given.now) given.tx
      given.from old.rows (take n room)

  disposition_is : disposition_of_step with_bytes given n ≡ done_by_programs
  disposition_is =
      (λ i. disposition_of_datagram (kept i).programs (kept i).config (moment_of (kept i).greatest given.now)
      given.tx given.from (kept i).rows (bytes_are i))
      ∙ sym (disposition_of_datagram_same old.config old.programs (moment_of old.greatest given.now) given.tx
      given.from old.rows (take n room))

  pub state_is : (new : RelayContents) → HasStepped with_bytes new (outcome_of with_bytes given n)
      → state_of new ≡ after_line (system_of old) old.config (state_of old) read
  state_is new stepped = stepped.state ∙ ap (λ (o : SystemOutcome). o.state) outcome_is
      ∙ ap (after_line (system_of old) old.config (state_of old)) is

  module _ (explains : Bool) (sent : Option Sending) (done : Disposition) (evidence : Option Evidence)
      (sends : sent ≡ (outcome_of with_bytes given n).answer)
      (does : done ≡ disposition_of_step with_bytes given n) (are : evidence ≡ evidence_of_line explains config old read) where
    -- the reason of the step is that of the event
    reason_is : reason_by done evidence
        ≡ reason_wanted explains old.programs old.config (state_of old) (Datagram given (take n room))
    reason_is =
        (λ i. reason_by ((does ∙ disposition_is) i) ((are ∙ ap (evidence_of_line explains config old) (sym is)) i))
        ∙ wanted explains where
          wanted : (b : Bool) → reason_by done_by_programs (evidence_of_line b config old (Some (Datagram given (take n room))))
              ≡ reason_wanted b old.programs old.config (state_of old) (Datagram given (take n room))
          wanted true = refl
          wanted false = refl

    -- its line is that of the event's answer
    pub answer_is : answer_line sent ++ line_ending (reason_by done evidence)
        ≡ answer_to explains old.programs old.config (state_of old) read
    answer_is =
        (λ i. answer_line (sends i) ++ line_ending (reason_is i))
        ∙ ap (λ (o : SystemOutcome). answer_line o.answer
        ++ line_ending (reason_wanted explains old.programs old.config (state_of old) (Datagram given (take n room))))
        outcome_is
        ∙ ap (answer_to explains old.programs old.config (state_of old)) is

    -- a beginning of it is one of that answer
    pub cut_is : (held holds : Option (List ℕ))
        → AppendsBeginning held holds (answer_line sent ++ line_ending (reason_by done evidence))
        → IsCut explains held holds old.programs old.config (state_of old) read
    cut_is held holds wrote = record {
      known = ap is_some (sym is);
      written = subst (AppendsBeginning held holds) answer_is wrote;
    }
