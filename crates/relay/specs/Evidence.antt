-- Internal. What explains the step of a datagram, as it is found before the step.
use Rattle.std.specs.Prelude.{ℕ, Bool, List, Option, None, Some, if◌then◌else◌, option_map}
use Rattle.control.specs.declared.config.Config.{Config}
use Rattle.tables.specs.Moments.{moment_of}
use Rattle.tables.specs.Rows.{rows_at}
use Rattle.events.specs.Events.{Event, Datagram, Nonce}
use Rattle.events.specs.declared.meta.Meta.{Meta}
use Rattle.rules.specs.Discards.{discard_in, ruled_disposition}
use Rattle.rules.specs.declared.disposition.Disposition.{Disposition}
use Rattle.relay.specs.Reasons.{exit_slot, exit_unsent, reason_of}
use Rattle.relay.specs.Relays.{RelayContents}
use Rattle.relay.specs.declared.explaining.Evidence.{Evidence}
use Rattle.relay.specs.declared.reason.StepReason.{StepReason}

-- ---- what explains a step

-- of the bytes of a datagram, under a configuration
abbrev pub evidence_of : Config → RelayContents → Meta → List ℕ → Evidence
evidence_of config r given bytes = record {
  ruled = discard_in (ruled_disposition config (moment_of r.greatest given.now) given.tx given.from r.rows bytes);
  slot = exit_slot r.programs given.tx given.from (rows_at (moment_of r.greatest given.now) r.rows) bytes;
  unsent = exit_unsent r.programs given.tx given.from (rows_at (moment_of r.greatest given.now) r.rows) bytes;
}

-- where reasons are wanted, and the event of a line is a datagram
abbrev pub evidence_of_line : Bool → Config → RelayContents → Option Event → Option Evidence
evidence_of_line explains config r None = None
evidence_of_line explains config r (Some (Nonce text)) = None
evidence_of_line explains config r (Some (Datagram given bytes)) =
    if explains then Some (evidence_of config r given bytes) else None

-- the reason of a step that did this, where there is evidence
abbrev pub reason_by : Disposition → Option Evidence → Option StepReason
reason_by done evidence = option_map (λ g. reason_of done g.ruled g.slot g.unsent) evidence
