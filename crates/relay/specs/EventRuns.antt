-- Meaning. The run that the step of an event makes, its verdict, and what is reported of it.
use Rattle.std.specs.Prelude.{◌≡◌, ℕ, ◌&&◌, List, Option, None, Some, Result, if◌then◌else◌}
use Rattle.tables.specs.Moments.{moment_of}
use Rattle.tables.specs.Rows.{rows_at}
use Rattle.events.specs.Events.{Event, Datagram, Nonce}
use Rattle.events.specs.declared.meta.Meta.{Meta}
use Rattle.relay.specs.Relays.{RelayContents}
use Rattle.events.specs.declared.meta.Source.{Source}
use Rattle.events.specs.declared.meta.Source.TheVariants.{Client, Peer}
use Rattle.machine.specs.Tracing.{EndsWith, Reports}
use Rattle.machine.specs.declared.context.Side.{Side}
use Rattle.machine.specs.declared.context.Side.TheVariants as side
use Rattle.machine.specs.declared.outcome.Outcome.{Outcome}
use Rattle.machine.specs.declared.outcome.Stuck.{Stuck}
use Rattle.programs.specs.Runs.{run_for}
use Rattle.rules.specs.Systems.{is_served}
use Rattle.semantics.specs.Runs as runs
use Rattle.semantics.specs.Runs.{Ending, Run}
use Rattle.semantics.specs.declared.fetching.Visit.{Visit}
use Rattle.relay.specs.ByPrograms.{is_there, program_for}

-- the side that a datagram comes from
abbrev pub side_of : Source → Side
side_of (Client client) = side.Client
side_of (Peer slot peer) = side.Peer

-- the run that the step of a datagram makes, of the program of its side
abbrev pub run_of_datagram : RelayContents → Meta → List ℕ → Run
run_of_datagram r given bytes =
    run_for (program_for r.programs given.from) given.tx given.from (rows_at (moment_of r.greatest given.now) r.rows) bytes

-- the verdict of a run that exits
abbrev pub exit_verdict : Ending → Option ℕ
exit_verdict (runs.Exited verdict) = Some verdict
exit_verdict (runs.Stuck reason slot) = None
exit_verdict runs.Running = None

-- the verdict of that run; a source that isn't served has none, since no program runs
abbrev pub verdict_of_datagram : RelayContents → Meta → List ℕ → Option ℕ
verdict_of_datagram r given bytes =
    if is_served given.from && is_there given.from r.rows then exit_verdict (run_of_datagram r given bytes).ending else None

-- the run of an event, if it is a datagram
abbrev pub run_of_event : RelayContents → Option Event → Option (Side × Run)
run_of_event r None = None
run_of_event r (Some (Nonce text)) = None
run_of_event r (Some (Datagram given bytes)) = Some (side_of given.from, run_of_datagram r given bytes)

-- where there is a run, its steps were reported to a sink, and this is its side and its end
abbrev pub IsTraced : {Log : Type 0} → (Log → Visit → Log → Type 0) → Log → Log → Option (Side × Run) → Option (Side × Result Outcome Stuck) → Type 0
IsTraced Logs old new None None = old ≡ new
IsTraced Logs old new None (Some found) = ⊥
IsTraced Logs old new (Some run) None = ⊥
IsTraced Logs old new (Some run) (Some found) = (found.0 ≡ run.0) × EndsWith found.1 run.1 × Reports Logs old run.1.path new
