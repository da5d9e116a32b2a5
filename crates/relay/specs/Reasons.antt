-- Meaning. Why a step sent what it did: what was done with a datagram, or where the program of its side decided to send
-- nothing though the rules would, and by which verdict, or what was missing.
use Rattle.std.specs.Prelude.{◌≡◌, ◌≢◌, ℕ, List, [], ◌∷◌, ◌==◌, Option, None, Some, false, if◌then◌else◌}
use Rattle.semantics.specs.Machine.{State}
use Rattle.semantics.specs.Runs as runs
use Rattle.semantics.specs.Runs.{Ending, Run}
use Rattle.semantics.specs.declared.fetching.Visit.{Visit}
use Rattle.addresses.specs.Addresses.{is_of_family}
use Rattle.addresses.specs.declared.address.Addr.{Addr}
use Rattle.control.specs.declared.config.Config.{Config}
use Rattle.tables.specs.LookUps.{allocation_at, allocation_of}
use Rattle.tables.specs.Moments.{moment_of}
use Rattle.tables.specs.Rows.{Rows, rows_at}
use Rattle.tables.specs.declared.allocation.Allocation.{Allocation}
use Rattle.events.specs.Events.{Event, Datagram, Nonce}
use Rattle.events.specs.declared.meta.Source.{Source}
use Rattle.events.specs.declared.meta.Source.TheVariants.{Client, Peer}
use Rattle.programs.specs.Runs.{destination_in, run_for, window_in}
use Rattle.programs.specs.declared.verdict.TheConstants.{SENDS}
use Rattle.rules.specs.Discards.{discard_in, ruled_disposition}
use Rattle.rules.specs.Systems.{SystemState, with_nonce}
use Rattle.rules.specs.declared.disposition.Discard.{Discard}
use Rattle.rules.specs.declared.disposition.Discard.TheVariants.{ByProgram}
use Rattle.rules.specs.declared.disposition.Disposition.{Disposition}
use Rattle.rules.specs.declared.disposition.Disposition.TheVariants.{Discarded}
use Rattle.relay.specs.ByPrograms.{Programs, program_for, disposition_of_datagram}
use Rattle.relay.specs.declared.reason.StepReason.{StepReason}
use Rattle.relay.specs.declared.reason.StepReason.TheVariants.{NonceSet, Done, Program}
use Rattle.relay.specs.declared.reason.Unsent.{Unsent}
use Rattle.relay.specs.declared.reason.Unsent.TheVariants.{Verdict, NoWindow, NoAllocation, NoDestination, OtherFamily}

-- ---- where a run exits

-- the slot of the last step of a path, and `slot` where there is none
abbrev pub last_slot_of : ℕ → List Visit → ℕ
last_slot_of slot [] = slot
last_slot_of slot (v ∷ path) = last_slot_of v.slot path

-- the slot at which the run over a datagram exits
abbrev pub exit_slot : Programs → List ℕ → Source → Rows → List ℕ → ℕ
exit_slot programs tx from live bytes =
    last_slot_of 0 (run_for (program_for programs from) tx from live bytes).path

-- ---- why a program sends nothing

-- What is missing first of a window that verdict 2 would send (`planned_sending`), where something is: of a client's the
-- allocation, the destination, and a destination of the allocation's family; of a peer's the allocation, which is all that it needs.
abbrev pub missing_to_peer : Option Allocation → Option Addr → Unsent
missing_to_peer None destination = NoAllocation
missing_to_peer (Some a) None = NoDestination
missing_to_peer (Some a) (Some peer) = OtherFamily

abbrev pub missing_beside_window : Source → Rows → Option Addr → Unsent
missing_beside_window (Client client) live destination = missing_to_peer (allocation_of client live) destination
missing_beside_window (Peer slot peer) live destination = NoAllocation

abbrev pub missing_of_plan : {W : Type 0} → Source → Rows → Option Addr → Option W → Unsent
missing_of_plan from live destination None = NoWindow
missing_of_plan from live destination (Some window) = missing_beside_window from live destination

-- where a run exits with a verdict, and nothing is sent
abbrev pub unsent_by : Source → Rows → ℕ → State → Unsent
unsent_by from live verdict s =
    if verdict == SENDS then missing_of_plan from live (destination_in s) (window_in s) else Verdict verdict

-- a run of a verified program always exits; any other ending counts as verdict 0, which sends nothing either
abbrev pub unsent_by_ending : Source → Rows → State → Ending → Unsent
unsent_by_ending from live s (runs.Exited verdict) = unsent_by from live verdict s
unsent_by_ending from live s (runs.Stuck reason slot) = Verdict 0
unsent_by_ending from live s runs.Running = Verdict 0

abbrev pub unsent_by_run : Source → Rows → Run → Unsent
unsent_by_run from live r = unsent_by_ending from live r.state r.ending

-- why the run over a datagram sends nothing
abbrev pub exit_unsent : Programs → List ℕ → Source → Rows → List ℕ → Unsent
exit_unsent programs tx from live bytes = unsent_by_run from live (run_for (program_for programs from) tx from live bytes)

-- the allocation of the slot in which a program looks up
abbrev pub allocation_for : Source → Rows → Option Allocation
allocation_for (Client client) live = allocation_of client live
allocation_for (Peer slot peer) live = allocation_at slot live

-- What is said of why nothing is sent holds at an exit with a verdict: it is another verdict than the one that sends, or it is that
-- one and this is missing. A destination is only of the window of a client's datagram.
abbrev pub HoldsAtExit : Source → Rows → ℕ → State → Unsent → Type 0
HoldsAtExit from live verdict s (Verdict n) = (verdict ≡ n) × (verdict ≢ SENDS)
HoldsAtExit from live verdict s NoWindow = (verdict ≡ SENDS) × (window_in s ≡ None)
HoldsAtExit from live verdict s NoAllocation = (verdict ≡ SENDS) × (allocation_for from live ≡ None)
HoldsAtExit from live verdict s NoDestination = (verdict ≡ SENDS) × (client : Addr) × (from ≡ Client client) × (destination_in s ≡ None)
HoldsAtExit from live verdict s OtherFamily = (verdict ≡ SENDS) × (client : Addr) × (from ≡ Client client) × (a : Allocation)
    × (allocation_of client live ≡ Some a) × (peer : Addr) × (destination_in s ≡ Some peer) × (is_of_family a.family peer ≡ false)

-- ---- the reason

-- where a program sends nothing: why the rules send nothing, or where they send something, the slot of the exit, and why the
-- program sends nothing there
abbrev pub reason_of_exit : Option Discard → ℕ → Unsent → StepReason
reason_of_exit (Some reason) slot unsent = Done (Discarded reason)
reason_of_exit None slot unsent = Program slot unsent

-- by what a step did, why the rules send nothing, if they do, the slot of the exit, and why nothing is sent there
abbrev pub reason_of : Disposition → Option Discard → ℕ → Unsent → StepReason
reason_of (Discarded ByProgram) ruled slot unsent = reason_of_exit ruled slot unsent
reason_of done ruled slot unsent = Done done

abbrev pub reason_of_datagram : Programs → Config → ℕ → List ℕ → Source → Rows → List ℕ → StepReason
reason_of_datagram programs config now tx from rows bytes =
    reason_of (disposition_of_datagram programs config now tx from rows bytes)
    (discard_in (ruled_disposition config now tx from rows bytes))
    (exit_slot programs tx from (rows_at now rows) bytes)
    (exit_unsent programs tx from (rows_at now rows) bytes)

abbrev pub reason_of_event : Programs → Config → SystemState → Event → StepReason
reason_of_event programs config s (Datagram given bytes) =
    reason_of_datagram programs (with_nonce config s.nonce) (moment_of s.greatest given.now)
    given.tx given.from s.rows bytes
reason_of_event programs config s (Nonce text) = NonceSet
