-- Meaning. The run of a program over a datagram of a relay, and what its end sends.
use Rattle.std.specs.Prelude.{ℕ, List, Option, None, Some, option_map, ◌==◌, if◌then◌else◌}
use Rattle.insn.specs.declared.instruction.Insn.{Insn}
use Rattle.semantics.specs.Access.{part}
use Rattle.semantics.specs.Machine.{Environment, State}
use Rattle.semantics.specs.Runs.{Run}
use Rattle.semantics.specs.declared.limits.TheConstants.{HEADROOM}
use Rattle.addresses.specs.declared.address.Addr.{Addr}
use Rattle.helpers.specs.LookUps.{look_up_answer}
use Rattle.semantics.specs.Records.{address_of}
use Rattle.machine.specs.Contexts.{environment_around, context_of}
use Rattle.machine.specs.Tracing.{run_over}
use Rattle.machine.specs.declared.context.Context.{Context}
use Rattle.machine.specs.declared.context.Side.TheVariants as side
use Rattle.tables.specs.Rows.{Rows}
use Rattle.tables.specs.LookUps.{allocation_of}
use Rattle.events.specs.Events.{Sending, ToClient}
use Rattle.events.specs.declared.meta.Source.{Source}
use Rattle.events.specs.declared.meta.Source.TheVariants.{Client, Peer}
use Rattle.basics.specs.Options.{◌>>=◌}
use Rattle.programs.specs.declared.verdict.TheConstants.{SENDS}
use Rattle.rules.specs.Rules.{client_slot, client_at, to_peer}

-- ---- the start

abbrev pub context_for : List ℕ → Source → Context
context_for tx (Client client) = record { side = side.Client; source = client; tx = tx }
context_for tx (Peer slot peer) = record { side = side.Peer; source = peer; tx = tx }

-- the slot in which helpers look up: that of the client's allocation, or the one that a peer's datagram came to
abbrev pub slot_for : Source → Rows → Option ℕ
slot_for (Client client) rows = client_slot client rows
slot_for (Peer slot peer) rows = Some slot

-- with look-ups in the live rows
abbrev pub environment_for : List ℕ → Source → Rows → Environment
environment_for tx from rows = environment_around (context_of (context_for tx from)) (look_up_answer (slot_for from rows) rows)

abbrev pub run_for : List Insn → List ℕ → Source → Rows → List ℕ → Run
run_for code tx from rows bytes = run_over (environment_for tx from rows) code bytes

-- ---- the end

-- a datagram of a length, and the bytes of the window, as they are in a state
abbrev pub datagram_in : ℕ → State → List ℕ
datagram_in size s = part size HEADROOM s.memory.bytes

abbrev pub window_in : State → Option (List ℕ)
window_in s = option_map (λ w. part w.1 w.0 s.memory.bytes) s.plan.window

abbrev pub destination_in : State → Option Addr
destination_in s = option_map address_of s.plan.destination

-- What verdict 2 sends: of a client's datagram the window to the destination, where both are set and the client has an
-- allocation of the destination's family; of a peer's the window to the client of the slot's allocation.
abbrev pub planned_sending : Source → Rows → Option Addr → Option (List ℕ) → Option Sending
planned_sending (Client client) rows destination window = do
  bytes ← window
  a ← allocation_of client rows
  peer ← destination
  to_peer a (peer, bytes)
planned_sending (Peer slot peer) rows destination window = do
  bytes ← window
  client ← client_at slot rows
  Some (ToClient client bytes)

-- what is sent where a run exits with a verdict
abbrev pub sent_by : Source → Rows → ℕ → State → Option Sending
sent_by from rows verdict s = if verdict == SENDS then planned_sending from rows (destination_in s) (window_in s) else None
