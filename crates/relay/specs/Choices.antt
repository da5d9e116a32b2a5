-- Meaning. What a program does with a datagram in the state of a relay, before the rules: what is compared of two programs.
use Rattle.std.specs.Prelude.{◌≡◌, ℕ, ◌&&◌, List, length, Option, None, if◌then◌else◌}
use Rattle.insn.specs.declared.instruction.Insn.{Insn}
use Rattle.semantics.specs.Runs.{Run}
use Rattle.tables.specs.Moments.{moment_of}
use Rattle.tables.specs.Rows.{Rows, rows_at}
use Rattle.events.specs.Events.{Sending}
use Rattle.events.specs.declared.meta.Meta.{Meta}
use Rattle.events.specs.declared.meta.Source.{Source}
use Rattle.events.specs.declared.meta.Source.TheVariants.{Client, Peer}
use Rattle.programs.specs.Runs.{run_for}
use Rattle.rules.specs.Systems.{is_served}
use Rattle.rules.specs.declared.confinement.Confinement.{Confinement}
use Rattle.relay.specs.ByPrograms.{Programs, is_there, let_through, of_run, program_for}
use Rattle.relay.specs.Relays.{RelayContents, datagram_at}
use Rattle.relay.specs.Steps.{outcome_of}

-- the rules get bytes, or this is sent, which may be nothing
pub data Chosen : Type 0 where
  Passing : (bytes : List ℕ) → Chosen
  Relaying : (sent : Option Sending) → Chosen

-- of what a confined program sends, what is permitted
abbrev pub chosen_by_run : Option Confinement → Source → Rows → ℕ → Run → Chosen
chosen_by_run confinement from live size r =
    of_run (λ client bytes. Passing bytes) (λ sent. Relaying (let_through confinement from live sent)) from live size r

-- at a moment; where the source isn't served, no program runs
abbrev pub chosen_at : RelayContents → Meta → List ℕ → ℕ → Chosen
chosen_at r given bytes moment =
    if is_served given.from && is_there given.from r.rows
    then chosen_by_run r.programs.confinement given.from (rows_at moment r.rows) (length bytes)
    (run_for (program_for r.programs given.from) given.tx given.from (rows_at moment r.rows) bytes)
    else Relaying None

-- what the program of a datagram's side does with it
abbrev pub chosen_of : RelayContents → Meta → List ℕ → Chosen
chosen_of r given bytes = chosen_at r given bytes (moment_of r.greatest given.now)

-- the programs, with another one for clients' datagrams where the source is a client, and for peers' where it is a peer
abbrev pub client_with : Source → List Insn → List Insn → List Insn
client_with (Client client) program old = program
client_with (Peer slot peer) program old = old

abbrev pub peer_with : Source → List Insn → List Insn → List Insn
peer_with (Client client) program old = old
peer_with (Peer slot peer) program old = program

abbrev pub programs_with : Programs → Source → List Insn → Programs
programs_with programs from program = record {
  client = client_with from program programs.client;
  peer = peer_with from program programs.peer;
  confinement = programs.confinement;
}

-- the relay with another program at the side of a source
abbrev pub with_program : RelayContents → Source → List Insn → RelayContents
with_program r from program = record r { programs = programs_with r.programs from program }

-- where another program does the same with a datagram, the relay with that program does the same: rows, moment and answer
abbrev pub SameChoiceIsSameStep : RelayContents → Meta → ℕ → List Insn → Type 0
SameChoiceIsSameStep r given n program =
    chosen_of (with_program r given.from program) given (datagram_at r n) ≡ chosen_of r given (datagram_at r n)
    → outcome_of (with_program r given.from program) given n ≡ outcome_of r given n
