-- Meaning. The system with loaded programs: every datagram first goes through the run of its side's program. And what it
-- does with a datagram (this profile).
use Rattle.std.specs.Prelude.{ℕ, List, Bool, true, Option, None, Some, length, nat_lt, ◌==◌, if◌then◌else◌}
use Rattle.insn.specs.declared.instruction.Insn.{Insn}
use Rattle.semantics.specs.Runs as runs
use Rattle.semantics.specs.Runs.{Run, Ending}
use Rattle.tables.specs.Rows.{Rows, rows_at}
use Rattle.addresses.specs.declared.address.Addr.{Addr}
use Rattle.control.specs.declared.config.Config.{Config}
use Rattle.events.specs.Events.{Sending}
use Rattle.events.specs.declared.meta.Source.{Source}
use Rattle.events.specs.declared.meta.Source.TheVariants.{Client, Peer}
use Rattle.basics.specs.Options.{◌>>=◌, guard}
use Rattle.programs.specs.Runs.{run_for, datagram_in, sent_by}
use Rattle.programs.specs.declared.verdict.TheConstants.{PASSES}
use Rattle.rules.specs.ByRules.{from_client}
use Rattle.rules.specs.Dispositions.{client_disposition}
use Rattle.rules.specs.Permitted.{is_permitted}
use Rattle.rules.specs.declared.confinement.Alias.{Alias}
use Rattle.rules.specs.declared.confinement.Confinement.{Confinement}
use Rattle.rules.specs.declared.disposition.Discard.TheVariants.{NotServed, ByProgram, Confined}
use Rattle.rules.specs.declared.disposition.Disposition.{Disposition}
use Rattle.rules.specs.declared.disposition.Disposition.TheVariants.{Relayed, Discarded}
use Rattle.rules.specs.Systems.{SystemReply, no_answer, reply_of_relaying, is_served, System}

-- the programs of the two sides, and what confines them, if anything does: of what they would send, nothing is sent that a client
-- hasn't permitted
pub record Programs : Type 0 where
  pub client : List Insn
  pub peer : List Insn
  pub confinement : Option Confinement

abbrev pub program_for : Programs → Source → List Insn
program_for programs (Client client) = programs.client
program_for programs (Peer slot peer) = programs.peer

-- ---- what follows from a run, by what follows from a client's datagram that is passed on, and from what is sent else

-- a datagram that is passed on goes by the rules if it is a client's, as it is at the exit, and is discarded if it is a
-- peer's
abbrev pub of_passing : {X : Type 0} → (Addr → List ℕ → X) → (Option Sending → X) → Source → List ℕ → X
of_passing passes sends (Client client) bytes = passes client bytes
of_passing passes sends (Peer slot peer) bytes = sends None

abbrev pub of_verdict : {X : Type 0} → (Addr → List ℕ → X) → (Option Sending → X) → Source → Rows → ℕ → Run → ℕ → X
of_verdict passes sends from live size r verdict =
    if verdict == PASSES then of_passing passes sends from (datagram_in size r.state) else sends (sent_by from live verdict r.state)

-- a stuck run sends nothing
abbrev pub of_ending : {X : Type 0} → (Addr → List ℕ → X) → (Option Sending → X) → Source → Rows → ℕ → Run → Ending → X
of_ending passes sends from live size r (runs.Exited verdict) = of_verdict passes sends from live size r verdict
of_ending passes sends from live size r (runs.Stuck reason slot) = sends None
of_ending passes sends from live size r runs.Running = sends None

abbrev pub of_run : {X : Type 0} → (Addr → List ℕ → X) → (Option Sending → X) → Source → Rows → ℕ → Run → X
of_run passes sends from live size r = of_ending passes sends from live size r r.ending

-- ---- confinement

-- what is permitted of what a program sends
abbrev pub permitted_only : List Alias → Source → Rows → Option Sending → Option Sending
permitted_only aliases from live sent = do
  sending ← sent
  _ ← guard (is_permitted aliases from live sending)
  Some sending

abbrev pub let_through : Option Confinement → Source → Rows → Option Sending → Option Sending
let_through None from live sent = sent
let_through (Some confinement) from live sent = permitted_only confinement.aliases.items from live sent

-- ---- the reply

abbrev pub by_run : Option Confinement → Config → ℕ → Source → Rows → ℕ → Run → SystemReply
by_run confinement config now from rows size r =
    of_run (λ client bytes. from_client config now client rows bytes)
    (λ sent. reply_of_relaying rows (let_through confinement from (rows_at now rows) sent)) from (rows_at now rows) size r

-- a peer's datagram comes to a slot that is there
abbrev pub is_there : Source → Rows → Bool
is_there (Client client) rows = true
is_there (Peer slot peer) rows = nat_lt slot (length rows.slots)

abbrev pub by_programs : Programs → System
by_programs programs config now tx from rows bytes =
    if is_there from rows
    then by_run programs.confinement config now from rows (length bytes) (run_for (program_for programs from) tx from (rows_at now rows) bytes)
    else no_answer rows

-- ---- what is done with a datagram

-- it is relayed where a program sends something
abbrev pub relayed_where_sent : Option Sending → Disposition
relayed_where_sent None = Discarded ByProgram
relayed_where_sent (Some sending) = Relayed

-- where programs are confined, only if it is permitted
abbrev pub relayed_where_permitted : List Alias → Source → Rows → Option Sending → Disposition
relayed_where_permitted aliases from live None = Discarded ByProgram
relayed_where_permitted aliases from live (Some sending) = if is_permitted aliases from live sending then Relayed else Discarded Confined

abbrev pub disposition_of_sent : Option Confinement → Source → Rows → Option Sending → Disposition
disposition_of_sent None from live sent = relayed_where_sent sent
disposition_of_sent (Some confinement) from live sent = relayed_where_permitted confinement.aliases.items from live sent

abbrev pub disposition_by_run : Option Confinement → Config → ℕ → Source → Rows → ℕ → Run → Disposition
disposition_by_run confinement config now from rows size r =
    of_run (λ client bytes. client_disposition config now client rows bytes)
    (disposition_of_sent confinement from (rows_at now rows)) from (rows_at now rows) size r

abbrev pub disposition_by_programs : Programs → Config → ℕ → List ℕ → Source → Rows → List ℕ → Disposition
disposition_by_programs programs config now tx from rows bytes =
    if is_there from rows
    then disposition_by_run programs.confinement config now from rows (length bytes) (run_for (program_for programs from) tx from (rows_at now rows) bytes)
    else Discarded NotServed

-- clients are served over IPv4
abbrev pub disposition_of_datagram : Programs → Config → ℕ → List ℕ → Source → Rows → List ℕ → Disposition
disposition_of_datagram programs config now tx from rows bytes =
    if is_served from then disposition_by_programs programs config now tx from rows bytes else Discarded NotServed
