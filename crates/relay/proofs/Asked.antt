-- A step that doesn't ask what confines the programs, where that decides nothing.
use Rattle.std.proofs.Common.{◌≡◌, ℕ, List, Bool, true, false, refl, sym, ap}
use Rattle.std.specs.Prelude.{◌&&◌, None, if◌then◌else◌}
use Rattle.insn.specs.declared.instruction.Insn.{Insn}
use Rattle.events.specs.declared.meta.Meta.{Meta}
use Rattle.events.specs.declared.meta.Source.{Source}
use Rattle.events.specs.declared.meta.Source.TheVariants.{Client, Peer}
use Rattle.programs.specs.Runs.{run_for}
use Rattle.rules.specs.Systems.{is_served}
use Rattle.tables.specs.Moments.{moment_of}
use Rattle.tables.specs.Rows.{rows_at}
use Rattle.relay.specs.ByPrograms.{is_there, program_for}
use Rattle.relay.specs.Choices.{chosen_of}
use Rattle.relay.specs.EventRuns.{exit_verdict, verdict_of_datagram}
use Rattle.relay.specs.Relays.{RelayContents, datagram_at}
use Rattle.relay.specs.Steps.{disposition_of_step, outcome_of}
use Rattle.relay.specs.Unconfined.{IsSameUnconfined, asking}

-- where it asks, or is the same unconfined
abbrev Decides : Bool → RelayContents → Meta → ℕ → Type 0
Decides asks r given n = asks ≡ false → IsSameUnconfined r given n

pub same_outcome : (asks : Bool) (r : RelayContents) (given : Meta) (n : ℕ) → Decides asks r given n → outcome_of (asking asks r) given n ≡ outcome_of r given n
same_outcome true r given n same = refl
same_outcome false r given n same = sym (same refl).outcome

pub same_disposition : (asks : Bool) (r : RelayContents) (given : Meta) (n : ℕ) → Decides asks r given n → disposition_of_step (asking asks r) given n ≡ disposition_of_step r given n
same_disposition true r given n same = refl
same_disposition false r given n same = sym (same refl).disposition

pub same_choice : (asks : Bool) (r : RelayContents) (given : Meta) (n : ℕ) → Decides asks r given n → chosen_of (asking asks r) given (datagram_at r n) ≡ chosen_of r given (datagram_at r n)
same_choice true r given n same = refl
same_choice false r given n same = sym (same refl).choice

-- ---- the verdict

same_program : (asks : Bool) (r : RelayContents) (from : Source) → program_for (asking asks r).programs from ≡ program_for r.programs from
same_program asks r (Client client) = refl
same_program asks r (Peer slot peer) = refl

-- of a run that doesn't ask, either
pub same_verdict : (asks : Bool) (r : RelayContents) (given : Meta) (bytes : List ℕ) → verdict_of_datagram (asking asks r) given bytes ≡ verdict_of_datagram r given bytes
same_verdict asks r given bytes =
    ap (λ (code : List Insn). if is_served given.from && is_there given.from r.rows
    then exit_verdict (run_for code given.tx given.from (rows_at (moment_of r.greatest given.now) r.rows) bytes).ending else None)
    (same_program asks r given.from)
