-- The slot in which helpers look up, found once: their answers, and the run of a step.
use Rattle.std.proofs.Common.{◌≡◌, ℕ, List, length, Option, Some, None, option_map, refl, sym, ap, subst, ◌∙◌}
use Rattle.insn.specs.declared.instruction.Insn.{Insn}
use Rattle.machine.specs.Contents as machine
use Rattle.machine.specs.Contexts.{environment_around, context_of}
use Rattle.machine.specs.Tracing.{run_over}
use Rattle.machine.specs.declared.context.Context.{Context}
use Rattle.machine.specs.declared.outcome.Outcome.{Outcome}
use Rattle.events.specs.declared.meta.Meta.{Meta}
use Rattle.tables.specs.LookUps.{held_by}
use Rattle.tables.specs.Rows.{Rows, rows_at}
use Rattle.tables.specs.WellFormed.{AreWellFormed}
use Rattle.tables.specs.laws.WellFormed.{held_by-at_slot, rows_at-well_formed}
use Rattle.tables.specs.declared.held.Held.{Held}
use Rattle.helpers.specs.LookUps.{held_answer, look_up_answer}
use Rattle.helpers.specs.laws.LookUps.{unheld_answer}
use Rattle.events.specs.declared.meta.Source.{Source}
use Rattle.events.specs.declared.meta.Source.TheVariants.{Client, Peer}
use Rattle.programs.specs.Runs.{context_for, slot_for}
use Rattle.relay.specs.ByPrograms.{program_for}
use Rattle.relay.specs.Forwarding.{held_for, run_at, HasRun}
use Rattle.relay.specs.Relays.{RelayContents, datagram_at}

-- what is live there answers as the slot does
pub answers_for : (from : Source) (rows : Rows) → AreWellFormed rows → held_answer (held_for from rows) ≡ look_up_answer (slot_for from rows) rows
answers_for (Client client) rows are =
    elim (held_by client rows) as (λ o. held_by client rows ≡ o → held_answer o ≡ look_up_answer (option_map (λ a. a.slot) (option_map (λ held. held.allocation) o)) rows) [
      | None ↦ λ is. unheld_answer
      | Some held ↦ λ is. ap held_answer (sym (held_by-at_slot client rows held are is))
    ] refl
answers_for (Peer slot peer) rows are = refl

-- the run over what is live there is that of the step
pub ran_at : (old : RelayContents) (given : Meta) (n moment : ℕ) (o : Outcome) (frame : machine.Contents) (context : Context) (live : Option Held) (code : List Insn) → AreWellFormed old.rows
    → context ≡ context_for given.tx given.from → live ≡ held_for given.from (rows_at moment old.rows) → code ≡ program_for old.programs given.from
    → HasRun (length (datagram_at old n)) o frame (run_over (environment_around (context_of context) (held_answer live)) code (datagram_at old n))
    → HasRun (length (datagram_at old n)) o frame (run_at (record old { greatest = moment }) given n)
ran_at old given n moment o frame context live code formed context_is live_is code_is ran =
    let answers = ap held_answer live_is ∙ answers_for given.from (rows_at moment old.rows) (rows_at-well_formed moment old.rows formed) in
    subst (HasRun (length (datagram_at old n)) o frame) (λ i. run_over (environment_around (context_of (context_is i)) (answers i)) (code_is i) (datagram_at old n)) ran
