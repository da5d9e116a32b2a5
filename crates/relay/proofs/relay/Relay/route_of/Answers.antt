use Rattle.std.proofs.Common.{◌≡◌, ℕ, List, rules, sym, ap, ◌∙◌}
use Rattle.std.specs.Prelude.{Option}
use Rattle.insn.specs.declared.instruction.Insn.{Insn}
use Rattle.machine.specs.Contents as machine
use Rattle.tables.specs.Moments.{moment_of}
use Rattle.tables.specs.Rows.{rows_at}
use Rattle.tables.specs.laws.WellFormed.{rows_at-well_formed}
use Rattle.events.specs.declared.meta.Meta.{Meta}
use Rattle.programs.specs.Runs.{planned_sending}
use Rattle.rules.specs.declared.confinement.Confinement.{Confinement}
use Rattle.relay.specs.ByPrograms.{let_through}
use Rattle.relay.specs.Choices.{Relaying, with_program}
use Rattle.relay.specs.Forwarding.{window_shown}
use Rattle.relay.specs.Relays.{RelayContents}
use Rattle.relay.proofs.ChosenRuns.{chooses_no_passing, chooses_nothing, chooses_passing, chooses_sending}
use Rattle.relay.proofs.relay.Relay.route_of.Goals as goal

-- the relay with the other program, over whose frame it runs, and the same after the run
module _ (self : RelayContents) (program : List Insn) (given : Meta) (frame left : machine.Contents) where
  abbrev was : RelayContents
  was = record (with_program self given.from program) { frame = frame }

  abbrev moment : ℕ
  moment = moment_of self.greatest given.now

  abbrev shown : RelayContents
  shown = record was { greatest = moment; frame = left }

pub returns-in-Client : goal.returns-in-Client
returns-in-Client c =
    let of = c.args.self.now in let by = c.args.program.now in let given = c.args.meta.now in let at = c.args.frame.now in let left = c.run_beside-outcome.new.frame in
    sym (chooses_passing (was of by given at left) given c.args.n (moment of by given at left) c.run_beside-outcome.result (shown of by given at left) c.run_beside-outcome.ensures
    (sym c.serves.ensures ∙ c.if-not-serves.false) c.in-Client.field-0 c.in-Client.is c.in-1.is)

pub returns-in-Peer : goal.returns-in-Peer
returns-in-Peer c =
    let of = c.args.self.now in let by = c.args.program.now in let given = c.args.meta.now in let at = c.args.frame.now in let left = c.run_beside-outcome.new.frame in
    sym (chooses_no_passing (was of by given at left) given c.args.n (moment of by given at left) c.run_beside-outcome.result (shown of by given at left) c.run_beside-outcome.ensures
    (sym c.serves.ensures ∙ c.if-not-serves.false) c.in-Peer.slot c.in-Peer.addr c.in-Peer.is c.in-1.is)

pub returns-in-2 : goal.returns-in-2
returns-in-2 c =
    let of = c.args.self.now in let by = c.args.program.now in let given = c.args.meta.now in let at = c.args.frame.now in let left = c.run_beside-outcome.new.frame in
    let now = moment of by given at left in
    let planned = planned_sending given.from (rows_at now of.rows) c.run_beside-outcome.result.destination (window_shown left) in
    c.route_of_forwarding.ensures (shown of by given at left) given.from
    ∙ ap Relaying (c.window_forwarding-forwarding.ensures.sends (shown of by given at left) (rows_at-well_formed now of.rows c.law_rows_are_well_formed.ensures) c.helpers_for-helpers.ensures
    ∙ ap (λ (k : Option Confinement). let_through k given.from (rows_at now of.rows) planned) c.confinement-confinement.ensures)
    ∙ sym (chooses_sending (was of by given at left) given c.args.n now c.run_beside-outcome.result (shown of by given at left) c.run_beside-outcome.ensures
    (sym c.serves.ensures ∙ c.if-not-serves.false) c.in-2.is)

pub returns-in_default : goal.returns-in_default
returns-in_default c =
    let of = c.args.self.now in let by = c.args.program.now in let given = c.args.meta.now in let at = c.args.frame.now in let left = c.run_beside-outcome.new.frame in
    sym (chooses_nothing (was of by given at left) given c.args.n (moment of by given at left) c.run_beside-outcome.result (shown of by given at left) c.run_beside-outcome.ensures
    (sym c.serves.ensures ∙ c.if-not-serves.false) (search rules) (search rules))
