use Rattle.std.proofs.Common.{◌≡◌, ℕ, List, take, subst, ap, sym, ◌∙◌}
use Rattle.machine.specs.Contents.{room_of}
use Rattle.machine.specs.Contexts.{environment_around, context_of}
use Rattle.machine.specs.Tracing.{EndsWith, Reports, run_over}
use Rattle.helpers.specs.LookUps.{held_answer}
use Rattle.tables.specs.Rows.{Rows, rows_at}
use Rattle.tables.specs.laws.WellFormed.{rows_at-well_formed}
use Rattle.programs.specs.Runs.{run_for}
use Rattle.semantics.specs.Runs.{Run}
use Rattle.relay.specs.ByPrograms.{Programs, program_for}
use Rattle.relay.specs.Forwarding.{held_for}
use Rattle.relay.specs.EventRuns.{run_of_datagram}
use Rattle.relay.specs.Relays.{datagram_at}
use Rattle.relay.proofs.LiveSlots.{answers_for}
use Rattle.relay.proofs.relay.Relay.traced.Goals as goal

-- the run that is traced is that of the step
module _ (g : _) (c : goal.After-trace_over g) where
  abbrev live_at : ℕ → Rows
  live_at moment = rows_at moment c.self.inside.tables

  abbrev programs : Programs
  programs = record { client = c.self.inside.client; peer = c.self.inside.peer; confinement = c.self.inside.confinement }

  abbrev bytes : List ℕ
  bytes = take c.args.n (room_of c.self.inside.frame)

  run_is : run_over (environment_around (context_of c.context_for-context.result) (held_answer c.new-helpers.result.live)) c.program_for-program.result.now bytes
      ≡ run_of_datagram c.args.self.now c.args.meta.now (datagram_at c.args.self.now c.args.n)
  run_is =
      let given = c.args.meta.now in
      let moment = c.moment_of-moment.result in
      let formed = rows_at-well_formed moment c.self.inside.tables c.law_are_well_formed.ensures in
      let live_is : c.new-helpers.result.live ≡ held_for given.from (live_at moment) = c.new-helpers.ensures ∙ c.live_for.ensures.live in
      let answers = ap held_answer live_is ∙ answers_for given.from (live_at moment) formed in
      (λ i. run_over (environment_around (context_of (c.context_for-context.ensures i)) (answers i))
      (c.program_for-program.ensures c.self.inside.confinement i) bytes)
      ∙ (λ i. run_for (program_for programs given.from) given.tx given.from (live_at (c.moment_of-moment.ensures i)) bytes)
      ∙ (λ i. run_of_datagram (c.self.view_is i) given (datagram_at (c.self.view_is i) c.args.n))

pub returns-clause-end : goal.returns-clause-end
returns-clause-end g c = subst (EndsWith c.trace_over.result) (run_is g c) c.trace_over.ensures.end

pub returns-clause-reported : goal.returns-clause-reported
returns-clause-reported g c =
    subst (λ (r : Run). Reports g.S.Sink.Logs (g.S.Sink.log c.args.sink.now) r.path (g.S.Sink.log c.trace_over.new.sink)) (run_is g c) c.trace_over.ensures.reported
