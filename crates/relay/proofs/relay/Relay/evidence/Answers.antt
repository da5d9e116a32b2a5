use Rattle.std.proofs.Common.{◌≡◌, ℕ, List, take, ap, ◌∙◌}
use Rattle.machine.specs.Contents.{room_of}
use Rattle.machine.specs.Contexts.{environment_around, context_of}
use Rattle.machine.specs.Tracing.{run_over}
use Rattle.helpers.specs.LookUps.{held_answer}
use Rattle.events.specs.declared.meta.Meta.{Meta}
use Rattle.tables.specs.Rows.{Rows, rows_at}
use Rattle.tables.specs.laws.WellFormed.{rows_at-well_formed}
use Rattle.rules.specs.Discards.{discard_in, ruled_disposition}
use Rattle.relay.specs.Forwarding.{held_for}
use Rattle.relay.specs.Evidence.{evidence_of}
use Rattle.programs.specs.Runs.{run_for}
use Rattle.semantics.specs.Runs.{Run}
use Rattle.relay.specs.ByPrograms.{Programs, program_for}
use Rattle.relay.specs.Reasons.{exit_slot, exit_unsent, last_slot_of, unsent_by_run}
use Rattle.relay.specs.Relays.{datagram_at}
use Rattle.relay.proofs.Frames.{last_reported}
use Rattle.relay.proofs.LiveSlots.{answers_for}
use Rattle.relay.proofs.relay.Relay.evidence.Goals as goal

-- the moment of the step, and its rows, programs and datagram as the relay has them
module _ (c : goal.After-unsent_at-unsent) where
  abbrev given : Meta
  given = c.args.meta.now

  abbrev live_at : ℕ → Rows
  live_at moment = rows_at moment c.self.inside.tables

  abbrev programs : Programs
  programs = record { client = c.self.inside.client; peer = c.self.inside.peer; confinement = c.self.inside.confinement }

  abbrev bytes : List ℕ
  bytes = take c.args.n (room_of c.self.inside.frame)

  abbrev moment : ℕ
  moment = c.moment_of-moment.result

  live_is : c.new-helpers.result.live ≡ held_for given.from (live_at moment)
  live_is = c.new-helpers.ensures ∙ c.live_for.ensures.live

  -- the run that is traced is that of the step
  run_is : run_over (environment_around (context_of c.context_for-context.result) (held_answer c.new-helpers.result.live)) c.program_for-program.result.now bytes
      ≡ run_for (program_for programs given.from) given.tx given.from (live_at moment) bytes
  run_is =
      let formed = rows_at-well_formed moment c.self.inside.tables c.law_are_well_formed.ensures in
      let answers = ap held_answer live_is ∙ answers_for given.from (live_at moment) formed in
      λ i. run_over (environment_around (context_of (c.context_for-context.ensures i)) (answers i))
      (c.program_for-program.ensures c.self.inside.confinement i) bytes

  slot_is : c.trace_over-end.new.sink.slot ≡ exit_slot programs given.tx given.from (live_at moment) bytes
  slot_is = last_reported _ 0 _ c.trace_over-end.ensures.reported ∙ ap (λ (r : Run). last_slot_of 0 r.path) run_is

  unsent_is : c.unsent_at-unsent.result ≡ exit_unsent programs given.tx given.from (live_at moment) bytes
  unsent_is =
      c.unsent_at-unsent.ensures (live_at moment) _ live_is c.trace_over-end.ensures.end
      ∙ ap (unsent_by_run given.from (live_at moment)) run_is

pub returns-clause-evidence : goal.returns-clause-evidence
returns-clause-evidence c = λ config.
    (λ i. record {
      ruled = (c.discard_by_rules-ruled.ensures config
          ∙ (λ j. discard_in (ruled_disposition config (c.moment_of-moment.ensures j) (given c).tx (given c).from
          c.self.inside.tables (take c.args.n (c.room.ensures.value j))))) i;
      slot = (slot_is c
          ∙ (λ j. exit_slot (programs c) (given c).tx (given c).from (live_at c (c.moment_of-moment.ensures j)) (bytes c))) i;
      unsent = (unsent_is c
          ∙ (λ j. exit_unsent (programs c) (given c).tx (given c).from (live_at c (c.moment_of-moment.ensures j)) (bytes c))) i;
    })
    ∙ (λ i. evidence_of config (c.self.view_is i) (given c) (datagram_at (c.self.view_is i) c.args.n))
