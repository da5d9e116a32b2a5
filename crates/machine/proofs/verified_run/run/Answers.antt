use Rattle.std.proofs.Common.{ℕ, List, length, sym, ap, ◌∙◌}
use Rattle.semantics.specs.Records.{address_of}
use Rattle.semantics.specs.Extents.{start_extent, run_extent}
use Rattle.semantics.specs.Machine.{start}
use Rattle.semantics.specs.declared.plan.Plan.{Plan}
use Rattle.std.specs.Prelude.{option_map}
use Rattle.machine.specs.Contents.{datagram_of}
use Rattle.machine.specs.Tracing.{environment_of}
use Rattle.machine.proofs.Frames.{shows_left}
use Rattle.machine.proofs.SafeRuns.{no_step_past, few_steps}
use Rattle.machine.proofs.verified_run.run.Goals as goal

pub returns-clause-outcome : goal.returns-clause-outcome
returns-clause-outcome g c =
    let ran = c.run_area-exit.ensures in
    record {
      verdict = ran.ending;
      steps = ran.steps;
      window = ap (λ (p : Plan). p.window) (sym ran.plan_is);
      destination = c.destination_of.ensures ∙ ap (λ (p : Plan). option_map address_of p.destination) (sym ran.plan_is);
    }

pub returns-clause-steps : goal.returns-clause-steps
returns-clause-steps g c =
    few_steps (environment_of c.args.frame.now (g.H.Helpers.answers c.args.helpers.now)) c.args.program.now (datagram_of c.args.frame.now) c.run_area-exit.result.steps c.run_area-exit.ensures.steps

pub returns-clause-left : goal.returns-clause-left
returns-clause-left g c = c.run_area-exit.ensures.left

pub returns-clause-whole : goal.returns-clause-whole
returns-clause-whole g c =
    let ran = c.run_area-exit.ensures in
    no_step_past (environment_of c.args.frame.now (g.H.Helpers.answers c.args.helpers.now)) c.args.program.now (datagram_of c.args.frame.now) c.law_safe.ensures
    (record { context = ran.is_context; helpers = g.H.Helpers.lawful c.args.helpers.now }) ran.is_datagram

pub returns-clause-shows : goal.returns-clause-shows
returns-clause-shows g c =
    let ran = c.run_area-exit.ensures in
    let w = environment_of c.args.frame.now (g.H.Helpers.answers c.args.helpers.now) in
    let d : List ℕ = datagram_of c.args.frame.now in
    shows_left c.args.frame.now c.run_area-exit.new.frame _ ran.length_is (run_extent w c.args.program.now (length d) (length c.args.program.now) (start d) (start_extent d)) ran.left
