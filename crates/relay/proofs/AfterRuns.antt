-- What holds of whatever follows from a run.
use Rattle.std.proofs.Common.{ℕ, List, Bool, true, false}
use Rattle.std.specs.Prelude.{◌==◌, Option, None, if◌then◌else◌}
use Rattle.semantics.specs.Runs as runs
use Rattle.semantics.specs.Runs.{Run, Ending}
use Rattle.addresses.specs.declared.address.Addr.{Addr}
use Rattle.events.specs.Events.{Sending}
use Rattle.events.specs.declared.meta.Source.{Source}
use Rattle.programs.specs.Runs.{datagram_in, sent_by}
use Rattle.programs.specs.declared.verdict.TheConstants.{PASSES}
use Rattle.relay.specs.ByPrograms.{of_ending, of_passing, of_run, of_verdict}
use Rattle.tables.specs.Rows.{Rows}

-- it holds of what follows from a datagram that is passed on, and from what is sent by each verdict, or from nothing
module _ {X : Type 0} (P : X → Type 0) (passes : Addr → List ℕ → X) (sends : Option Sending → X) (from : Source) (live : Rows) (size : ℕ) (r : Run)
    (passed : P (of_passing passes sends from (datagram_in size r.state))) (sent : (verdict : ℕ) → P (sends (sent_by from live verdict r.state))) (nothing : P (sends None)) where
  after_verdict : (verdict : ℕ) → P (of_verdict passes sends from live size r verdict)
  after_verdict verdict = of (verdict == PASSES) where
    of : (b : Bool) → P (if b then of_passing passes sends from (datagram_in size r.state) else sends (sent_by from live verdict r.state))
    of true = passed
    of false = sent verdict

  after_ending : (ending : Ending) → P (of_ending passes sends from live size r ending)
  after_ending (runs.Exited verdict) = after_verdict verdict
  after_ending (runs.Stuck reason slot) = nothing
  after_ending runs.Running = nothing

  pub after_run : P (of_run passes sends from live size r)
  after_run = after_ending r.ending
