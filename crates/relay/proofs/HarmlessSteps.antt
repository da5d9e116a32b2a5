-- No datagram does harm, whatever programs are loaded.
use Rattle.std.proofs.Common.{ℕ, List, [], Bool, true, false, refl}
use Rattle.std.specs.Prelude.{Option, None, Some, IfSome, if◌then◌else◌}
use Rattle.control.specs.declared.config.Config.{Config}
use Rattle.events.specs.Events.{Datagram}
use Rattle.events.specs.declared.meta.Meta.{Meta}
use Rattle.events.specs.declared.meta.Source.{Source}
use Rattle.events.specs.declared.meta.Source.TheVariants.{Client, Peer}
use Rattle.relay.specs.ByPrograms.{Programs, by_programs}
use Rattle.relay.specs.Confinement.{IsPermittedFor, SendsWhatIsPermitted}
use Rattle.relay.specs.Harmless.{IsHarmless}
use Rattle.relay.proofs.BoundedAnswers.{is_no_amplifier}
use Rattle.relay.proofs.ChangedRows.{step_changes}
use Rattle.relay.proofs.Confined.{sends_what_is_permitted}
use Rattle.relay.proofs.OwnRuns.{programs_keep_users_apart}
use Rattle.rules.specs.Isolation.{KeepsOthers}
use Rattle.rules.specs.Systems.{SystemState, is_served, no_answer, system_step, with_nonce}
use Rattle.rules.specs.declared.confinement.Confinement.{Confinement}
use Rattle.tables.specs.Moments.{moment_of}
use Rattle.tables.specs.Rows.{Rows, rows_at}
use Rattle.tables.specs.WellFormed.{AreWellFormed}

-- rows that stay
keeps_all : (from : Source) (rows : Rows) → KeepsOthers from rows rows
keeps_all (Client client) rows = refl
keeps_all (Peer slot peer) rows = refl

module _ (programs : Programs) (config : Config) (s : SystemState) (given : Meta) (bytes : List ℕ) where
  abbrev moment : ℕ
  moment = moment_of s.greatest given.now

  permitted_now : (o : Option Confinement) → IfSome o (λ c. SendsWhatIsPermitted c.aliases.items (by_programs programs) config s)
      → IfSome o (λ c. IsPermittedFor c.aliases.items s (Datagram given bytes) (system_step (by_programs programs) config s (Datagram given bytes)).answer)
  permitted_now None is = tt
  permitted_now (Some c) is = is [] (Datagram given bytes)

  keeps_others : AreWellFormed s.rows → (served : Bool) → KeepsOthers given.from (rows_at moment s.rows)
      (rows_at moment (if served then by_programs programs (with_nonce config s.nonce) moment given.tx given.from s.rows bytes else no_answer s.rows).rows)
  keeps_others formed true = (programs_keep_users_apart programs (with_nonce config s.nonce) moment given.tx given.from bytes).others s.rows formed
  keeps_others formed false = keeps_all given.from (rows_at moment s.rows)

  pub harmless : AreWellFormed s.rows → IsHarmless programs config s given bytes (system_step (by_programs programs) config s (Datagram given bytes)).answer
  harmless formed = record {
    permitted = permitted_now programs.confinement (sends_what_is_permitted programs config s);
    bounded = is_no_amplifier programs config s [] (Datagram given bytes);
    requests = step_changes programs config s (Datagram given bytes);
    others = keeps_others formed (is_served given.from);
  }
