-- With the shipped programs, what a list of events gives is what the rules give.
use Rattle.std.proofs.Common.{◌≡◌, ℕ, ◌<◌, All, List, [], ◌∷◌, Bool, true, false, refl, ap, ◌∙◌}
use Rattle.std.specs.Prelude.{slice_index, if◌then◌else◌}
use Rattle.std.proofs.lemmas.List.Elements.{All-head, All-tail, All-from_get_or}
use Rattle.semantics.specs.Machine.{AreBytes}
use Rattle.semantics.specs.Runs.{IsDatagram}
use Rattle.addresses.specs.Addresses.{IsAddress}
use Rattle.control.specs.declared.config.Config.{Config}
use Rattle.tables.specs.Moments.{moment_of}
use Rattle.tables.specs.WellFormed.{AreWellFormed}
use Rattle.events.specs.Events.{Event, Datagram, Nonce}
use Rattle.events.specs.Lines.{IsEvent, IsSource}
use Rattle.events.specs.declared.meta.Meta.{Meta}
use Rattle.events.specs.declared.meta.Source.{Source}
use Rattle.events.specs.declared.meta.Source.TheVariants.{Client, Peer}
use Rattle.relay.specs.ByPrograms.{Programs, by_programs}
use Rattle.rules.specs.ByRules.{by_rules}
use Rattle.relay.specs.Shipped.{AreShipped, AnswerAlike}
use Rattle.rules.specs.Systems.{SystemState, SystemOutcome, system_step, outcome_at, answers, state_after_events, no_answer, with_nonce, address_of_source, is_served}
use Rattle.relay.proofs.KeptRows.{keeps, is_served-is}
use Rattle.relay.proofs.ShippedRules.{ClientServes, PeerServes, same_reply}

are_fit : (bytes : List ℕ) → ((i : ℕ) → slice_index bytes i < 256) → All (λ b. b < 256) bytes
are_fit bytes fit = All-from_get_or (λ b. b < 256) bytes 0 (λ i _. fit i)

source_fits : (slots : ℕ) (from : Source) → IsSource slots from → IsAddress (address_of_source from)
source_fits slots (Client client) is = is
source_fits slots (Peer slot peer) is = is.1

module _ (serves_client : ClientServes) (serves_peer : PeerServes) (programs : Programs) (are : AreShipped programs) (config : Config) where
  -- ---- one event

  pub same_datagram : (s : SystemState) (given : Meta) (bytes : List ℕ) → AreWellFormed s.rows → AreBytes 12 given.tx → IsDatagram bytes → IsAddress (address_of_source given.from)
      → system_step (by_programs programs) config s (Datagram given bytes) ≡ system_step by_rules config s (Datagram given bytes)
  same_datagram s given bytes rows is_id is address =
      ap (outcome_at (moment_of s.greatest given.now) s)
      (same_reply serves_client serves_peer programs are (with_nonce config s.nonce) (moment_of s.greatest given.now) given.tx s.rows bytes rows is_id is given.from address)

  module _ (slots : ℕ) where
    same_step : (s : SystemState) (e : Event) → AreWellFormed s.rows → IsEvent slots e → system_step (by_programs programs) config s e ≡ system_step by_rules config s e
    same_step s (Datagram given bytes) rows (now, long, fit, from, short, are_bytes) =
        same_datagram s given bytes rows (record { count = long; fit = are_fit given.tx fit }) (record { short = short; bytes_fit = are_fit bytes are_bytes })
        (source_fits slots given.from from)
    same_step s (Nonce text) rows is = refl

    kept_step : (s : SystemState) (e : Event) → AreWellFormed s.rows → IsEvent slots e → AreWellFormed (system_step by_rules config s e).state.rows
    kept_step s (Datagram given bytes) rows (now, long, fit, from, short, are_bytes) = of (is_served given.from) refl where
      of : (b : Bool) → is_served given.from ≡ b → AreWellFormed (if b then by_rules (with_nonce config s.nonce) (moment_of s.greatest given.now) given.tx given.from s.rows bytes else no_answer s.rows).rows
      of true e = keeps (with_nonce config s.nonce) (moment_of s.greatest given.now) given.tx given.from s.rows bytes rows (is_served-is given.from (source_fits slots given.from from) e) (record { short = short; bytes_fit = are_fit bytes are_bytes })
      of false e = rows
    kept_step s (Nonce text) rows is = rows

    -- ---- a list of events

    pub alike : (s : SystemState) (events : List Event) → AreWellFormed s.rows → All (IsEvent slots) events → AnswerAlike (by_programs programs) by_rules config s events
    alike s [] rows all = record { answers = refl; after = refl }
    alike s (e ∷ events) rows all =
        let is = All-head (IsEvent slots) e events all in
        let one = same_step s e rows is in
        let rest = alike (system_step by_rules config s e).state events (kept_step s e rows is) (All-tail (IsEvent slots) e events all) in
        record {
          answers = ap (λ (o : SystemOutcome). o.answer ∷ answers (by_programs programs) config o.state events) one ∙ ap (λ l. (system_step by_rules config s e).answer ∷ l) rest.answers;
          after = ap (λ (o : SystemOutcome). state_after_events (by_programs programs) config o.state events) one ∙ rest.after;
        }
