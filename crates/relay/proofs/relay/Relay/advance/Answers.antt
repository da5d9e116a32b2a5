use Rattle.std.proofs.Common.{◌≡◌, ◌+◌, ◌≤◌, length, rules, refl, sym, ap, subst, ◌∙◌}
use Rattle.machine.specs.Contents.{datagram_of}
use Rattle.tables.specs.Rows.{rows_at}
use Rattle.tables.specs.laws.WellFormed.{rows_at-well_formed}
use Rattle.events.specs.declared.meta.Source.{Source}
use Rattle.programs.specs.Runs.{planned_sending}
use Rattle.relay.specs.ByPrograms.{let_through}
use Rattle.relay.specs.Choices.{Passing, Relaying, chosen_at, chosen_of}
use Rattle.relay.specs.EventRuns.{verdict_of_datagram}
use Rattle.relay.specs.Forwarding.{asked, chosen_of_forwarding, reply_of_passing, run_at, sending_of_forwarding, disposition_of_forwarding, window_shown, HasRun}
use Rattle.relay.specs.Relays.{RelayContents, datagram_at}
use Rattle.relay.specs.KeysCompared.{keys_of_step}
use Rattle.relay.specs.Steps.{HasStepped, outcome_of, disposition_of_step}
use Rattle.rules.specs.Systems.{SystemReply, no_answer, reply_of_relaying}
use Rattle.relay.specs.Unconfined.{asking}
use Rattle.relay.specs.contracts.relay.Relay.{the_view}
use Rattle.relay.specs.declared.forwarding.Forwarding.TheVariants as forwarding
use Rattle.relay.proofs.Advances.{reply_at, steps, stays, answers, passes_client, passes_peer, sends, discards, done_then, does_pass_client, does_pass_peer, does_send, does_discard, verdict_is, verdict_then}
use Rattle.relay.proofs.ChosenRuns.{chooses_no_passing, chooses_nothing, chooses_passing, chooses_sending, of_window}
use Rattle.relay.proofs.KeyCounts.{by_asking, by_rules, slot_alone}
use Rattle.relay.proofs.LiveSlots.{ran_at}
use Rattle.relay.proofs.relay.Relay.advance.Goals as goal
use Rattle.relay.proofs.relay.Relay.advance.Goals.{After-run_over-outcome}

-- ---- the run

-- the relay after it
abbrev shown : (g : _) (c : After-run_over-outcome g) → RelayContents
shown g c = record (the_view c.self.inside) { greatest = c.moment_of-self-inside.result; frame = c.run_over-outcome.new.frame }

ran : (g : _) (c : After-run_over-outcome g)
    → HasRun (length (datagram_at (the_view c.self.inside) c.args.n)) c.run_over-outcome.result c.run_over-outcome.new.frame (run_at (record (asking c.args.asks (the_view c.self.inside)) { greatest = c.moment_of-self-inside.result }) c.args.meta.now c.args.n)
ran g c =
    ran_at (asking c.args.asks (the_view c.self.inside)) c.args.meta.now c.args.n c.moment_of-self-inside.result c.run_over-outcome.result c.run_over-outcome.new.frame c.context_for-context.result c.new-helpers.result.live c.program_for-program.result.now c.law_are_well_formed.ensures
    c.context_for-context.ensures (c.new-helpers.ensures ∙ c.live_for.ensures.live) (c.program_for-program.ensures (asked c.args.asks c.self.inside.confinement)) c.run_over-outcome.ensures

-- ---- where the program of a client passes the datagram on

client_reply : (g : _) (c : goal.After-pass_on g) → reply_at (the_view c.self.inside) (asked c.args.asks c.self.inside.confinement) c.args.meta.now c.args.n c.moment_of-self-inside.result ≡ reply_of_passing (shown g c.before.before.before.before.before) c.in-Client.client
client_reply g c =
    passes_client (the_view c.self.inside) (asked c.args.asks c.self.inside.confinement) c.args.meta.now c.args.n c.moment_of-self-inside.result c.run_over-outcome.result (shown g c.before.before.before.before.before)
    (ran g c.before.before.before.before.before) (search rules) c.in-Client.client c.in-Client.is c.in-1.is
    refl refl refl

pub returns-in-Client-clause-stepped : goal.returns-in-Client-clause-stepped
returns-in-Client-clause-stepped g c =
    let rest = c.pass_on.ensures.rest in
    let P : RelayContents → Type 0 = λ r. HasStepped r c.pass_on.new.self (outcome_of (asking c.args.asks r) c.args.meta.now c.args.n) in
    subst P c.self.view_is
    (steps (the_view c.self.inside) (asked c.args.asks c.self.inside.confinement) c.args.meta.now c.args.n c.moment_of-self-inside.result c.pass_on.new.self c.moment_of-self-inside.ensures
    (ap (λ (r : RelayContents). r.rows) rest ∙ sym (ap (λ (r : SystemReply). r.rows) (client_reply g c)))
    (ap (λ (r : RelayContents). r.greatest) rest)
    (ap (λ (r : RelayContents). r.config) rest)
    (ap (λ (r : RelayContents). r.programs) rest))

pub returns-in-Client-clause-forwarding : goal.returns-in-Client-clause-forwarding
returns-in-Client-clause-forwarding g c =
    ap (λ (s : Source). sending_of_forwarding c.pass_on.new.self s (forwarding.Answer c.pass_on.result)) c.in-Client.is
    ∙ c.pass_on.ensures.answer
    ∙ sym (ap (λ (r : SystemReply). r.answer) (client_reply g c))
    ∙ answers (the_view c.self.inside) (asked c.args.asks c.self.inside.confinement) c.args.meta.now c.args.n c.moment_of-self-inside.result c.moment_of-self-inside.ensures
    ∙ (λ i. (outcome_of (asking c.args.asks (c.self.view_is i)) c.args.meta.now c.args.n).answer)

-- ---- where it is a peer's

not_passed : (g : _) (c : goal.In-Peer g) → reply_at (the_view c.self.inside) (asked c.args.asks c.self.inside.confinement) c.args.meta.now c.args.n c.moment_of-self-inside.result ≡ no_answer c.self.inside.tables
not_passed g c =
    passes_peer (the_view c.self.inside) (asked c.args.asks c.self.inside.confinement) c.args.meta.now c.args.n c.moment_of-self-inside.result c.run_over-outcome.result (shown g c.before.before)
    (ran g c.before.before) (search rules) c.in-Peer.slot c.in-Peer.addr c.in-Peer.is c.in-1.is

pub returns-in-Peer-clause-stepped : goal.returns-in-Peer-clause-stepped
returns-in-Peer-clause-stepped g c =
    let P : RelayContents → Type 0 = λ r. HasStepped r (shown g c.before.before) (outcome_of (asking c.args.asks r) c.args.meta.now c.args.n) in
    subst P c.self.view_is
    (stays (the_view c.self.inside) (asked c.args.asks c.self.inside.confinement) c.args.meta.now c.args.n c.moment_of-self-inside.result (shown g c.before.before) c.moment_of-self-inside.ensures
    refl (ap (λ (r : SystemReply). r.rows) (not_passed g c)))

pub returns-in-Peer-clause-forwarding : goal.returns-in-Peer-clause-forwarding
returns-in-Peer-clause-forwarding g c =
    sym (ap (λ (r : SystemReply). r.answer) (not_passed g c))
    ∙ answers (the_view c.self.inside) (asked c.args.asks c.self.inside.confinement) c.args.meta.now c.args.n c.moment_of-self-inside.result c.moment_of-self-inside.ensures
    ∙ (λ i. (outcome_of (asking c.args.asks (c.self.view_is i)) c.args.meta.now c.args.n).answer)

-- ---- where the plan is sent

plan_reply : (g : _) (c : goal.After-window_forwarding-forwarding g) → reply_at (the_view c.self.inside) (asked c.args.asks c.self.inside.confinement) c.args.meta.now c.args.n c.moment_of-self-inside.result
    ≡ reply_of_relaying c.self.inside.tables (let_through (asked c.args.asks c.self.inside.confinement) c.args.meta.now.from (rows_at c.moment_of-self-inside.result c.self.inside.tables)
    (planned_sending c.args.meta.now.from (rows_at c.moment_of-self-inside.result c.self.inside.tables) c.run_over-outcome.result.destination (window_shown c.run_over-outcome.new.frame)))
plan_reply g c =
    sends (the_view c.self.inside) (asked c.args.asks c.self.inside.confinement) c.args.meta.now c.args.n c.moment_of-self-inside.result c.run_over-outcome.result (shown g c.before.before.before.before.before)
    (ran g c.before.before.before.before.before) (search rules) c.in-2.is

pub returns-in-2-clause-stepped : goal.returns-in-2-clause-stepped
returns-in-2-clause-stepped g c =
    let P : RelayContents → Type 0 = λ r. HasStepped r (shown g c.before.before.before.before.before) (outcome_of (asking c.args.asks r) c.args.meta.now c.args.n) in
    subst P c.self.view_is
    (stays (the_view c.self.inside) (asked c.args.asks c.self.inside.confinement) c.args.meta.now c.args.n c.moment_of-self-inside.result (shown g c.before.before.before.before.before) c.moment_of-self-inside.ensures
    refl (ap (λ (r : SystemReply). r.rows) (plan_reply g c)))

pub returns-in-2-clause-forwarding : goal.returns-in-2-clause-forwarding
returns-in-2-clause-forwarding g c =
    c.window_forwarding-forwarding.ensures.sends (shown g c.before.before.before.before.before)
    (rows_at-well_formed c.moment_of-self-inside.result c.self.inside.tables c.law_are_well_formed.ensures) (c.new-helpers.ensures ∙ c.live_for.ensures.live)
    ∙ sym (ap (λ (r : SystemReply). r.answer) (plan_reply g c))
    ∙ answers (the_view c.self.inside) (asked c.args.asks c.self.inside.confinement) c.args.meta.now c.args.n c.moment_of-self-inside.result c.moment_of-self-inside.ensures
    ∙ (λ i. (outcome_of (asking c.args.asks (c.self.view_is i)) c.args.meta.now c.args.n).answer)

-- ---- where the verdict discards

discarded : (g : _) (c : goal.In_default g) → reply_at (the_view c.self.inside) (asked c.args.asks c.self.inside.confinement) c.args.meta.now c.args.n c.moment_of-self-inside.result ≡ no_answer c.self.inside.tables
discarded g c =
    discards (the_view c.self.inside) (asked c.args.asks c.self.inside.confinement) c.args.meta.now c.args.n c.moment_of-self-inside.result c.run_over-outcome.result (shown g c.before)
    (ran g c.before) (search rules) (search rules) (search rules)

pub returns-in_default-clause-stepped : goal.returns-in_default-clause-stepped
returns-in_default-clause-stepped g c =
    let P : RelayContents → Type 0 = λ r. HasStepped r (shown g c.before) (outcome_of (asking c.args.asks r) c.args.meta.now c.args.n) in
    subst P c.self.view_is
    (stays (the_view c.self.inside) (asked c.args.asks c.self.inside.confinement) c.args.meta.now c.args.n c.moment_of-self-inside.result (shown g c.before) c.moment_of-self-inside.ensures
    refl (ap (λ (r : SystemReply). r.rows) (discarded g c)))

pub returns-in_default-clause-forwarding : goal.returns-in_default-clause-forwarding
returns-in_default-clause-forwarding g c =
    sym (ap (λ (r : SystemReply). r.answer) (discarded g c))
    ∙ answers (the_view c.self.inside) (asked c.args.asks c.self.inside.confinement) c.args.meta.now c.args.n c.moment_of-self-inside.result c.moment_of-self-inside.ensures
    ∙ (λ i. (outcome_of (asking c.args.asks (c.self.view_is i)) c.args.meta.now c.args.n).answer)

-- ---- what is done with the datagram

pub returns-in-Client-clause-disposition : goal.returns-in-Client-clause-disposition
returns-in-Client-clause-disposition g c =
    ap (λ (s : Source). disposition_of_forwarding c.pass_on.new.self s (forwarding.Answer c.pass_on.result)) c.in-Client.is
    ∙ c.pass_on.ensures.disposition
    ∙ sym (does_pass_client (the_view c.self.inside) (asked c.args.asks c.self.inside.confinement) c.args.meta.now c.args.n c.moment_of-self-inside.result c.run_over-outcome.result (shown g c.before.before.before.before.before)
    (ran g c.before.before.before.before.before) (search rules) c.in-Client.client c.in-Client.is c.in-1.is
    refl refl refl)
    ∙ done_then (the_view c.self.inside) (asked c.args.asks c.self.inside.confinement) c.args.meta.now c.args.n c.moment_of-self-inside.result c.moment_of-self-inside.ensures
    ∙ (λ i. disposition_of_step (asking c.args.asks (c.self.view_is i)) c.args.meta.now c.args.n)

pub returns-in-Peer-clause-disposition : goal.returns-in-Peer-clause-disposition
returns-in-Peer-clause-disposition g c =
    sym (does_pass_peer (the_view c.self.inside) (asked c.args.asks c.self.inside.confinement) c.args.meta.now c.args.n c.moment_of-self-inside.result c.run_over-outcome.result (shown g c.before.before)
    (ran g c.before.before) (search rules) c.in-Peer.slot c.in-Peer.addr c.in-Peer.is c.in-1.is)
    ∙ done_then (the_view c.self.inside) (asked c.args.asks c.self.inside.confinement) c.args.meta.now c.args.n c.moment_of-self-inside.result c.moment_of-self-inside.ensures
    ∙ (λ i. disposition_of_step (asking c.args.asks (c.self.view_is i)) c.args.meta.now c.args.n)

pub returns-in-2-clause-disposition : goal.returns-in-2-clause-disposition
returns-in-2-clause-disposition g c =
    c.window_forwarding-forwarding.ensures.disposition (shown g c.before.before.before.before.before)
    (rows_at-well_formed c.moment_of-self-inside.result c.self.inside.tables c.law_are_well_formed.ensures) (c.new-helpers.ensures ∙ c.live_for.ensures.live)
    ∙ sym (does_send (the_view c.self.inside) (asked c.args.asks c.self.inside.confinement) c.args.meta.now c.args.n c.moment_of-self-inside.result c.run_over-outcome.result (shown g c.before.before.before.before.before) (ran g c.before.before.before.before.before) (search rules) c.in-2.is)
    ∙ done_then (the_view c.self.inside) (asked c.args.asks c.self.inside.confinement) c.args.meta.now c.args.n c.moment_of-self-inside.result c.moment_of-self-inside.ensures
    ∙ (λ i. disposition_of_step (asking c.args.asks (c.self.view_is i)) c.args.meta.now c.args.n)

pub returns-in_default-clause-disposition : goal.returns-in_default-clause-disposition
returns-in_default-clause-disposition g c =
    sym (does_discard (the_view c.self.inside) (asked c.args.asks c.self.inside.confinement) c.args.meta.now c.args.n c.moment_of-self-inside.result c.run_over-outcome.result (shown g c.before)
    (ran g c.before) (search rules) (search rules) (search rules))
    ∙ done_then (the_view c.self.inside) (asked c.args.asks c.self.inside.confinement) c.args.meta.now c.args.n c.moment_of-self-inside.result c.moment_of-self-inside.ensures
    ∙ (λ i. disposition_of_step (asking c.args.asks (c.self.view_is i)) c.args.meta.now c.args.n)

-- ---- the verdict

pub returns-in-Client-clause-verdict : goal.returns-in-Client-clause-verdict
returns-in-Client-clause-verdict g c =
    verdict_is (the_view c.self.inside) (asked c.args.asks c.self.inside.confinement) c.args.meta.now c.args.n c.moment_of-self-inside.result c.run_over-outcome.result (shown g c.before.before.before.before.before)
    (ran g c.before.before.before.before.before) (search rules)
    ∙ verdict_then (the_view c.self.inside) (asked c.args.asks c.self.inside.confinement) c.args.meta.now c.args.n c.moment_of-self-inside.result c.moment_of-self-inside.ensures
    ∙ (λ i. verdict_of_datagram (asking c.args.asks (c.self.view_is i)) c.args.meta.now (datagram_at (c.self.view_is i) c.args.n))

pub returns-in-Peer-clause-verdict : goal.returns-in-Peer-clause-verdict
returns-in-Peer-clause-verdict g c =
    verdict_is (the_view c.self.inside) (asked c.args.asks c.self.inside.confinement) c.args.meta.now c.args.n c.moment_of-self-inside.result c.run_over-outcome.result (shown g c.before.before)
    (ran g c.before.before) (search rules)
    ∙ verdict_then (the_view c.self.inside) (asked c.args.asks c.self.inside.confinement) c.args.meta.now c.args.n c.moment_of-self-inside.result c.moment_of-self-inside.ensures
    ∙ (λ i. verdict_of_datagram (asking c.args.asks (c.self.view_is i)) c.args.meta.now (datagram_at (c.self.view_is i) c.args.n))

pub returns-in-2-clause-verdict : goal.returns-in-2-clause-verdict
returns-in-2-clause-verdict g c =
    verdict_is (the_view c.self.inside) (asked c.args.asks c.self.inside.confinement) c.args.meta.now c.args.n c.moment_of-self-inside.result c.run_over-outcome.result (shown g c.before.before.before.before.before)
    (ran g c.before.before.before.before.before) (search rules)
    ∙ verdict_then (the_view c.self.inside) (asked c.args.asks c.self.inside.confinement) c.args.meta.now c.args.n c.moment_of-self-inside.result c.moment_of-self-inside.ensures
    ∙ (λ i. verdict_of_datagram (asking c.args.asks (c.self.view_is i)) c.args.meta.now (datagram_at (c.self.view_is i) c.args.n))

pub returns-in_default-clause-verdict : goal.returns-in_default-clause-verdict
returns-in_default-clause-verdict g c =
    verdict_is (the_view c.self.inside) (asked c.args.asks c.self.inside.confinement) c.args.meta.now c.args.n c.moment_of-self-inside.result c.run_over-outcome.result (shown g c.before)
    (ran g c.before) (search rules)
    ∙ verdict_then (the_view c.self.inside) (asked c.args.asks c.self.inside.confinement) c.args.meta.now c.args.n c.moment_of-self-inside.result c.moment_of-self-inside.ensures
    ∙ (λ i. verdict_of_datagram (asking c.args.asks (c.self.view_is i)) c.args.meta.now (datagram_at (c.self.view_is i) c.args.n))

-- ---- what the program did

pub returns-in-Client-clause-choice : goal.returns-in-Client-clause-choice
returns-in-Client-clause-choice g c =
    (λ i. chosen_of_forwarding c.pass_on.new.self (c.in-Client.is i) (forwarding.Answer c.pass_on.result))
    ∙ ap (λ (r : RelayContents). Passing (datagram_of r.frame)) c.pass_on.ensures.rest
    ∙ sym (chooses_passing (asking c.args.asks (the_view c.self.inside)) c.args.meta.now c.args.n c.moment_of-self-inside.result c.run_over-outcome.result (shown g c.before.before.before.before.before)
    (ran g c.before.before.before.before.before) (search rules) c.in-Client.client c.in-Client.is c.in-1.is)
    ∙ ap (chosen_at (asking c.args.asks (the_view c.self.inside)) c.args.meta.now (datagram_at (the_view c.self.inside) c.args.n)) c.moment_of-self-inside.ensures
    ∙ (λ i. chosen_of (asking c.args.asks (c.self.view_is i)) c.args.meta.now (datagram_at (c.self.view_is i) c.args.n))

pub returns-in-Peer-clause-choice : goal.returns-in-Peer-clause-choice
returns-in-Peer-clause-choice g c =
    sym (chooses_no_passing (asking c.args.asks (the_view c.self.inside)) c.args.meta.now c.args.n c.moment_of-self-inside.result c.run_over-outcome.result (shown g c.before.before)
    (ran g c.before.before) (search rules) c.in-Peer.slot c.in-Peer.addr c.in-Peer.is c.in-1.is)
    ∙ ap (chosen_at (asking c.args.asks (the_view c.self.inside)) c.args.meta.now (datagram_at (the_view c.self.inside) c.args.n)) c.moment_of-self-inside.ensures
    ∙ (λ i. chosen_of (asking c.args.asks (c.self.view_is i)) c.args.meta.now (datagram_at (c.self.view_is i) c.args.n))

pub returns-in-2-clause-choice : goal.returns-in-2-clause-choice
returns-in-2-clause-choice g c =
    of_window (shown g c.before.before.before.before.before) c.args.meta.now.from c.window_forwarding-forwarding.result c.window_forwarding-forwarding.ensures.window
    ∙ ap Relaying (c.window_forwarding-forwarding.ensures.sends (shown g c.before.before.before.before.before)
    (rows_at-well_formed c.moment_of-self-inside.result c.self.inside.tables c.law_are_well_formed.ensures) (c.new-helpers.ensures ∙ c.live_for.ensures.live))
    ∙ sym (chooses_sending (asking c.args.asks (the_view c.self.inside)) c.args.meta.now c.args.n c.moment_of-self-inside.result c.run_over-outcome.result (shown g c.before.before.before.before.before)
    (ran g c.before.before.before.before.before) (search rules) c.in-2.is)
    ∙ ap (chosen_at (asking c.args.asks (the_view c.self.inside)) c.args.meta.now (datagram_at (the_view c.self.inside) c.args.n)) c.moment_of-self-inside.ensures
    ∙ (λ i. chosen_of (asking c.args.asks (c.self.view_is i)) c.args.meta.now (datagram_at (c.self.view_is i) c.args.n))

pub returns-in_default-clause-choice : goal.returns-in_default-clause-choice
returns-in_default-clause-choice g c =
    sym (chooses_nothing (asking c.args.asks (the_view c.self.inside)) c.args.meta.now c.args.n c.moment_of-self-inside.result c.run_over-outcome.result (shown g c.before)
    (ran g c.before) (search rules) (search rules) (search rules))
    ∙ ap (chosen_at (asking c.args.asks (the_view c.self.inside)) c.args.meta.now (datagram_at (the_view c.self.inside) c.args.n)) c.moment_of-self-inside.ensures
    ∙ (λ i. chosen_of (asking c.args.asks (c.self.view_is i)) c.args.meta.now (datagram_at (c.self.view_is i) c.args.n))

-- ---- how many keys are compared

pub returns-in-Client-clause-keys : goal.returns-in-Client-clause-keys
returns-in-Client-clause-keys g c =
    let P : RelayContents → Type 0 = λ r. g.C.Count.count c.pass_on.new.keys ≤ g.C.Count.count c.args.keys.now + keys_of_step r.programs.confinement in
    subst P c.self.view_is (by_rules c.self.inside.confinement _ _ c.live_for.ensures.keys _ c.pass_on.ensures.keys)

pub returns-in-Peer-clause-keys : goal.returns-in-Peer-clause-keys
returns-in-Peer-clause-keys g c =
    let P : RelayContents → Type 0 = λ r. g.C.Count.count c.live_for.new.keys ≤ g.C.Count.count c.args.keys.now + keys_of_step r.programs.confinement in
    subst P c.self.view_is (slot_alone c.self.inside.confinement _ _ c.live_for.ensures.keys)

pub returns-in-2-clause-keys : goal.returns-in-2-clause-keys
returns-in-2-clause-keys g c =
    let P : RelayContents → Type 0 = λ r. g.C.Count.count c.window_forwarding-forwarding.new.keys ≤ g.C.Count.count c.args.keys.now + keys_of_step r.programs.confinement in
    subst P c.self.view_is (by_asking c.self.inside.confinement _ _ c.live_for.ensures.keys _ c.window_forwarding-forwarding.ensures.keys)

pub returns-in_default-clause-keys : goal.returns-in_default-clause-keys
returns-in_default-clause-keys g c =
    let P : RelayContents → Type 0 = λ r. g.C.Count.count c.live_for.new.keys ≤ g.C.Count.count c.args.keys.now + keys_of_step r.programs.confinement in
    subst P c.self.view_is (slot_alone c.self.inside.confinement _ _ c.live_for.ensures.keys)
