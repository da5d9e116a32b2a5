use Rattle.std.proofs.Common.{◌≡◌, false, not, subst, ap, ◌∙◌}
use Rattle.std.proofs.lemmas.Bool.{not-false}
use Rattle.relay.specs.Relays.{RelayContents, datagram_at}
use Rattle.relay.specs.Shipped.{AreShipped}
use Rattle.relay.specs.Steps.{HasStepped}
use Rattle.relay.specs.Unconfined.{IsSameUnconfined}
use Rattle.rules.specs.Systems.{SystemOutcome}
use Rattle.relay.proofs.Asked.{same_choice, same_disposition, same_outcome, same_verdict}
use Rattle.relay.proofs.relay.Relay.decide.Goals as goal

-- with the shipped programs, which aren't asked for, the relay does the same unconfined
same : (c : goal.After-advance-2) → not c.advance.inside.are_shipped ≡ false → IsSameUnconfined c.args.self.now c.args.meta.now c.args.n
same c shipped =
    c.law_shipped_are_unconfined.ensures
    (subst (λ (r : RelayContents). AreShipped r.programs) c.advance.view_is (c.advance.invariant.shipped (not-false c.advance.inside.are_shipped shipped)))

pub returns-clause-stepped : goal.returns-clause-stepped
returns-clause-stepped c =
    subst (HasStepped c.args.self.now c.advance-2.new.self) (same_outcome (not c.advance.inside.are_shipped) c.args.self.now c.args.meta.now c.args.n (same c)) c.advance-2.ensures.stepped

pub returns-clause-forwarding : goal.returns-clause-forwarding
returns-clause-forwarding c =
    c.advance-2.ensures.forwarding ∙ ap (λ (o : SystemOutcome). o.answer) (same_outcome (not c.advance.inside.are_shipped) c.args.self.now c.args.meta.now c.args.n (same c))

pub returns-clause-disposition : goal.returns-clause-disposition
returns-clause-disposition c =
    c.advance-2.ensures.disposition ∙ same_disposition (not c.advance.inside.are_shipped) c.args.self.now c.args.meta.now c.args.n (same c)

pub returns-clause-verdict : goal.returns-clause-verdict
returns-clause-verdict c =
    c.advance-2.ensures.verdict ∙ same_verdict (not c.advance.inside.are_shipped) c.args.self.now c.args.meta.now (datagram_at c.args.self.now c.args.n)

pub returns-clause-choice : goal.returns-clause-choice
returns-clause-choice c =
    c.advance-2.ensures.choice ∙ same_choice (not c.advance.inside.are_shipped) c.args.self.now c.args.meta.now c.args.n (same c)
