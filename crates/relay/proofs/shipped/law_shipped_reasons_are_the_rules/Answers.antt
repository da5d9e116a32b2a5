use Rattle.relay.proofs.ShippedReasons.{reason_is_ruled}
use Rattle.relay.proofs.shipped.law_shipped_reasons_are_the_rules.Goals as goal

pub returns : goal.returns
returns c = λ programs are config now tx from rows bytes start served there.
    reason_is_ruled c.law_client_serves.ensures c.law_peer_serves.ensures programs are config now tx rows bytes
    from start served there
