use Rattle.relay.proofs.ChangedRows.{datagram_changes, events_change}
use Rattle.relay.proofs.requests.law_requests_change_rows.Goals as goal

pub returns : goal.returns
returns c = record {
  datagrams = λ programs config now tx from rows bytes. datagram_changes programs config now tx rows from bytes;
  events = λ programs config s events. events_change programs config s events;
}
