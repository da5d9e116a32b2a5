use Rattle.std.proofs.Common.{rules}
use Rattle.peer_filter.proofs.filter.PeerFilter.of_server.Goals as goal

pub returns : goal.returns
returns c = record {
  loopback = c.loopback_of.result;
  is_loopback = (c.loopback_of.ensures.ipv4, c.loopback_of.ensures.ipv6);
  own = c.deref.result.now;
  are_own = record {
    clients = c.client_endpoints-own.result.items;
    is_client_port = c.client_endpoints-own.ensures.own;
    listen = c.outside_v4.result;
    is_listen = c.outside_v4.ensures;
    relayed = c.outside_v4-2.result;
    is_relayed = c.outside_v4-2.ensures;
    listen6 = c.outside_v6.result;
    is_listen6 = c.outside_v6.ensures;
    relayed6 = c.outside_v6-2.result;
    is_relayed6 = c.outside_v6-2.ensures;
    own_is = search rules;
  };
  made = c.new-made.result;
  is_made = c.new-made.ensures;
  clients = c.rules_for_clients.result.items;
  for_clients = c.rules_for_clients.ensures;
  result_is = c.with_clients.ensures;
}
