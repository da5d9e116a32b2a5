use Rattle.std.proofs.Common.{◌≡◌, suc, ◌-◌, sym, rules}
use Rattle.server.proofs.TokenPlaces.{at_client, at_peer, at_slot4, at_slot6}
use Rattle.server.proofs.tokens.socket_of.Goals as goal

pub returns-then-client-slots : goal.returns-then-client-slots
returns-then-client-slots c = λ slots6 inside.
    let next : c.args.token ≡ suc (c.args.token - 1) = search rules in
    sym (at_client c.args.slots slots6 c.args.token (c.args.token - 1) next (search rules))

pub returns-then-peer-slots : goal.returns-then-peer-slots
returns-then-peer-slots c = λ slots6 inside.
    let next : c.args.token ≡ suc (c.args.token - 1) = search rules in
    sym (at_peer c.args.slots slots6 c.args.token (c.args.token - 1) next (search rules) (search rules))

pub returns-then-slot-slots : goal.returns-then-slot-slots
returns-then-slot-slots c = λ slots6 inside.
    let next : c.args.token ≡ suc (c.args.token - 1) = search rules in
    sym (at_slot4 c.args.slots slots6 c.args.token (c.args.token - 1) next (search rules) (search rules) (search rules))

pub returns-else-slot-slots : goal.returns-else-slot-slots
returns-else-slot-slots c = λ slots6 inside.
    let next : c.args.token ≡ suc (c.args.token - 1) = search rules in
    sym (at_slot6 c.args.slots slots6 c.args.token (c.args.token - 1) next (search rules) (search rules) (search rules) inside)
