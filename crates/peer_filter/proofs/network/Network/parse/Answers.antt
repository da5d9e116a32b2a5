use Rattle.std.proofs.Common.{ℕ, rules, ◌≡◌, ◌<◌, length, subst}
use Rattle.std.specs.List.{position_or_len, before_first, after_first}
use Rattle.peer_filter.specs.Networks.{is_slash, IsAccepted}
use Rattle.peer_filter.specs.declared.network.Network.TheVariants.{V4, V6}
use Rattle.peer_filter.proofs.Texts.{parsed, split_text, not_written}
use Rattle.peer_filter.proofs.network.Network.parse.Goals as goal

pub returns-in-Some-ipv4_in : goal.returns-in-Some-ipv4_in
returns-in-Some-ipv4_in c =
    let before : c.in-Some.address.now ≡ before_first is_slash c.args.text.now = search rules in
    let after : c.in-Some.digits.now ≡ after_first is_slash c.args.text.now = search rules in
    let inside : position_or_len is_slash c.args.text.now < length c.args.text.now = search rules in
    parsed c.args.text.now (V4 c.in-Some-ipv4_in.number c.in-Some-bits_in.bits) c.checked_network.result
    (split_text c.args.text.now c.in-Some.address.now c.in-Some.digits.now (V4 c.in-Some-ipv4_in.number c.in-Some-bits_in.bits)
    before after inside c.in-Some-ipv4_in.ensures c.in-Some-bits_in.ensures)
    (subst (λ (n : ℕ). IsAccepted (V4 n c.in-Some-bits_in.bits) c.checked_network.result) c.from.ensures c.checked_network.ensures)

pub returns-in-Some-ipv6_in : goal.returns-in-Some-ipv6_in
returns-in-Some-ipv6_in c =
    let before : c.in-Some.address.now ≡ before_first is_slash c.args.text.now = search rules in
    let after : c.in-Some.digits.now ≡ after_first is_slash c.args.text.now = search rules in
    let inside : position_or_len is_slash c.args.text.now < length c.args.text.now = search rules in
    parsed c.args.text.now (V6 c.in-Some-ipv6_in.number c.in-Some-bits_in.bits) c.checked_network-in-Some-ipv6_in.result
    (split_text c.args.text.now c.in-Some.address.now c.in-Some.digits.now (V6 c.in-Some-ipv6_in.number c.in-Some-bits_in.bits)
    before after inside c.in-Some-ipv6_in.ensures c.in-Some-bits_in.ensures)
    c.checked_network-in-Some-ipv6_in.ensures

pub returns-in-None-ipv6_in : goal.returns-in-None-ipv6_in
returns-in-None-ipv6_in c =
    let before : c.in-Some.address.now ≡ before_first is_slash c.args.text.now = search rules in
    not_written c.args.text.now c.in-Some.address.now before c.in-None.ensures c.in-None-ipv6_in.ensures
