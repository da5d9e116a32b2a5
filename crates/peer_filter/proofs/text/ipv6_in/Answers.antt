use Rattle.std.proofs.Common.{◌∙◌, sym}
use Rattle.peer_filter.proofs.Texts.{no_ipv6}
use Rattle.peer_filter.proofs.text.ipv6_in.Goals as goal

pub returns-in_err-ip : goal.returns-in_err-ip
returns-in_err-ip c = rw c.from_residual.ensures (no_ipv6 c.args.text.now c.parse.result c.parse.ensures.value (sym c.ok.ensures.value ∙ c.in_err-ip.was))
