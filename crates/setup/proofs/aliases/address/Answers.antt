use Rattle.std.proofs.Common.{List, ℕ}
use Rattle.std.specs.Net.Grammar.{IsIpText}
use Rattle.std.specs.declared.net.ip_addr.IpAddr.{IpAddr}
use Rattle.std.specs.declared.net.ip_addr.IpAddr.TheVariants as ip
use Rattle.addresses.specs.declared.address.Addr.{Addr}
use Rattle.addresses.specs.declared.address.Addr.TheVariants.{V4, V6}
use Rattle.setup.specs.Aliases.{IsTextOfIp, IsNoIpText}
use Rattle.setup.proofs.aliases.address.Goals as goal

no_address : (text : List ℕ) → ((a : IpAddr) → ¬ (IsIpText text a)) → IsNoIpText text
no_address text none (V4 octets port) is = none (ip.V4 is.0) is.1.0
no_address text none (V6 octets port) is = none (ip.V6 is.0) is.1.0

pub returns-in-Err-clause-none : goal.returns-in-Err-clause-none
returns-in-Err-clause-none c = no_address c.args.text.now c.in-Err.ensures.value
