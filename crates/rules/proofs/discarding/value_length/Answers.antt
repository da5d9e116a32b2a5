use Rattle.std.proofs.Common.{length, sym, ap, ◌∙◌}
use Rattle.attributes.specs.Addresses.{address_value}
use Rattle.addresses.specs.declared.address.Addr.{Addr}
use Rattle.rules.proofs.Lengths.{length_of_ipv4, length_of_ipv6}
use Rattle.rules.proofs.discarding.value_length.Goals as goal

pub returns-in-V4-clause-length : goal.returns-in-V4-clause-length
returns-in-V4-clause-length c = λ tx.
    sym (ap (λ (a : Addr). length (address_value a tx)) c.in-V4.is
    ∙ length_of_ipv4 c.in-V4.ip c.in-V4.port tx)

pub returns-in-V6-clause-length : goal.returns-in-V6-clause-length
returns-in-V6-clause-length c = λ tx.
    sym (ap (λ (a : Addr). length (address_value a tx)) c.in-V6.is
    ∙ length_of_ipv6 c.in-V6.ip c.in-V6.port tx)
