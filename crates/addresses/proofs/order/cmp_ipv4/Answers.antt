use Rattle.std.proofs.Common.{◌∙◌, sym}
use Rattle.std.specs.Ordering.{nat_cmp}
use Rattle.addresses.specs.laws.AddressOrder.{of_one_length}
use Rattle.addresses.proofs.ByteOrder.{ip_cmp-number}
use Rattle.addresses.proofs.order.cmp_ipv4.Goals as goal

pub returns : goal.returns
returns c =
    c.cmp.ensures ∙ (λ i. nat_cmp (c.ipv4_number.ensures i) (c.ipv4_number-2.ensures i))
    ∙ sym (ip_cmp-number 4 c.args.a.now c.args.b.now c.told-a c.told-b c.fits-a c.fits-b)
    ∙ sym (of_one_length 4 c.args.a.now c.args.b.now c.told-a c.told-b)
