use Rattle.std.proofs.Common.{◌≡◌, ◌+◌, ◌*◌, ap, ◌∙◌, sym}
use Rattle.std.specs.Ordering.{nat_cmp, ordering_then}
use Rattle.byteorder.specs.Endian.{big_number}
use Rattle.addresses.proofs.ByteOrder.{digit_first, ip_cmp-number}
use Rattle.addresses.proofs.order.cmp_ipv4_port.Goals as goal

pub returns : goal.returns
returns c =
    let a : c.from.result ≡ big_number 4 c.args.a.now = c.from.ensures ∙ c.ipv4_number.ensures in
    let b : c.from-3.result ≡ big_number 4 c.args.b.now = c.from-3.ensures ∙ c.ipv4_number-2.ensures in
    c.cmp.ensures
    ∙ (λ i. nat_cmp (a i * 0x10000 + c.from-2.ensures i) (b i * 0x10000 + c.from-4.ensures i))
    ∙ sym (digit_first (big_number 4 c.args.a.now) (big_number 4 c.args.b.now) c.args.port c.args.other_port 0x10000 c.ranges.port.fits c.ranges.other_port.fits)
    ∙ ap (λ o. ordering_then o (nat_cmp c.args.port c.args.other_port)) (sym (ip_cmp-number 4 c.args.a.now c.args.b.now c.told-a c.told-b c.fits-a c.fits-b))
