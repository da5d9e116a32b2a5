use Rattle.std.proofs.Common.{inl, inr}
use Rattle.attributes.proofs.Masks.{address_shape}
use Rattle.attributes.proofs.address.read_xor_addr.Goals as goal
use Rattle.attributes.proofs.address.read_xor_addr.Goals.{else-value-eq-IPV4_BYTES-via-then-value-eq-IPV4_BYTES+else-value-eq-IPV4, else-value-eq-IPV4_BYTES-via-else-value-eq-IPV4_BYTES, else-value-eq-IPV6_BYTES-via-then-value-eq-IPV6_BYTES+else-value-eq-IPV6, else-value-eq-IPV6_BYTES-via-else-value-eq-IPV6_BYTES}

pub returns-clause-refused : goal.returns-clause-refused
returns-clause-refused c a is =
    elim (address_shape a c.args.tx.now c.args.value.now is) [
      | inl short ↦ elim c.else-value-eq-IPV4_BYTES.branch [
        | else-value-eq-IPV4_BYTES-via-then-value-eq-IPV4_BYTES+else-value-eq-IPV4 w ↦ w.if-value-eq-IPV4.false short.1
        | else-value-eq-IPV4_BYTES-via-else-value-eq-IPV4_BYTES w ↦ w.if-value-eq-IPV4_BYTES.false short.0
      ]
      | inr long ↦ elim c.else-value-eq-IPV6_BYTES.branch [
        | else-value-eq-IPV6_BYTES-via-then-value-eq-IPV6_BYTES+else-value-eq-IPV6 w ↦ w.if-value-eq-IPV6.false long.1
        | else-value-eq-IPV6_BYTES-via-else-value-eq-IPV6_BYTES w ↦ w.if-value-eq-IPV6_BYTES.false long.0
      ]
    ]
