use Rattle.std.proofs.Common.{arith, rules, ap, ◌∙◌, ◌+◌, length}
use Rattle.byteorder.specs.Endian.{big_number}
use Rattle.stun.proofs.Grammar.{begins_with}
use Rattle.stun.proofs.attributes.split_attribute.Goals as goal

pub returns : goal.returns
returns c =
    let room = c.if-body-padded.false in
    let back = c.split_at-2.ensures.back in
    begins_with c.args.bytes.now _ _ _ _ _ (search rules) (λ k. omega (arith, c.type_inv.bytes k)) c.read_u16-kind.ensures (c.read_u16-length.ensures ∙ ap (big_number 2) c.split_at.ensures.back) (ap (λ m. c.read_u16-length.result + m) c.padding_bytes.ensures)
    (omega (arith, room, ap length back)) (search rules) (search rules)
