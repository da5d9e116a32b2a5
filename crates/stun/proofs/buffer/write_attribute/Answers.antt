use Rattle.std.proofs.Common.{ℕ, ◌+◌, replicate, arith, refl, ap, ◌∙◌}
use Rattle.stun.specs.Messages.{padding_count}
use Rattle.stun.proofs.Writing.{attribute_written, length_replicate}
use Rattle.stun.proofs.buffer.write_attribute.Goals as goal

pub returns : goal.returns
returns g c =
    attribute_written _ _ _ _ _ (g.V.AttributeValue.bytes c.args.value.now) _ c.args.kind _ c.args.at _ _ _ c.write_number.ensures c.write_number-2.ensures c.write_value.ensures c.write_zeros.ensures
    c.len-length.ensures (ap (λ (n : ℕ). replicate n 0) (c.padding_bytes.ensures ∙ ap padding_count c.len-length.ensures)) refl refl (ap (λ (n : ℕ). c.args.at + 4 + n) c.len-length.ensures)
    (omega (arith, c.requires.room, c.len-length.ensures, c.padding_bytes.ensures, ap padding_count c.len-length.ensures, length_replicate c.padding_bytes.result))
