use Rattle.std.proofs.Common.{◌≡◌, ap, ap₂, sym, ◌∙◌, bit_or, rules}
use Rattle.std.specs.Int.{w32, cast_unsigned}
use Rattle.absstate.specs.Signatures.{hashed_bit, value_bit}
use Rattle.absstate.proofs.signature.value_bit.Goals as goal

pub returns-in-Data : goal.returns-in-Data
returns-in-Data g c =
    let offset : c.from-in-Data.result ≡ cast_unsigned w32 c.in-Data.offset = search rules in
    ap₂ bit_or (c.hashed_bit-place.ensures ∙ ap (hashed_bit c.args.index 3) offset) c.proved_bit.ensures ∙ ap (value_bit g.D.Domain.ops c.args.index c.args.state.now.proved) (sym c.in-Data.is)
