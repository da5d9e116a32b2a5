use Rattle.std.proofs.Common.{refl}
use Rattle.asm.proofs.Numerals.{numeral_is_utf8, refused_is}
use Rattle.asm.proofs.number.Number.value.Goals as goal

pub returns-in_default : goal.returns-in_default
returns-in_default c = (refl, λ lt. absurd (c.in_default.ensures.cases.0 (numeral_is_utf8 c.args.self.radix _ c.args.self.numeral)))

pub returns-in-Err : goal.returns-in-Err
returns-in-Err c = (refl, refused_is c.args.self.radix c.args.self.digits.now _ _ c.args.self.numeral c.value.ensures c.in-Ok.ensures.cases.0 c.in-Err.ensures.value)
