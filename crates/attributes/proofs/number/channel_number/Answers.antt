use Rattle.std.proofs.Common.{ℕ, sym, subst, arith}
use Rattle.attributes.specs.Values.{IsNumberValue}
use Rattle.attributes.proofs.Numbers.{number_read}
use Rattle.attributes.proofs.number.channel_number.Goals as goal

pub returns-then-value-eq-LENGTH-clause-found : goal.returns-then-value-eq-LENGTH-clause-found
returns-then-value-eq-LENGTH-clause-found c =
    subst (λ (n : ℕ). IsNumberValue 2 n c.args.value.now) (sym c.read_u16.ensures) (number_read 2 c.args.value.now c.if-value-eq-LENGTH.true (omega arith) c.type_inv.value)
