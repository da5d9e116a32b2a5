use Rattle.std.proofs.Common.{◌≡◌, ◌-ℤ◌, pos, neg_ℤ, to_z, of_z, arith, sym, ap, ◌∙◌}
use Rattle.std.specs.Int.{w128}
use Rattle.std.specs.Prelude.{if◌then◌else◌}
use Rattle.std.proofs.lemmas.Int.{ints}
use Rattle.asm.specs.Parsing.{numeral_value, integer_value}
use Rattle.asm.proofs.number.Integer.value.Goals as goal

pub returns-then-self : goal.returns-then-self
returns-then-self c =
    let n = numeral_value c.args.self.magnitude in
    let small = c.in_ok-value.ensures.1 in
    let magnitude = c.from-magnitude.ensures ∙ ap pos c.in_ok-value.ensures.0 in
    let value : to_z w128 (of_z w128 (pos 0 -ℤ to_z w128 (of_z w128 c.from-magnitude.result))) ≡ neg_ℤ (pos n) = rw magnitude (omega (arith, ints, small)) in
    let negative : integer_value c.args.self ≡ neg_ℤ (pos n) = ap (λ b. if b then neg_ℤ (pos n) else pos n) c.if-self.true in
    (value ∙ sym negative, small)
