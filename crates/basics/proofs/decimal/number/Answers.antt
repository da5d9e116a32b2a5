use Rattle.std.proofs.Common.{◌≡◌, ◌^◌, rules, sym, ap, ◌∙◌}
use Rattle.std.specs.Prelude.{decimal}
use Rattle.std.proofs.lemmas.Bool.{both_ways}
use Rattle.std.proofs.lemmas.Slice.Eq.{bytes_eq-Decides}
use Rattle.basics.proofs.Numbers.{is_number, is_none, not_utf8, parsed}
use Rattle.basics.proofs.decimal.number.Goals as goal

pub returns-in_default : goal.returns-in_default
returns-in_default c = not_utf8 c.args.text.now c.in_default.ensures.cases.0

pub returns-in_default-parse : goal.returns-in_default-parse
returns-in_default-parse c = is_none (2 ^ 64) c.args.text.now
    (λ n small e. c.in_default-parse.not-Ok n (parsed c.in-Ok.digits.now c.parse.result c.parse.ensures.value.0 n small (c.in-Ok.ensures.cases.0 ∙ e)))

pub returns-then-eq : goal.returns-then-eq
returns-then-eq c =
    is_number c.args.text.now c.in-Ok-parse.number (search rules)
    (sym ((bytes_eq-Decides c.as_bytes.result.now c.args.text.now).0 (sym c.eq.ensures ∙ c.if-eq.true)) ∙ c.as_bytes.ensures.value ∙ c.format.ensures.text)

pub returns-else-eq : goal.returns-else-eq
returns-else-eq c = is_none (2 ^ 64) c.args.text.now (λ n small e.
    let given = sym c.in-Ok-parse.is ∙ parsed c.in-Ok.digits.now c.parse.result c.parse.ensures.value.0 n small (c.in-Ok.ensures.cases.0 ∙ e) in
    let same : c.in-Ok-parse.number ≡ n = cc given in
    let equal : c.as_bytes.result.now ≡ c.args.text.now = c.as_bytes.ensures.value ∙ c.format.ensures.text ∙ ap decimal same ∙ sym e in
    both_ways c.eq.result c.if-eq.false (c.eq.ensures ∙ (bytes_eq-Decides c.as_bytes.result.now c.args.text.now).1 equal))
