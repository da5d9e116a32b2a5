use Rattle.std.proofs.Common.{rules, ◌++◌, ap, sym, ◌∙◌}
use Rattle.hex.specs.Hex.{IsBytes}
use Rattle.events.specs.laws.Reading.{digits_are}
use Rattle.events.proofs.fronts.push_digits.Goals as goal

pub returns-clause-glyphs : goal.returns-clause-glyphs
returns-clause-glyphs g c =
    let bytes : IsBytes c.args.bytes = search rules in
    c.push_bytes.ensures.bytes ∙ ap (λ l. c.args.front.now.items ++ l) (c.in-Ok.ensures.written ∙ sym (digits_are c.args.bytes bytes))
