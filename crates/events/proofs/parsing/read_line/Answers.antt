use Rattle.std.proofs.Common.{◌≡◌, true, false, sym, ◌∙◌, rules}
use Rattle.std.specs.Prelude.{Some, bytes_eq, codes}
use Rattle.events.specs.Reading.{parts_around}
use Rattle.events.proofs.Events.{named_nonce}
use Rattle.events.proofs.parsing.read_line.Goals as goal

pub returns-then-eq-3-clause-reads : goal.returns-then-eq-3-clause-reads
returns-then-eq-3-clause-reads c =
    let split : parts_around 0x20 c.args.line.now ≡ Some (c.in_ok-kind.kind.now, c.in_ok-kind.text.now) = search rules in
    let no_c : bytes_eq c.in_ok-kind.kind.now (codes "c") ≡ false = search rules in
    let no_p : bytes_eq c.in_ok-kind.kind.now (codes "p") ≡ false = search rules in
    let is_n : bytes_eq c.in_ok-kind.kind.now (codes "n") ≡ true = search rules in
    c.nonce.ensures.reads c.args.room.now ∙ sym (named_nonce c.args.slots c.args.line.now c.in_ok-kind.kind.now c.in_ok-kind.text.now split no_c no_p is_n)
