use Rattle.std.proofs.Common.{◌≡◌, ◌≢◌, ◌-◌, rules, [], length, take, subst, sym}
use Rattle.std.specs.Prelude.{Some, IfSome, slice_get}
use Rattle.std.proofs.lemmas.List.{nil_from_length}
use Rattle.relay.specs.ReadLines.{IsLine}
use Rattle.relay.proofs.ReadLines.{ends, goes_on, drops, ends_input, at_end, too_long}
use Rattle.relay.proofs.lines.next_line.Goals as goal

pub returns-then-eq-clause-line : goal.returns-then-eq-clause-line
returns-then-eq-clause-line g c = λ _.
    let new = c.append_shown.new.line.items in
    let feed : slice_get new (length new - 1) ≡ Some 10 = search rules in
    let body : c.pop.new.self.items ≡ take (length new - 1) new = search rules in
    subst (λ l. IfSome (c.args.input.now.remaining) (λ xs. (xs ≢ []) × IsLine l xs)) (sym body) (ends _ _ _ _ _ _ c.pieces.invariant.0 c.in-Ok.ensures.shown feed).is_line

pub returns-then-eq-clause-left : goal.returns-then-eq-clause-left
returns-then-eq-clause-left g c = λ _.
    let feed : slice_get c.append_shown.new.line.items (length c.append_shown.new.line.items - 1) ≡ Some 10 = search rules in
    (ends _ _ _ _ _ _ c.pieces.invariant.0 c.in-Ok.ensures.shown feed).rest

pub returns-then-count-eq0-clause-line : goal.returns-then-count-eq0-clause-line
returns-then-count-eq0-clause-line g c = λ more.
    let other : slice_get c.append_shown.new.line.items (length c.append_shown.new.line.items - 1) ≢ Some 10 = search rules in
    let some : c.append_shown.new.line.items ≢ [] = search rules in
    ends_input _ _ _ _ _ _ c.pieces.invariant.0 c.in-Ok.ensures.shown other c.if-count-eq0.true some

pub returns-then-count-eq0-clause-left : goal.returns-then-count-eq0-clause-left
returns-then-count-eq0-clause-left g c = λ _.
    let other : slice_get c.append_shown.new.line.items (length c.append_shown.new.line.items - 1) ≢ Some 10 = search rules in
    drops _ _ _ _ _ _ c.pieces.invariant.0 c.in-Ok.ensures.shown other c.if-count-eq0.true

pub returns-then-len-gt-MAX_LINE-clause-line : goal.returns-then-len-gt-MAX_LINE-clause-line
returns-then-len-gt-MAX_LINE-clause-line g c = λ _.
    let other : slice_get c.append_shown.new.line.items (length c.append_shown.new.line.items - 1) ≢ Some 10 = search rules in
    too_long _ _ _ _ _ _ c.pieces.invariant.0 c.in-Ok.ensures.shown other (search rules)

pub pieces-preserved : goal.pieces-preserved
pieces-preserved g c =
    let other : slice_get c.append_shown.new.line.items (length c.append_shown.new.line.items - 1) ≢ Some 10 = search rules in
    (goes_on _ _ _ _ _ _ c.pieces.invariant.0 c.in-Ok.ensures.shown other, search rules, search rules, search rules)

pub returns-then-count-eq0-clause-end : goal.returns-then-count-eq0-clause-end
returns-then-count-eq0-clause-end g c = λ more.
    let other : slice_get c.append_shown.new.line.items (length c.append_shown.new.line.items - 1) ≢ Some 10 = search rules in
    let count : length c.append_shown.new.line.items ≡ 0 = search rules in
    let none = nil_from_length c.append_shown.new.line.items count in (
      at_end _ _ _ _ _ _ c.pieces.invariant.0 c.in-Ok.ensures.shown other c.if-count-eq0.true none,
      drops _ _ _ _ _ _ c.pieces.invariant.0 c.in-Ok.ensures.shown other c.if-count-eq0.true,
    )
