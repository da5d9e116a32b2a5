use Rattle.std.proofs.Common.{◌≢◌, ◌≤◌, length, List, ℕ, [], sym, subst, ◌∙◌, rules}
use Rattle.std.specs.Prelude.{IfSome}
use Rattle.std.specs.Io.BufRead.{DropsThrough}
use Rattle.events.specs.Reading.{event_in}
use Rattle.relay.specs.ReadLines.{IsLine}
use Rattle.relay.specs.declared.lines.TheConstants.{MAX_LINE}
use Rattle.relay.proofs.Played.{starts, ends, goes_on, stops_at, stops_in, stops_before, none_value, for_err}
use Rattle.relay.proofs.relay.Relay.replay.Goals as goal

pub lines-init : goal.lines-init
lines-init g c = (starts _ _ _ _, search rules, search rules, search rules)

pub returns-in_err-next_line-clause-before : goal.returns-in_err-next_line-clause-before
returns-in_err-next_line-clause-before g c = for_err c.from_residual.result (λ e stopped. stops_before _ _ _ _ _ _ _ _ c.lines.invariant.0)

pub returns-in_default-clause-writing : goal.returns-in_default-clause-writing
returns-in_default-clause-writing g c = λ failed.
    let P : List ℕ → Type 0 = λ l. IfSome c.lines.input.remaining (λ xs. (xs ≢ []) × IsLine l xs) in
    let D : List ℕ → Type 0 = λ l. length l ≤ MAX_LINE → DropsThrough c.lines.input.remaining c.next_line.new.input.remaining 10 in
    stops_in _ _ _ _ _ _ _ _ c.lines.invariant.0 c.next_line.new.input.remaining c.deref.result.now c.play.new.self c.play.ensures.few
    (subst P (sym c.deref.ensures.value) (c.in_ok-next_line.ensures.line c.if-not-branch.false)) (subst D (sym c.deref.ensures.value) c.in_ok-next_line.ensures.left) c.play.ensures.state c.play.ensures.same
    c.play.new.output.contents (search rules)

pub returns-then-not-known-clause-line : goal.returns-then-not-known-clause-line
returns-then-not-known-clause-line g c =
    let P : List ℕ → Type 0 = λ l. IfSome c.lines.input.remaining (λ xs. (xs ≢ []) × IsLine l xs) in
    let D : List ℕ → Type 0 = λ l. length l ≤ MAX_LINE → DropsThrough c.lines.input.remaining c.next_line.new.input.remaining 10 in
    stops_at _ _ _ _ _ _ _ _ c.lines.invariant.0 c.next_line.new.input.remaining c.deref.result.now c.play.new.self c.play.ensures.few
    (subst P (sym c.deref.ensures.value) (c.in_ok-next_line.ensures.line c.if-not-branch.false)) (subst D (sym c.deref.ensures.value) c.in_ok-next_line.ensures.left) c.play.ensures.state c.play.ensures.same
    c.play.new.output.contents (none_value (event_in c.lines.self.config.slots c.deref.result.now) (sym c.in-Ok.ensures.known ∙ c.if-not-known.true)) c.in-Ok.ensures.written

pub lines-preserved : goal.lines-preserved
lines-preserved g c =
    let P : List ℕ → Type 0 = λ l. IfSome c.lines.input.remaining (λ xs. (xs ≢ []) × IsLine l xs) in
    let D : List ℕ → Type 0 = λ l. length l ≤ MAX_LINE → DropsThrough c.lines.input.remaining c.next_line.new.input.remaining 10 in (
      goes_on _ _ _ _ _ _ _ _ c.lines.invariant.0 c.next_line.new.input.remaining c.deref.result.now c.play.new.self c.play.ensures.few
          (subst P (sym c.deref.ensures.value) (c.in_ok-next_line.ensures.line c.if-not-branch.false)) (subst D (sym c.deref.ensures.value) c.in_ok-next_line.ensures.left) c.play.ensures.state c.play.ensures.same
          c.play.new.output.contents (sym c.in-Ok.ensures.known ∙ c.if-not-known.false) c.in-Ok.ensures.written,
      search rules,
      search rules,
      search rules,
    )

pub returns-then-not-branch-clause-ok : goal.returns-then-not-branch-clause-ok
returns-then-not-branch-clause-ok g c =
    let (ended, dropped) = c.in_ok-next_line.ensures.end c.if-not-branch.true in
    ends _ _ _ _ _ _ _ _ _ c.lines.invariant.0 ended dropped
