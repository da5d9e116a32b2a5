use Rattle.std.proofs.Common.{◌∙◌, sym}
use Rattle.peer_filter.proofs.Decisions.{kept_uncovered, taken_alone, longer_taken}
use Rattle.peer_filter.proofs.filter.or_later.Goals as goal

pub returns-then-not-contains : goal.returns-then-not-contains
returns-then-not-contains c =
    kept_uncovered c.args.peer.now c.args.rule.now c.args.earlier (sym c.contains.ensures ∙ c.if-not-contains.true)

pub returns-in-None : goal.returns-in-None
returns-in-None c =
    taken_alone c.args.peer.now c.args.rule.now c.args.earlier (sym c.contains.ensures ∙ c.if-not-contains.false) c.in-None.is

pub returns-in-Some : goal.returns-in-Some
returns-in-Some c =
    longer_taken c.args.peer.now c.args.rule.now c.in-Some.other c.longer_of.result c.args.earlier
    (sym c.contains.ensures ∙ c.if-not-contains.false) c.in-Some.is c.longer_of.ensures
