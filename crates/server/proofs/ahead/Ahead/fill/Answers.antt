use Rattle.std.proofs.Common.{◌≡◌, [], true, false, subst, arith, rules}
use Rattle.server.specs.Filling.{HasReceivedOne}
use Rattle.server.proofs.Waits.{unfilled, stops, goes_on_after}
use Rattle.server.proofs.ahead.Ahead.fill.Goals as goal

pub returns-then-not-is_empty-clause-filled : goal.returns-then-not-is_empty-clause-filled
returns-then-not-is_empty-clause-filled g c = unfilled c.args.endpoint (g.L.Link.calls c.args.link.now) c.args.self.now

pub returns-then-not-receive_one-clause-filled : goal.returns-then-not-receive_one-clause-filled
returns-then-not-receive_one-clause-filled g c =
    let none : c.args.self.now ≡ [] = c.is_empty.ensures.nothing (search rules) in
    let came : c.receive_one.result ≡ false = search rules in
    stops c.args.endpoint (g.L.Link.calls c.args.link.now) (g.L.Link.calls c.loop.link) (g.L.Link.calls c.receive_one.new.link) c.args.self.now c.loop.self c.receive_one.new.self c.loop.invariant.so_far
    (subst (HasReceivedOne c.args.endpoint (g.L.Link.calls c.loop.link) (g.L.Link.calls c.receive_one.new.link) c.loop.self c.receive_one.new.self) came c.receive_one.ensures.one) none

pub loop-preserved : goal.loop-preserved
loop-preserved g c =
    let came : c.receive_one.result ≡ true = search rules in
    record {
      so_far =
          goes_on_after c.args.endpoint (g.L.Link.calls c.args.link.now) (g.L.Link.calls c.loop.link) (g.L.Link.calls c.receive_one.new.link) c.loop.self c.receive_one.new.self c.loop.invariant.so_far
          (subst (HasReceivedOne c.args.endpoint (g.L.Link.calls c.loop.link) (g.L.Link.calls c.receive_one.new.link) c.loop.self c.receive_one.new.self) came c.receive_one.ensures.one);
      few = omega (arith, c.loop.invariant.few, c.receive_one.ensures.more);
    }
