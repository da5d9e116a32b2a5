use Rattle.std.proofs.Common.{◌-◌, ◌+◌, List, ℕ, [], ◌∷◌, arith, sym, subst}
use Rattle.semantics.specs.declared.limits.TheConstants.{MAX_DATAGRAM}
use Rattle.server.specs.Calls.{Received, HasReported}
use Rattle.server.proofs.Waits.{read_back}
use Rattle.server.proofs.ahead.receive_at.Goals as goal

pub returns-clause-reported : goal.returns-clause-reported
returns-clause-reported g c =
    subst (λ (l : List ℕ). HasReported (g.L.Link.calls c.args.link.now) (g.L.Link.calls c.receive.new.self) (Received c.args.endpoint l c.receive.result ∷ []))
    (sym (read_back c.args.start (c.args.start + MAX_DATAGRAM - c.args.start) c.args.bytes.now c.receive.new.into c.requires (omega arith) (omega (arith, c.receive.auto.into)))) c.receive.ensures
