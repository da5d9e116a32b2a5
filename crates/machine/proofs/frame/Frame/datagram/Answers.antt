use Rattle.std.proofs.Common.{◌≡◌, ◌<◌, ℕ, List, length, take, drop, sym, ap, ◌∙◌, subst, arith, All}
use Rattle.semantics.specs.declared.limits.TheConstants.{HEADROOM}
use Rattle.flat.specs.declared.layout.TheConstants.{HEADROOM_INDEX}
use Rattle.machine.specs.Contents.{datagram_of}
use Rattle.machine.proofs.Frames.{datagram_length}
use Rattle.machine.proofs.frame.Frame.datagram.Goals as goal

pub returns-clause-short : goal.returns-clause-short
returns-clause-short c =
    let shown : c.datagram_in.result.now ≡ datagram_of c.args.self.now =
    c.datagram_in.ensures.bytes ∙ ap (λ (area : List ℕ). take c.self.inside.length (drop HEADROOM area)) (c.from_headroom.ensures ∙ ap (drop HEADROOM_INDEX) c.deref.ensures.value) ∙ ap datagram_of c.self.view_is in
    let size : length (datagram_of c.args.self.now) ≡ c.self.inside.length =
    sym (ap (λ f. length (datagram_of f)) c.self.view_is) ∙ datagram_length (drop HEADROOM_INDEX c.self.inside.flat.items) c.self.inside.length c.self.invariant.holds.long c.self.invariant.holds.short in
    record {
      short = omega (arith, size, c.self.invariant.holds.short);
      bytes_fit = subst (All (λ b. b < 256)) shown c.datagram_in.ensures.fit;
    }

pub returns-clause-length : goal.returns-clause-length
returns-clause-length c =
    sym (ap (λ f. length (datagram_of f)) c.self.view_is) ∙ datagram_length (drop HEADROOM_INDEX c.self.inside.flat.items) c.self.inside.length c.self.invariant.holds.long c.self.invariant.holds.short
    ∙ ap (λ f. f.length) c.self.view_is
