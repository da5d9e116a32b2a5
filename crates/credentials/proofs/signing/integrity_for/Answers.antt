use Rattle.stun.specs.Builders.{parts_of}
use Rattle.credentials.proofs.signing.integrity_for.Goals as goal

pub returns : goal.returns
returns c =
    let p = parts_of c.args.builder.now in
    c.integrity_over.ensures p _ p.attributes c.written.ensures.parts.tx c.written.ensures.bytes
