use Rattle.credentials.specs.Keys.{key_bytes}
use Rattle.credentials.proofs.IntegrityBytes.{integrity_of_front}
use Rattle.credentials.proofs.checking.integrity_under.Goals as goal

pub returns : goal.returns
returns c =
    let p = c.args.message.now in
    integrity_of_front (key_bytes c.args.key.now) c.in_ok-front.front.now c.integrity_over.result p (λ f e. c.integrity_over.ensures p _ f c.before_integrity.ensures.are_parts.tx e) c.in_ok-front.ensures.front
