use Rattle.std.proofs.Common.{◌≡◌, ◌+◌, ◌%◌, ◌++◌, length, take, drop, rules, ap, ◌∙◌}
use Rattle.stun.specs.Endian.{big_bytes}
use Rattle.credentials.specs.Hmac.{hmac}
use Rattle.credentials.specs.Keys.{key_bytes}
use Rattle.credentials.proofs.IntegrityBytes.{covered}
use Rattle.credentials.proofs.signing.integrity_over.Goals as goal

pub returns : goal.returns
returns c p n attributes id e =
    let front = c.args.front.now in
    let made : c.hmac_sha1.result ≡ hmac (key_bytes c.args.key.now) (take 2 front ++ (big_bytes 2 ((length front + 4) % 65536) ++ drop 4 front)) = search rules in
    made ∙ ap (hmac (key_bytes c.args.key.now)) (covered front p n attributes id e)
