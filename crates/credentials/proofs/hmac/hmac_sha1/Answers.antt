use Rattle.std.proofs.Common.{rules}
use Rattle.credentials.specs.Hmac.{hmac}
use Rattle.credentials.proofs.hmac.hmac_sha1.Goals as goal

pub returns : goal.returns
unfolding hmac
returns c = search rules
