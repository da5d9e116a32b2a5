use Rattle.credentials.proofs.Signed.{sign_is_accepted}
use Rattle.credentials.proofs.signing.law_what_is_signed_is_accepted.Goals as goal

pub returns : goal.returns
returns c = sign_is_accepted
