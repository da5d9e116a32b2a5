use Rattle.std.proofs.Common.{refl}
use Rattle.credentials.proofs.Signed.{sign_is_right}
use Rattle.credentials.specs.Signs.{with_integrity}
use Rattle.credentials.proofs.signing.law_what_is_signed_is_right.Goals as goal

pub returns : goal.returns
returns c key p none = sign_is_right key p (with_integrity key p) refl none
