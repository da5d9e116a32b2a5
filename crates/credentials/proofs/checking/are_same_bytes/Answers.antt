use Rattle.std.proofs.Common.{refl}
use Rattle.credentials.proofs.checking.are_same_bytes.Goals as goal

pub loop-i-init : goal.loop-i-init
loop-i-init c = (λ _. refl, λ _. refl)
