-- An answer with the result of a check that is known.
use Rattle.std.proofs.Common.{◌≡◌, ℕ, List, Result, subst}
use Rattle.stun.specs.Messages.{Parts}
use Rattle.addresses.specs.declared.address.Addr.{Addr}
use Rattle.credentials.specs.TimeLimited.{Account}
use Rattle.credentials.specs.declared.checking.AuthError.{AuthError}
use Rattle.tables.specs.Rows.{Rows}
use Rattle.control.specs.Responding.{IsCheckedAnswer}
use Rattle.control.specs.declared.config.Config.{Config}
use Rattle.control.specs.declared.request.TurnRequest.{TurnRequest}
use Rattle.control.specs.declared.response.Response.{Response}

pub answer_of : {config : Config} {now : ℕ} {turn : TurnRequest} {client : Addr} {p : Parts} {old new : Rows} {written : List ℕ} {says : Response}
    → (known checked : Result Account AuthError) → known ≡ checked
    → IsCheckedAnswer config now turn client p known old new written says → IsCheckedAnswer config now turn client p checked old new written says
answer_of {config} {now} {turn} {client} {p} {old} {new} {written} {says} known checked same is =
    subst (λ c. IsCheckedAnswer config now turn client p c old new written says) same is
