-- Meaning. The text of a reason, as a replay writes it.
use Rattle.std.specs.Prelude.{ℕ, List, [], ◌∷◌, ◌++◌, ◌==◌, codes, decimal, Option, None, Some, if◌then◌else◌}
use Rattle.stun.specs.ErrorCodes.{number_of_error, phrase_of}
use Rattle.credentials.specs.declared.checking.AuthError.{AuthError}
use Rattle.credentials.specs.declared.checking.AuthError.TheVariants as auth
use Rattle.control.specs.declared.reply.Grant.{Grant}
use Rattle.control.specs.declared.reply.Grant.TheVariants as grant
use Rattle.control.specs.declared.response.Response.{Response}
use Rattle.control.specs.declared.response.Response.TheVariants as response
use Rattle.rules.specs.declared.disposition.Discard.{Discard}
use Rattle.rules.specs.declared.disposition.Discard.TheVariants as discard
use Rattle.rules.specs.declared.disposition.Disposition.{Disposition}
use Rattle.rules.specs.declared.disposition.Disposition.TheVariants.{Relayed, Answered, Discarded}
use Rattle.relay.specs.declared.reason.StepReason.{StepReason}
use Rattle.relay.specs.declared.reason.StepReason.TheVariants as reason
use Rattle.relay.specs.declared.reason.Unsent.{Unsent}
use Rattle.relay.specs.declared.reason.Unsent.TheVariants as unsent

abbrev pub grant_text : Grant → List ℕ
grant_text grant.Mapped = codes "granted an address"
grant_text (grant.Allocated family slot lifetime) =
    codes "allocated slot " ++ (decimal slot ++ (codes " for " ++ (decimal lifetime ++ codes " seconds")))
grant_text (grant.Refreshed lifetime) =
    if lifetime == 0 then codes "ended" else codes "refreshed for " ++ (decimal lifetime ++ codes " seconds")
grant_text grant.Done = codes "granted"

-- which test the credentials failed
abbrev pub credentials_text : AuthError → List ℕ
credentials_text auth.Missing = codes "no credentials"
credentials_text auth.Incomplete = codes "incomplete credentials"
credentials_text auth.StaleNonce = codes "stale nonce"
credentials_text auth.UnknownUser = codes "unknown user"
credentials_text auth.WrongIntegrity = codes "wrong password"
credentials_text auth.Expired = codes "expired"

abbrev pub response_text : Response → List ℕ
response_text (response.Granted grant) = grant_text grant
response_text (response.Unauthenticated error) = credentials_text error
response_text (response.Refused error) = codes "refused " ++ (decimal (number_of_error error) ++ 0x20 ∷ phrase_of error)

abbrev pub discard_text : Discard → List ℕ
discard_text discard.NotServed = codes "not served"
discard_text discard.ByProgram = codes "by the program"
discard_text discard.Malformed = codes "malformed"
discard_text discard.NoRequest = codes "no request"
discard_text discard.NoAllocation = codes "no allocation"
discard_text discard.NoChannel = codes "no channel"
discard_text discard.UnknownAttribute = codes "unknown attribute"
discard_text discard.Incomplete = codes "incomplete"
discard_text discard.NoPermission = codes "no permission"
discard_text discard.OtherFamily = codes "other family"
discard_text discard.TooLong = codes "too long"
discard_text discard.Confined = codes "confined"

abbrev pub disposition_text : Disposition → List ℕ
disposition_text Relayed = codes "relayed"
disposition_text (Answered response) = response_text response
disposition_text (Discarded reason) = discard_text reason

-- why a program sends nothing
abbrev pub unsent_text : Unsent → List ℕ
unsent_text (unsent.Verdict verdict) = codes ", verdict " ++ decimal verdict
unsent_text unsent.NoWindow = codes ", without a window"
unsent_text unsent.NoAllocation = codes ", without an allocation"
unsent_text unsent.NoDestination = codes ", without a destination"
unsent_text unsent.OtherFamily = codes ", to another family"

abbrev pub explanation_text : StepReason → List ℕ
explanation_text reason.NonceSet = codes "nonce set"
explanation_text (reason.Done done) = disposition_text done
explanation_text (reason.Program slot unsent) = codes "discarded by the program at slot " ++ (decimal slot ++ unsent_text unsent)

-- what ends the line of an answer: a line feed, and before it a reason, if there is one
abbrev pub line_ending : Option StepReason → List ℕ
line_ending None = 10 ∷ []
line_ending (Some reason) = codes " ; " ++ (explanation_text reason ++ 10 ∷ [])
