-- What `respond` promises is the answer of the rules.
use Rattle.std.proofs.Common.{◌≡◌, ℕ, ◌⊎◌, true, List, [], ◌∷◌, refl, sym, ap, ◌∙◌, inl, inr, eqb-true, eq-eqb}
use Rattle.std.specs.Prelude.{◌==◌, Option, None, Some, IfSome, IsSomeAnd}
use Rattle.std.proofs.lemmas.Bool.{cases_Bool, cond-true, cond-false, both_ways}
use Rattle.std.proofs.lemmas.Option.{same_Some}
use Rattle.stun.specs.Messages.{Parts}
use Rattle.stun.specs.declared.registry.Class.TheVariants as class
use Rattle.addresses.specs.declared.address.Addr.{Addr}
use Rattle.control.specs.Control.{Decision, binding}
use Rattle.control.specs.Replies.{kind_of}
use Rattle.control.specs.Responding.{Responds, Answers, IsSilent, IsAnswer}
use Rattle.control.specs.declared.response.Response.{Response}
use Rattle.tables.specs.Addresses.{is_ipv4}
use Rattle.control.specs.declared.config.Config.{Config}
use Rattle.control.specs.declared.request.Request.{Request}
use Rattle.control.specs.declared.request.Request.TheVariants as request
use Rattle.control.specs.declared.request.TurnRequest.TheVariants as turn
use Rattle.tables.specs.Rows.{Rows, rows_at}
use Rattle.rules.specs.Dispositions.{response_to, disposition_of_response, disposition_of_request}
use Rattle.rules.specs.declared.disposition.Disposition.TheVariants.{Answered}
use Rattle.rules.specs.ByRules.{requests, request_among, request_of, decision_and_key, reply_with, reply_to_request, control}
use Rattle.rules.specs.Answers.{reply_sent}
use Rattle.rules.specs.Systems.{SystemReply, no_answer}

-- ---- the request of a type

-- a request that is found has the type
found_among : (kind : ℕ) (list : List Request) (r : Request) → request_among kind list ≡ Some r → kind_of r class.Request ≡ kind
found_among kind [] r e = absurd cc
found_among kind (q ∷ list) r e = elim (cases_Bool (kind_of q class.Request == kind)) [
  | inl t ↦
      let same : q ≡ r = same_Some q r (sym (cond-true (kind_of q class.Request == kind) (Some q) (request_among kind list) t) ∙ e) in
      ap (λ x. kind_of x class.Request) (sym same) ∙ eqb-true (kind_of q class.Request) kind t
  | inr f ↦ found_among kind list r (sym (cond-false (kind_of q class.Request == kind) (Some q) (request_among kind list) f) ∙ e)
]

abbrev IsAmong : Request → List Request → Type 0
IsAmong r [] = ⊥
IsAmong r (q ∷ list) = (r ≡ q) ⊎ IsAmong r list

some_is : (q : Request) → ◌≡◌ {A = Option Request} (Some q) None → ⊥
some_is q e = absurd cc

-- where none is found none of the list has it
none_among : (kind : ℕ) (list : List Request) (r : Request) → IsAmong r list → kind_of r class.Request ≡ kind → request_among kind list ≡ None → ⊥
none_among kind [] r among same e = among
none_among kind (q ∷ list) r among same e = elim (cases_Bool (kind_of q class.Request == kind)) [
  | inl t ↦ some_is q (sym (cond-true (kind_of q class.Request == kind) (Some q) (request_among kind list) t) ∙ e)
  | inr f ↦ elim among [
    | inl is ↦ both_ways (kind_of q class.Request == kind) f (eq-eqb (kind_of q class.Request) kind (ap (λ x. kind_of x class.Request) (sym is) ∙ same))
    | inr more ↦ none_among kind list r more same (sym (cond-false (kind_of q class.Request == kind) (Some q) (request_among kind list) f) ∙ e)
  ]
]

all_requests : (r : Request) → IsAmong r requests
all_requests request.Binding = inl refl
all_requests (request.Turn turn.Allocate) = inr (inl refl)
all_requests (request.Turn turn.Refresh) = inr (inr (inl refl))
all_requests (request.Turn turn.CreatePermission) = inr (inr (inr (inl refl)))
all_requests (request.Turn turn.ChannelBind) = inr (inr (inr (inr (inl refl))))

-- ---- answers

module _ (config : Config) (now : ℕ) (client : Addr) (p : Parts) (old new : Rows) (written : List ℕ) (says : Option Response) where
  abbrev reply_of : SystemReply
  reply_of = record { answer = reply_sent client written; rows = new }

  with_decision : (r : Request) (key : Option (List ℕ)) (d : Decision) → IsAnswer config r client p key d old new written → reply_with config r client p old (d, key) ≡ reply_of
  with_decision r key d is = λ i. record { answer = reply_sent client (sym is.bytes i); rows = sym is.rows i }

  with_request : (r : Request) (s : Response) → Answers config now r client p old new written s → reply_with config r client p old (decision_and_key config now r client p old) ≡ reply_of
  with_request request.Binding s is = with_decision request.Binding None (binding p) is.0
  with_request (request.Turn r) s is = with_decision (request.Turn r) _ _ is.answer

  silent_is : IsSilent old new written says → no_answer old ≡ reply_of
  silent_is is = λ i. record { answer = reply_sent client (sym is.bytes i); rows = sym is.rows i }

  by_request : is_ipv4 client ≡ true → Responds config now client p old new written says → (o : Option Request) → request_of p.kind ≡ o → reply_to_request config now client p old o ≡ reply_of
  by_request ipv4 responds None e = silent_is (responds.other (λ r same. none_among p.kind requests r (all_requests r) same e))
  by_request ipv4 responds (Some r) e = there says (responds.answered r (found_among p.kind requests r e) ipv4) where
    there : (o : Option Response) → IsSomeAnd o (Answers config now r client p old new written) → reply_to_request config now client p old (Some r) ≡ reply_of
    there None is = absurd is
    there (Some s) is = with_request r s is

  pub control_is : is_ipv4 client ≡ true → Responds config now client p old new written says → control config now client p old ≡ reply_of
  control_is ipv4 responds = by_request ipv4 responds (request_of p.kind) refl

  -- ---- what the response says

  says_of : (r : Request) (s : Response) → Answers config now r client p old new written s → s ≡ response_to config now r client p old
  says_of request.Binding s is = is.1
  says_of (request.Turn r) s is = is.response

  says_by_request : is_ipv4 client ≡ true → Responds config now client p old new written says → (o : Option Request) → request_of p.kind ≡ o → disposition_of_response says ≡ disposition_of_request config now client p old o
  says_by_request ipv4 responds None e = ap disposition_of_response (responds.other (λ r same. none_among p.kind requests r (all_requests r) same e)).response
  says_by_request ipv4 responds (Some r) e = there says (responds.answered r (found_among p.kind requests r e) ipv4) where
    there : (o : Option Response) → IsSomeAnd o (Answers config now r client p old new written) → disposition_of_response o ≡ disposition_of_request config now client p old (Some r)
    there None is = absurd is
    there (Some s) is = ap Answered (says_of r s is)

  pub response_is : is_ipv4 client ≡ true → Responds config now client p old new written says → disposition_of_response says ≡ disposition_of_request config now client p old (request_of p.kind)
  response_is ipv4 responds = says_by_request ipv4 responds (request_of p.kind) refl

-- ---- the request that is found

-- what is found for a message is the request of its type
pub request_is : (kind : ℕ) (o : Option Request) → IfSome o (λ r. kind_of r class.Request ≡ kind) → ((r : Request) → kind_of r class.Request ≡ kind → o ≡ Some r) → o ≡ request_of kind
request_is kind o found only = of (request_of kind) refl where
  of : (answer : Option Request) → request_of kind ≡ answer → o ≡ answer
  of (Some r) e = only r (found_among kind requests r e)
  of None e = none o found where
    none : (o : Option Request) → IfSome o (λ r. kind_of r class.Request ≡ kind) → o ≡ None
    none None is = refl
    none (Some r) is = absurd (none_among kind requests r (all_requests r) is e)
