use Rattle.std.proofs.Common.{Ok, Err, Some, None, ap, ◌∙◌, refl}
use Rattle.stun.specs.Messages.{parts_bytes}
use Rattle.credentials.specs.Checks.{account_of}
use Rattle.credentials.specs.Keys.{key_bytes}
use Rattle.tables.specs.Rows.{rows_at}
use Rattle.control.specs.Control.{decision_if_understood}
use Rattle.control.specs.Replies.{reply_to}
use Rattle.control.specs.Responding.{response_of_result}
use Rattle.control.specs.declared.request.Request.TheVariants as request
use Rattle.control.proofs.Checked.{answer_of}
use Rattle.control.proofs.Decisions.{rows_given, grant_given}
use Rattle.control.proofs.responding.answer_user.Goals as goal

pub returns-in-Ok-clause-answer : goal.returns-in-Ok-clause-answer
returns-in-Ok-clause-answer c =
    let config = c.args.config.now in
    let p = c.args.arrival.now.message.now in
    let old = c.args.tables.now in
    let user = c.in-Ok.authenticated.user in
    let served = decision_if_understood c.args.request config c.args.arrival.now.client user p (rows_at c.args.arrival.now.moment old) in
    answer_of (Ok (account_of c.in-Ok.authenticated)) _ c.in-Ok.ensures
    (record {
      answer = record {
        rows = rows_given served old c.serve-decision.new.tables c.serve-decision.result c.serve-decision.ensures.gives;
        bytes =
            c.write_reply.ensures.bytes
            ∙ ap (λ result. parts_bytes (reply_to config (request.Turn c.args.request) c.args.arrival.now.client p (Some (key_bytes c.in-Ok.authenticated.key)) result)) (grant_given served old c.serve-decision.new.tables c.serve-decision.result c.serve-decision.ensures.gives);
      };
      response = c.response_of.ensures ∙ ap response_of_result (grant_given served old c.serve-decision.new.tables c.serve-decision.result c.serve-decision.ensures.gives);
    })

pub returns-in-Err-clause-answer : goal.returns-in-Err-clause-answer
returns-in-Err-clause-answer c =
    answer_of (Err c.in-Err.error) _ c.in-Err.ensures
    (record {
      answer = record {
        rows = refl;
        bytes = c.write_reply-in-Err.ensures.bytes ∙ ap (λ error. parts_bytes (reply_to c.args.config.now (request.Turn c.args.request) c.args.arrival.now.client c.args.arrival.now.message.now None (Err error))) c.refused_credentials.ensures;
      };
      response = refl;
    })
