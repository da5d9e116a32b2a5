use Rattle.std.proofs.Common.{◌≡◌, true, false, take, rules, sym, ap, ◌∙◌}
use Rattle.std.specs.Prelude.{◌==◌, Some}
use Rattle.stun.specs.Datagrams.{message_in}
use Rattle.control.specs.Responding.{count_of}
use Rattle.rules.specs.Answers.{reply_sent}
use Rattle.rules.specs.ByRules.{from_client}
use Rattle.rules.specs.laws.Client.{is_handled, disposition_is_handled}
use Rattle.rules.specs.FastPart.{begins_as_stun}
use Rattle.rules.specs.Rules.{send_indication}
use Rattle.rules.specs.Systems.{SystemReply}
use Rattle.rules.proofs.Controls.{control_is, response_is}
use Rattle.rules.proofs.client.answer_client.Goals as goal

stun : (g : _) (c : goal.After-reply_of g) → begins_as_stun c.args.datagram.now ≡ true
stun g c = search rules

is_message : (g : _) (c : goal.After-reply_of g) → message_in c.args.datagram.now ≡ Some c.in-Ok.message
is_message g c = search rules

other : (g : _) (c : goal.After-reply_of g) → (c.in-Ok.message.kind == send_indication) ≡ false
other g c = search rules

-- what the rules answer is the reply, and the rows are those of the tables
handled : (g : _) (c : goal.After-reply_of g) → from_client c.args.config.now c.args.moment c.args.client c.args.tables.now c.args.datagram.now
    ≡ record { answer = reply_sent c.args.client (take (count_of c.respond.result) c.respond.new.out); rows = c.respond.new.tables }
handled g c =
    is_handled c.args.config.now c.args.moment c.args.client c.args.tables.now c.args.datagram.now c.in-Ok.message (stun g c) (is_message g c) (other g c)
    ∙ control_is _ _ _ _ _ _ _ _ c.requires.ipv4 c.respond.ensures.responds

pub returns-clause-answer : goal.returns-clause-answer
returns-clause-answer g c =
    c.reply_of.ensures.sends c.args.client c.args.datagram.now c.respond.new.out
    ∙ sym (ap (λ (r : SystemReply). r.answer) (handled g c))

pub returns-clause-rows : goal.returns-clause-rows
returns-clause-rows g c = sym (ap (λ (r : SystemReply). r.rows) (handled g c))

pub returns-clause-disposition : goal.returns-clause-disposition
returns-clause-disposition g c =
    c.reply_of.ensures.disposition
    ∙ response_is _ _ _ _ _ _ _ _ c.requires.ipv4 c.respond.ensures.responds
    ∙ sym (disposition_is_handled c.args.config.now c.args.moment c.args.client c.args.tables.now c.args.datagram.now c.in-Ok.message (stun g c) (is_message g c) (other g c))
