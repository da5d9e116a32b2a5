use Rattle.std.proofs.Common.{rules}
use Rattle.control.proofs.Kept.{appended_longer, appended_kept}
use Rattle.control.proofs.reply.push_details.Goals as goal

pub returns-in-Unauthenticated : goal.returns-in-Unauthenticated
returns-in-Unauthenticated c = search rules

pub returns-in_default : goal.returns-in_default
returns-in_default c = search rules

pub returns-in-UnknownAttribute : goal.returns-in-UnknownAttribute
returns-in-UnknownAttribute c = record {
  parts = search rules;
  used = search rules;
  room = search rules;
  same_buffer = search rules;
  longer = appended_longer c.push_unknown.ensures.appends;
  kept = appended_kept c.push_unknown.ensures.appends;
}
