use Rattle.std.proofs.Common.{rules}
use Rattle.control.proofs.Kept.{appended_longer, appended_kept}
use Rattle.control.proofs.reply.push_lifetime.Goals as goal

pub returns : goal.returns
returns c = record {
  parts = search rules;
  used = search rules;
  room = search rules;
  same_buffer = search rules;
  longer = appended_longer c.push.ensures.appends;
  kept = appended_kept c.push.ensures.appends;
}
