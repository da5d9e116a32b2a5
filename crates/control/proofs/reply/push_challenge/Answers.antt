use Rattle.std.proofs.Common.{rules, arith}
use Rattle.control.proofs.Kept.{kept_then, appended_longer, appended_kept}
use Rattle.control.proofs.reply.push_challenge.Goals as goal

pub returns : goal.returns
returns c = record {
  parts = search rules;
  used = search rules;
  room = search rules;
  same_buffer = search rules;
  longer = omega (arith, appended_longer c.push.ensures.appends, appended_longer c.push-2.ensures.appends);
  kept = kept_then _ _ _ _ _ (appended_longer c.push-2.ensures.appends) (appended_kept c.push.ensures.appends) (appended_kept c.push-2.ensures.appends);
}
