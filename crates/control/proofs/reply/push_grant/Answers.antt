use Rattle.std.proofs.Common.{rules, arith}
use Rattle.control.proofs.Kept.{kept_then, appended_longer, appended_kept}
use Rattle.control.proofs.reply.push_grant.Goals as goal

pub returns-in-Mapped : goal.returns-in-Mapped
returns-in-Mapped c = record {
  parts = search rules;
  used = search rules;
  room = search rules;
  same_buffer = search rules;
  longer = appended_longer c.push_xor_addr.ensures.appends;
  kept = appended_kept c.push_xor_addr.ensures.appends;
}

pub returns-in-Allocated : goal.returns-in-Allocated
returns-in-Allocated c =
    let first = c.push_xor_addr-in-Allocated.ensures.appends in
    let third = c.push_xor_addr-in-Allocated-2.ensures.appends in
    record {
      parts = search rules;
      used = search rules;
      room = search rules;
      same_buffer = search rules;
      longer = omega (arith, appended_longer first, c.push_lifetime.ensures.longer, appended_longer third);
      kept = kept_then _ _ _ _ _ (appended_longer third) (kept_then _ _ _ _ _ c.push_lifetime.ensures.longer (appended_kept first) c.push_lifetime.ensures.kept) (appended_kept third);
    }
