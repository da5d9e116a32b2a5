use Rattle.std.proofs.Common.{rules}
use Rattle.control.proofs.Kept.{appended_kept}
use Rattle.control.proofs.reply.sign_if.Goals as goal

pub returns-in-Some-clause-parts : goal.returns-in-Some-clause-parts
returns-in-Some-clause-parts c = search rules

pub returns-in-Some-clause-kept : goal.returns-in-Some-clause-kept
returns-in-Some-clause-kept c = appended_kept c.push_integrity.ensures.appends
