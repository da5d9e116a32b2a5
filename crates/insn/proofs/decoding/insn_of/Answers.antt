use Rattle.std.proofs.Common.{rules}
use Rattle.insn.proofs.decoding.insn_of.Goals as goal

pub returns-in-Jump-W32 : goal.returns-in-Jump-W32
returns-in-Jump-W32 c = search rules

pub returns-in-Call : goal.returns-in-Call
returns-in-Call c = search rules
