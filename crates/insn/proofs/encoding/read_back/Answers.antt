use Rattle.std.proofs.Common.{◌∙◌}
use Rattle.insn.proofs.Programs.{read_back_is}
use Rattle.insn.proofs.encoding.read_back.Goals as goal

pub returns : goal.returns
returns c =
    read_back_is c.deref.result.now c.args.code.now c.decode.result c.decode.ensures.only c.in_ok-bytes.ensures.fit c.requires.some c.requires.few (c.deref.ensures.value ∙ c.in_ok-bytes.ensures.bytes)
