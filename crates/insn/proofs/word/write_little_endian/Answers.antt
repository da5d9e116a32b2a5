use Rattle.std.proofs.Common.{length, rules}
use Rattle.byteorder.proofs.Bytes.{take-bytes_low_first}
use Rattle.insn.proofs.word.write_little_endian.Goals as goal

pub returns : goal.returns
returns c =
    let low = take-bytes_low_first 0 8 (length c.args.bytes.now) c.args.value c.requires in
    search (rules, low)
