use Rattle.std.proofs.Common.{◌≡◌, string_bytes, take}
use Rattle.insn.specs.Spelling.{listing}
use Rattle.disasm.proofs.disassemble.Given as goal

abbrev pub invariant-loop-insn : goal.invariant-loop-insn
invariant-loop-insn l = string_bytes l.text ≡ listing (take l.insn-index l.code)
