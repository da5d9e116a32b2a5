use Rattle.std.proofs.Common.{◌≡◌, take}
use Rattle.insn.specs.Encoding.{encodings, AllFit}
use Rattle.insn.proofs.encoding.encode.Given as goal

abbrev pub invariant-loop-insn : goal.invariant-loop-insn
invariant-loop-insn l = record {
  bytes : l.bytes.items ≡ encodings (take l.insn-index l.code);
  fit : AllFit (take l.insn-index l.code);
}
