-- What an explanation says of a file, from that of the program that it encodes, or from why it encodes none.
use Rattle.std.proofs.Common.{◌≡◌, ℕ, List, Result, Ok, Err, IfOk, sym, subst}
use Rattle.std.specs.Prelude.{◌⊎◌}
use Rattle.insn.specs.Encoding.{Encodes}
use Rattle.insn.specs.Refusal.{IsRefused}
use Rattle.insn.specs.declared.instruction.Insn.{Insn}
use Rattle.insn.specs.declared.refusal.DecodeError.{DecodeError}
use Rattle.insn.specs.declared.refusal.DecodeError.TheVariants as decode
use Rattle.loader.specs.declared.refusal.LoadError.TheVariants.{Decode, Verify}
use Rattle.explaining.specs.Explained.{IsExplained, IsExplainedCode}
use Rattle.explaining.specs.declared.error.ExplainError.{ExplainError}
use Rattle.explaining.specs.declared.file.Explained.{Explained}
use Rattle.explaining.specs.declared.file.Explained.TheVariants.{Accepted, Refused}

pub of_code : (code : List Insn) (file : List ℕ) → Encodes code file → (r : Result Explained ExplainError) → IfOk r (IsExplainedCode code) → IfOk r (IsExplained file)
of_code code file encodes (Ok (Accepted cost effort)) is = (code, record { encoded = encodes; safe = is.0 }, is.1)
of_code code file encodes (Ok Refused) is = (Verify is.0, is.1, (code, encodes, is.2))
of_code code file encodes (Err e) is = tt

pub of_fault : (file : List ℕ) (e : DecodeError) → (e ≡ decode.Memory) ⊎ IsRefused file e → (r : Result Explained ExplainError) → IfOk r (λ found. (found ≡ Refused) × (e ≡ decode.Memory → ⊥)) → IfOk r (IsExplained file)
of_fault file e cause (Ok found) is = subst (IsExplained file) (sym is.0) (Decode e, is.1, cause)
of_fault file e cause (Err f) is = tt
