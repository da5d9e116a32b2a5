-- Internal. The refusal of a text by the fault of one line.
use Rattle.std.specs.Prelude.{ℕ}
use Rattle.asm.specs.declared.refusal.AsmError.{AsmError}
use Rattle.asm.specs.declared.refusal.AsmError.TheVariants as error
use Rattle.asm.specs.declared.refusal.LineError.{LineError}
use Rattle.asm.specs.declared.refusal.LineError.TheVariants as fault

abbrev pub fault_at : LineError → ℕ → AsmError
fault_at fault.Syntax n = error.Syntax n
fault_at fault.Range n = error.Range n
