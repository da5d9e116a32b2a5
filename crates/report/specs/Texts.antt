-- Meaning. The texts of reports and of their errors.
use Rattle.std.specs.Prelude.{ℕ, Bool, true, false, List, [], ◌++◌, length, option_map, Option, Some, None, Result, Ok, Err, codes, decimal}
use Rattle.addresses.specs.AddressTexts.{address_text}
use Rattle.addresses.specs.declared.address.Addr.{Addr}
use Rattle.insn.specs.Refusal.{decode_error_text}
use Rattle.insn.specs.Spelling.{listing}
use Rattle.disasm.specs.Slots.{listing_with_slots}
use Rattle.insn.specs.declared.instruction.Insn.{Insn}
use Rattle.asm.specs.Programs.{asm_error_text}
use Rattle.semantics.specs.Reasons.{reason_at}
use Rattle.semantics.specs.Runs.{Run, Ending, Exited, Stuck, Running}
use Rattle.semantics.specs.declared.plan.Plan.{Plan}
use Rattle.semantics.specs.declared.reason.Reason.{Reason}
use Rattle.semantics.specs.Records.{address_of}
use Rattle.machine.specs.Lines.{step_lines}
use Rattle.machine.specs.declared.outcome.Outcome.{Outcome}
use Rattle.machine.specs.declared.outcome.Stuck as machine
use Rattle.loader.specs.Loads.{load_error_text}
use Rattle.loader.specs.declared.refusal.LoadError.{LoadError}
use Rattle.report.specs.declared.error.ReportError.{ReportError}
use Rattle.report.specs.declared.error.ReportError.TheVariants as error

-- ---- of a file

abbrev pub accepted_text : List Insn → List ℕ
accepted_text code = codes "accepted " ++ decimal (length code) ++ codes " instructions\n"

abbrev pub refused_text : LoadError → List ℕ
refused_text e = codes "refused " ++ load_error_text e ++ codes "\n"

-- the text of a program, with the slots of its instructions or without
abbrev pub program_text : Bool → List Insn → List ℕ
program_text true code = listing_with_slots code
program_text false code = listing code

-- ---- of a run

-- the front of the window and its length
abbrev pub window_text : Option (ℕ × ℕ) → List ℕ
window_text None = codes "none"
window_text (Some w) = decimal w.0 ++ codes " " ++ decimal w.1

abbrev pub destination_text : Option Addr → List ℕ
destination_text None = codes "none"
destination_text (Some address) = address_text address

abbrev pub exit_text : ℕ → Option (ℕ × ℕ) → Option Addr → List ℕ
exit_text verdict window destination = codes "exit " ++ decimal verdict ++ codes "\nwindow " ++ window_text window
    ++ codes "\ndestination " ++ destination_text destination ++ codes "\n"

abbrev pub stuck_text : Reason → ℕ → List ℕ
stuck_text reason slot = codes "stuck " ++ reason_at reason slot ++ codes "\n"

-- how a run ended, with what it planned
abbrev pub ending_text : Ending → Plan → List ℕ
ending_text (Exited verdict) plan = exit_text verdict plan.window (option_map address_of plan.destination)
ending_text (Stuck reason slot) plan = stuck_text reason slot
ending_text Running plan = []

-- how the code's run ended
abbrev pub end_text : Result Outcome machine.Stuck → List ℕ
end_text (Ok o) = exit_text o.verdict o.window o.destination
end_text (Err s) = stuck_text s.reason s.slot

-- a line for each instruction that is stepped at, and how the run ended
abbrev pub trace_text : Run → List ℕ
trace_text r = step_lines r.path ++ ending_text r.ending r.state.plan

-- ---- of an error

-- the line on the standard error, without its line feed
abbrev pub error_text : ReportError → List ℕ
error_text error.Data = codes "refused data"
error_text (error.Program e) = codes "refused " ++ decode_error_text e
error_text (error.Text e) = codes "refused " ++ asm_error_text e
error_text error.Output = codes "cannot write output"
error_text error.Memory = codes "out of memory"
