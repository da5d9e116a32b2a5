-- Meaning. What the exit status says about the program file and the data.
use Rattle.std.specs.Prelude.{◌≡◌, ◌⊎◌, ℕ, Bool, true, false, List, Option, Result, Ok, Err}
use Rattle.std.specs.Io.KnownBytes.{Appends, Keeps}
use Rattle.insn.specs.Encoding.{Encodes}
use Rattle.insn.specs.declared.instruction.Insn.{Insn}
use Rattle.insn.specs.Refusal.{IsRefused}
use Rattle.insn.specs.declared.refusal.DecodeError.{DecodeError}
use Rattle.insn.specs.declared.refusal.DecodeError.TheVariants as decode
use Rattle.verifier.specs.declared.refusal.Refusal.TheVariants as verify
use Rattle.loader.specs.Loads.{IsLoaded, IsLoadRefusal}
use Rattle.loader.specs.declared.refusal.LoadError.{LoadError}
use Rattle.loader.specs.declared.refusal.LoadError.TheVariants as load
use Rattle.report.specs.Traces.{digits_of, HasDatagram, HasNoDatagram, TraceEnds, PrintsTrace, IsExit, IsStuck}
use Rattle.report.specs.Texts.{accepted_text, refused_text, program_text}
use Rattle.report.specs.declared.error.ReportError.{ReportError}
use Rattle.report.specs.declared.error.ReportError.TheVariants as error
use Rattle.report.specs.declared.reporting.Ask.{Ask}
use Rattle.report.specs.declared.reporting.Ask.TheVariants as ask

-- the exit status of an error: 1 for a refusal, 3 where the output fails, 4 where memory runs out
abbrev pub status_of : ReportError → ℕ
status_of error.Data = 1
status_of (error.Program e) = 1
status_of (error.Text e) = 1
status_of error.Output = 3
status_of error.Memory = 4

-- whether an error says that the output has failed
abbrev pub is_output_failure : {T : Type 0} → Result T ReportError → Bool
is_output_failure (Ok x) = false
is_output_failure (Err error.Data) = false
is_output_failure (Err (error.Program e)) = false
is_output_failure (Err (error.Text e)) = false
is_output_failure (Err error.Output) = true
is_output_failure (Err error.Memory) = false

-- the file encodes a safe program
abbrev pub IsSafeFile : List ℕ → Type 0
IsSafeFile file = (code : List Insn) × IsLoaded code file

-- the error is about the file, and not that memory ran out
abbrev pub IsAboutFile : LoadError → Type 0
IsAboutFile (load.Decode decode.Empty) = Unit {0}
IsAboutFile (load.Decode decode.NotEights) = Unit {0}
IsAboutFile (load.Decode decode.TooLong) = Unit {0}
IsAboutFile (load.Decode (decode.Opcode slot)) = Unit {0}
IsAboutFile (load.Decode (decode.Register slot)) = Unit {0}
IsAboutFile (load.Decode (decode.UnusedField slot)) = Unit {0}
IsAboutFile (load.Decode (decode.WideCut slot)) = Unit {0}
IsAboutFile (load.Decode decode.Memory) = ⊥
IsAboutFile (load.Verify (verify.Stuck reason slot)) = Unit {0}
IsAboutFile (load.Verify (verify.Budget slot)) = Unit {0}
IsAboutFile (load.Verify (verify.Memory slot)) = ⊥

-- the loader refuses the file
abbrev pub IsRefusedFile : List ℕ → Type 0
IsRefusedFile file = (e : LoadError) × IsAboutFile e × IsLoadRefusal file e

-- the file encodes a program, safe or not
abbrev pub HasProgram : List ℕ → Type 0
HasProgram file = (code : List Insn) × Encodes code file

-- success: the file may be loaded, the traced run exits, or the file encodes a program
abbrev pub Succeeds : Ask → List ℕ → Type 0
Succeeds ask.Verify file = IsSafeFile file
Succeeds (ask.Trace hex) file = TraceEnds (digits_of hex) file IsExit
Succeeds (ask.Disassemble slots) file = HasProgram file

-- what a success has written, where what the output holds is known
abbrev pub Writes : Ask → List ℕ → Option (List ℕ) → Option (List ℕ) → Type 0
Writes ask.Verify file old new = (code : List Insn) × IsLoaded code file × Appends old new (accepted_text code)
Writes (ask.Trace hex) file old new = PrintsTrace (digits_of hex) file IsExit old new
Writes (ask.Disassemble slots) file old new = (code : List Insn) × Encodes code file × Appends old new (program_text slots code)

-- the printed report says so: the loader refuses the file, or the traced run gets stuck
abbrev pub PrintsRefusal : Ask → List ℕ → Type 0
PrintsRefusal ask.Verify file = IsRefusedFile file
PrintsRefusal (ask.Trace hex) file = TraceEnds (digits_of hex) file IsStuck
PrintsRefusal (ask.Disassemble slots) file = ⊥

-- what a printed refusal has written
abbrev pub WritesRefusal : Ask → List ℕ → Option (List ℕ) → Option (List ℕ) → Type 0
WritesRefusal ask.Verify file old new = (e : LoadError) × IsAboutFile e × IsLoadRefusal file e × Appends old new (refused_text e)
WritesRefusal (ask.Trace hex) file old new = PrintsTrace (digits_of hex) file IsStuck old new
WritesRefusal (ask.Disassemble slots) file old new = ⊥

-- the report is printed with this status
pub record IsPrinted (asked : Ask) (file : List ℕ) (status : ℕ) : Type 0 where
  pub range : (status ≡ 0) ⊎ (status ≡ 1)
  pub success : status ≡ 0 → Succeeds asked file
  pub refusal : status ≡ 1 → PrintsRefusal asked file

-- the report is written with this status
pub record IsReportWritten (asked : Ask) (file : List ℕ) (old new : Option (List ℕ)) (status : ℕ) : Type 0 where
  pub success : status ≡ 0 → Writes asked file old new
  pub refusal : status ≡ 1 → WritesRefusal asked file old new

-- an error that is a refusal has written nothing
abbrev pub IsUnwritten : Option (List ℕ) → Option (List ℕ) → ReportError → Type 0
IsUnwritten old new fault = status_of fault ≡ 1 → Keeps old new

-- decoding fails so
abbrev pub IsNoProgram : List ℕ → ReportError → Type 0
IsNoProgram file error.Memory = Unit {0}
IsNoProgram file error.Data = ⊥
IsNoProgram file (error.Program e) = IsRefused file e
IsNoProgram file (error.Text e) = ⊥
IsNoProgram file error.Output = ⊥

-- When a report may fail by an error. A trace tests its digits first, then decodes the file, and then prints.
abbrev pub MayFail : Ask → List ℕ → ReportError → Type 0
MayFail asked file error.Memory = Unit {0}
MayFail ask.Verify file error.Data = ⊥
MayFail ask.Verify file (error.Program e) = ⊥
MayFail ask.Verify file (error.Text e) = ⊥
MayFail ask.Verify file error.Output = Unit {0}
MayFail (ask.Trace hex) file error.Data = HasNoDatagram (digits_of hex)
MayFail (ask.Trace hex) file (error.Program e) = HasDatagram (digits_of hex) × IsRefused file e
MayFail (ask.Trace hex) file (error.Text e) = ⊥
MayFail (ask.Trace hex) file error.Output = HasDatagram (digits_of hex) × HasProgram file
MayFail (ask.Disassemble slots) file error.Data = ⊥
MayFail (ask.Disassemble slots) file (error.Program e) = IsRefused file e
MayFail (ask.Disassemble slots) file (error.Text e) = ⊥
MayFail (ask.Disassemble slots) file error.Output = HasProgram file

-- the error is a refusal, of the digits or of the file
abbrev pub FailsByRefusal : Ask → List ℕ → Type 0
FailsByRefusal asked file = MayFail asked file error.Data ⊎ ((refusal : DecodeError) × MayFail asked file (error.Program refusal))

-- the request is refused, by a printed report or by an error
abbrev pub IsRefusal : Ask → List ℕ → Type 0
IsRefusal asked file = PrintsRefusal asked file ⊎ FailsByRefusal asked file

-- what a refusal has written: the report, or nothing to the output where it is an error
abbrev pub WritesIfRefused : Ask → List ℕ → Option (List ℕ) → Option (List ℕ) → Type 0
WritesIfRefused asked file old new = WritesRefusal asked file old new ⊎ (FailsByRefusal asked file × Keeps old new)
