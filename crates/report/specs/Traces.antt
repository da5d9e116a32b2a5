-- Meaning. A trace of a program file over the datagram that hexadecimal digits encode.
use Rattle.std.specs.Prelude.{◌≡◌, ℕ, ◌≤◌, List, [], ◌∷◌, length, replicate, Option, option_copied, Ok}
use Rattle.std.specs.Io.KnownBytes.{Appends}
use Rattle.std.specs.Option.{unwrap_or}
use Rattle.std.specs.Borrow.{Bor}
use Rattle.hex.specs.Hex.{decode_of}
use Rattle.insn.specs.Encoding.{Encodes}
use Rattle.insn.specs.declared.instruction.Insn.{Insn}
use Rattle.semantics.specs.declared.limits.TheConstants.{MAX_DATAGRAM}
use Rattle.semantics.specs.Machine.{Context}
use Rattle.semantics.specs.Runs.{Run, Ending, Exited, Stuck, Running}
use Rattle.semantics.specs.Nothing.{empty_answer}
use Rattle.machine.specs.Tracing.{run_over}
use Rattle.report.specs.Texts.{trace_text}

-- The client's side (0), the source 127.0.0.1:9 as an address record (a zero, the family 1, the port, the
-- address) and as a wide one (twelve zeros more), and a transaction id of zeros.
abbrev pub trace_context : Context
trace_context = record {
  side = 0;
  source = 0 ∷ 1 ∷ 0 ∷ 9 ∷ 127 ∷ 0 ∷ 0 ∷ 1 ∷ [];
  wide_source = 0 ∷ 1 ∷ 0 ∷ 9 ∷ 127 ∷ 0 ∷ 0 ∷ 1 ∷ replicate 12 0;
  tx = 0 ∷ 0 ∷ 0 ∷ 0 ∷ 0 ∷ 0 ∷ 0 ∷ 0 ∷ 0 ∷ 0 ∷ 0 ∷ 0 ∷ [];
}

-- the digits of the option, empty where it is absent
abbrev pub digits_of : Option (Bor (List ℕ)) → List ℕ
digits_of hex = unwrap_or (option_copied hex) []

-- the digits encode this datagram, of at most 65,507 bytes
pub record EncodeDatagram (digits datagram : List ℕ) : Type 0 where
  pub decoded : decode_of digits ≡ Ok datagram
  pub short : length datagram ≤ MAX_DATAGRAM

-- the digits encode a datagram
abbrev pub HasDatagram : List ℕ → Type 0
HasDatagram digits = (datagram : List ℕ) × EncodeDatagram digits datagram

-- the digits encode no datagram
abbrev pub HasNoDatagram : List ℕ → Type 0
HasNoDatagram digits = (datagram : List ℕ) → EncodeDatagram digits datagram → ⊥

-- the run of the code over the datagram, without any allocation
abbrev pub traced_run : List Insn → List ℕ → Run
traced_run code datagram = run_over (record { context = trace_context; answer = empty_answer }) code datagram

-- the file encodes a program, the digits encode a datagram, and the run has an ending of this kind
pub record TraceEnds (digits file : List ℕ) (IsEnding : Ending → Type 0) : Type 0 where
  pub code : List Insn
  pub file_encodes : Encodes code file
  pub datagram : List ℕ
  pub digits_encode : EncodeDatagram digits datagram
  pub ended : IsEnding (traced_run code datagram).ending

-- the same, where the output has the text of the run more
pub record PrintsTrace (digits file : List ℕ) (IsEnding : Ending → Type 0) (old new : Option (List ℕ)) : Type 0 where
  pub code : List Insn
  pub file_encodes : Encodes code file
  pub datagram : List ℕ
  pub digits_encode : EncodeDatagram digits datagram
  pub ended : IsEnding (traced_run code datagram).ending
  pub written : Appends old new (trace_text (traced_run code datagram))

-- the status of a trace that has ended so
abbrev pub IsEndStatus : Ending → ℕ → Type 0
IsEndStatus (Exited verdict) status = status ≡ 0
IsEndStatus (Stuck reason slot) status = status ≡ 1
IsEndStatus Running status = ⊥

abbrev pub IsExit : Ending → Type 0
IsExit (Exited verdict) = Unit {0}
IsExit (Stuck reason slot) = ⊥
IsExit Running = ⊥

abbrev pub IsStuck : Ending → Type 0
IsStuck (Exited verdict) = ⊥
IsStuck (Stuck reason slot) = Unit {0}
IsStuck Running = ⊥
