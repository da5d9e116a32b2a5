-- Meaning. Files whose programs are put in order, and why others are not.
use Rattle.std.specs.Prelude.{◌≡◌, ℕ, ◌≤◌, List, ◌++◌, codes, decimal}
use Rattle.insn.specs.Encoding.{AllFit, Encodes, encodings, slot_count}
use Rattle.insn.specs.Refusal.{IsRefused, IsWhole, decode_error_text}
use Rattle.insn.specs.declared.decoding.TheConstants.{MAX_SLOTS}
use Rattle.insn.specs.declared.instruction.Insn.{Insn}
use Rattle.semantics.specs.Reasons.{reason_at}
use Rattle.verifier.specs.Layout.{HasGoodJumps}
use Rattle.ordering.specs.Orders.{KeepsMeaningBy, HasNoLoop, IsOrderFault}
use Rattle.ordering.specs.declared.error.OrderError.{OrderError}
use Rattle.ordering.specs.declared.error.OrderError.TheVariants as errors
use Rattle.ordering.specs.declared.places.Places.{Places}
use Rattle.ordering.specs.declared.file.FileError.{FileError}
use Rattle.ordering.specs.declared.file.FileError.TheVariants as file

-- the bytes of a file encode a program of which no loop is reached, and the new ones another one of the same meaning, all of whose
-- jumps lead forward and which has the instructions at these places
pub record IsInOrder (bytes new : List ℕ) (places : Places) : Type 0 where
  pub code : List Insn
  pub encodes : Encodes code bytes
  pub loopless : HasNoLoop code
  pub in_order : List Insn
  pub fit : AllFit in_order
  pub few : slot_count in_order ≤ MAX_SLOTS
  pub spelled : new ≡ encodings in_order
  pub forward : HasGoodJumps in_order
  pub meaning : KeepsMeaningBy places code in_order

-- they encode a program that is not put in order, for a reason
pub record IsRefusedOrder (bytes : List ℕ) (error : OrderError) : Type 0 where
  pub code : List Insn
  pub encodes : Encodes code bytes
  pub fault : IsOrderFault code error

-- the first fault of the bytes, or the fault of the program; or memory ran out, over bytes of whole slots that are not too many
abbrev pub IsFileFault : List ℕ → FileError → Type 0
IsFileFault bytes (file.Program refusal) = IsRefused bytes refusal
IsFileFault bytes (file.Order error) = IsRefusedOrder bytes error
IsFileFault bytes file.Memory = IsWhole bytes

-- ---- texts

-- a loop and the faults of jumps with their slots, and a program that may need more slots than there are
abbrev pub order_error_text : OrderError → List ℕ
order_error_text (errors.Loop slot) = codes "loop at " ++ decimal slot
order_error_text (errors.Stuck reason slot) = reason_at reason slot
order_error_text errors.TooLong = codes "length"
order_error_text errors.Memory = codes "memory"

abbrev pub file_error_text : FileError → List ℕ
file_error_text (file.Program refusal) = decode_error_text refusal
file_error_text (file.Order error) = order_error_text error
file_error_text file.Memory = codes "memory"
