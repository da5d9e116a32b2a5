-- Meaning. The results of the loader, and the texts of its refusals.
use Rattle.std.specs.Prelude.{◌≡◌, ◌⊎◌, ℕ, List, Result, Ok, Err}
use Rattle.insn.specs.Encoding.{Encodes}
use Rattle.insn.specs.Refusal.{IsRefused, decode_error_text}
use Rattle.insn.specs.declared.instruction.Insn.{Insn}
use Rattle.insn.specs.declared.refusal.DecodeError.TheVariants as error
use Rattle.semantics.specs.Runs.{IsSafe}
use Rattle.verifier.specs.Refusing.{MayRefuse, refusal_text}
use Rattle.verifier.specs.declared.refusal.Refusal.TheVariants as refusal
use Rattle.loader.specs.declared.loaded.TheConstants.{BUDGET}
use Rattle.loader.specs.declared.refusal.LoadError.{LoadError}
use Rattle.loader.specs.declared.refusal.LoadError.TheVariants.{Decode, Verify}

-- the text of a refusal
abbrev pub load_error_text : LoadError → List ℕ
load_error_text (Decode e) = decode_error_text e
load_error_text (Verify e) = refusal_text e

-- a loaded program is the one that the bytes encode, and safe
pub record IsLoaded (code : List Insn) (bytes : List ℕ) : Type 0 where
  pub encoded : Encodes code bytes
  pub safe : IsSafe code

-- The refusals of bytes: their fault; a refusal that verification with the budget may give on the program that they
-- encode; and a failed allocation.
abbrev pub IsLoadRefusal : List ℕ → LoadError → Type 0
IsLoadRefusal bytes (Decode e) = (e ≡ error.Memory) ⊎ IsRefused bytes e
IsLoadRefusal bytes (Verify e) = (code : List Insn) × Encodes code bytes × MayRefuse code BUDGET e

-- memory ran out
abbrev pub IsMemoryRefusal : LoadError → Type 0
IsMemoryRefusal (Decode e) = e ≡ error.Memory
IsMemoryRefusal (Verify e) = (slot : ℕ) × (e ≡ refusal.Memory slot)

-- the result is this refusal, unless memory ran out while decoding
abbrev pub IsUnlessMemory : {T : Type 0} → LoadError → Result T LoadError → Type 0
IsUnlessMemory e (Ok x) = ⊥
IsUnlessMemory e (Err f) = (f ≡ e) ⊎ (f ≡ Decode error.Memory)
