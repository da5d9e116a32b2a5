-- Meaning. What a relay is set up from, and the first of its faults.
use Rattle.std.specs.Prelude.{◌≡◌, ℕ, pos, ◌<◌, ◌≤◌, List, Option, Some, None, length, string_bytes, IsSomeAnd}
use Rattle.std.specs.Borrow.{Bor}
use Rattle.control.specs.Configs.{fault}
use Rattle.control.specs.declared.config.Config.{Config}
use Rattle.control.specs.declared.config.Field.{Field}
use Rattle.insn.specs.declared.instruction.Insn.{Insn}
use Rattle.insn.specs.Encoding.{Encodes}
use Rattle.insn.specs.Refusal.{IsRefused, IsWhole}
use Rattle.insn.specs.declared.refusal.DecodeError.{DecodeError}
use Rattle.insn.specs.declared.refusal.DecodeError.TheVariants as decode
use Rattle.loader.specs.Loads.{IsLoaded, IsLoadRefusal, IsMemoryRefusal}
use Rattle.loader.specs.declared.refusal.LoadError.{LoadError}
use Rattle.loader.specs.declared.refusal.LoadError.TheVariants.{Decode, Verify}
use Rattle.semantics.specs.declared.reason.Reason.{Reason}
use Rattle.verifier.specs.Layout.{IsLayoutFault}
use Rattle.verifier.specs.declared.refusal.Refusal.TheVariants as verify
use Rattle.setup.specs.declared.error.ProgramError.{ProgramError}
use Rattle.setup.specs.declared.error.ProgramError.TheVariants as program
use Rattle.setup.specs.declared.error.SetupError.{SetupError}
use Rattle.setup.specs.declared.error.SetupError.TheVariants as setup
use Rattle.setup.specs.declared.setting_up.Setup.{Setup}

-- the bytes that a nonce may have
abbrev pub MOST_NONCE : ℕ
MOST_NONCE = 64

-- the configuration has what the setup says
pub record IsConfigOf (s : Setup) (c : Config) : Type 0 where
  pub ip : c.ip ≡ s.ip
  pub ip6 : c.ip6 ≡ s.ip6
  pub first_port : c.first_port ≡ s.first_port
  pub slots : c.slots ≡ s.slots
  pub user_slots : c.user_slots ≡ s.user_slots
  pub realm : string_bytes c.realm ≡ string_bytes s.realm
  pub nonce : c.nonce.bytes ≡ s.nonce.now
  pub users_are : c.users.items ≡ s.users.items
  pub secret : c.secret ≡ s.secret
  pub former_secret : c.former_secret ≡ s.former_secret
  pub revoked : c.revoked ≡ s.revoked
  pub clock : c.clock_ahead ≡ pos 0

-- the bytes were read, and this program is loaded from them
abbrev pub IsProgram : Option (Bor (List ℕ)) → List Insn → Type 0
IsProgram bytes code = IsSomeAnd bytes (λ b. IsLoaded code b.now)

-- Bytes are refused, memory aside. The fault of the bytes is the one that is named, where there is one, and so is the fault of the
-- layout of the program that they encode.
pub record IsNamed (bytes : List ℕ) (e : LoadError) : Type 0 where
  pub refusal : IsLoadRefusal bytes e
  pub aside : ¬ (IsMemoryRefusal e)
  pub of_bytes : (d : DecodeError) → IsRefused bytes d → e ≡ Decode d
  pub of_layout : (code : List Insn) (reason : Reason) (slot : ℕ) → Encodes code bytes → IsLayoutFault code reason slot
      → e ≡ Verify (verify.Stuck reason slot)

-- the fault of a program that the loader refuses, or for which memory ran out
abbrev pub program_error : LoadError → ProgramError
program_error (Decode decode.Memory) = program.Memory
program_error (Verify (verify.Memory slot)) = program.Memory
program_error e = program.Refused e

-- why no program is loaded: the bytes weren't read; or they are refused; or they were read, are whole slots, at most as many as a
-- program may have, and memory ran out
abbrev pub IsProgramFault : Option (Bor (List ℕ)) → ProgramError → Type 0
IsProgramFault bytes program.File = bytes ≡ None
IsProgramFault bytes (program.Refused e) = IsSomeAnd bytes (λ b. IsNamed b.now e)
IsProgramFault bytes program.Memory = IsSomeAnd bytes (λ b. IsWhole b.now)

-- the bytes were read, and encode a safe program
abbrev pub IsLoadable : Option (Bor (List ℕ)) → Type 0
IsLoadable bytes = (code : List Insn) × IsProgram bytes code

-- the nonce fits, both programs are loadable, and this is the first field of the configuration outside its limits
pub record HasFieldFault (s : Setup) (field : Option Field) : Type 0 where
  pub nonce : length s.nonce.now ≤ MOST_NONCE
  pub client : IsLoadable s.client
  pub peer : IsLoadable s.peer
  pub config : Config
  pub is_config : IsConfigOf s config
  pub is_fault : fault config ≡ field

-- The fault is the first: of the nonce's length, the client's program, the peers' program, and the fields. Memory is it where
-- there is no other.
abbrev pub IsSetupFault : Setup → SetupError → Type 0
IsSetupFault s setup.Nonce = MOST_NONCE < length s.nonce.now
IsSetupFault s (setup.Client e) = (length s.nonce.now ≤ MOST_NONCE) × IsProgramFault s.client e
IsSetupFault s (setup.Peer e) = (length s.nonce.now ≤ MOST_NONCE) × (IsLoadable s.client × IsProgramFault s.peer e)
IsSetupFault s (setup.Field field) = HasFieldFault s (Some field)
IsSetupFault s setup.Memory = HasFieldFault s None
