-- Internal. Signatures in blocks, and what those of a block have in common.
use Rattle.std.specs.Prelude.{◌≡◌, ℕ, ◌*◌, ◌/◌, ◌<◌, ◌≤◌, nat_lt, true, List, [], ◌∷◌, ◌++◌, length, slice_index_or, slice_set, if◌then◌else◌}
use Rattle.absstate.specs.CommonSignatures.{common_of, common_with, admits}
use Rattle.absstate.specs.Signatures.{lies_within}
use Rattle.absstate.specs.declared.common_signature.CommonSignature.{CommonSignature}
use Rattle.absstate.specs.declared.signature.StateSignature.{StateSignature}
use Rattle.verifier.specs.declared.signatures.TheConstants.{BLOCK}

-- a signature is added to a block, or to a new one
abbrev pub blocks_with : List CommonSignature → ℕ → StateSignature → List CommonSignature
blocks_with blocks block s = if nat_lt block (length blocks) then slice_set blocks block (common_with (slice_index_or blocks block (common_of s)) s) else blocks ++ common_of s ∷ []

-- each signature is in a block, which admits what the signature lies within
pub record AreInBlocks (blocks : List CommonSignature) (each : List StateSignature) : Type 0 where
  pub all : length each ≤ BLOCK * length blocks
  pub admitted : (i : ℕ) (s : StateSignature) (c : CommonSignature) (t : StateSignature) → i < length each → slice_index_or each i s ≡ s → slice_index_or blocks (i / BLOCK) c ≡ c → lies_within s t ≡ true → admits c t ≡ true
