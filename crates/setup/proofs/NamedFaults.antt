-- The refusals of the loader, memory aside: the fault of the bytes, or of the layout, is named where there is one.
use Rattle.std.proofs.Common.{◌≡◌, ◌⊎◌, ℕ, List, inl, inr, refl, sym, subst}
use Rattle.insn.specs.Encoding.{Encodes}
use Rattle.insn.specs.Refusal.{IsRefused}
use Rattle.insn.specs.declared.instruction.Insn.{Insn}
use Rattle.insn.specs.declared.refusal.DecodeError.{DecodeError}
use Rattle.insn.specs.declared.refusal.DecodeError.TheVariants as decode
use Rattle.loader.specs.Loads.{IsLoadRefusal, IsMemoryRefusal}
use Rattle.loader.specs.declared.refusal.LoadError.{LoadError}
use Rattle.loader.specs.declared.refusal.LoadError.TheVariants.{Decode, Verify}
use Rattle.semantics.specs.declared.reason.Reason.{Reason}
use Rattle.verifier.specs.Layout.{IsLayoutFault}
use Rattle.verifier.specs.declared.refusal.Refusal.TheVariants as verify
use Rattle.setup.specs.Setups.{IsNamed}

exact : (e f : LoadError) → ¬ (IsMemoryRefusal f) → (f ≡ e) ⊎ (f ≡ Decode decode.Memory) → f ≡ e
exact e f aside (inl is) = is
exact e f aside (inr ran_out) = absurd (aside (subst IsMemoryRefusal (sym ran_out) refl))

pub named : (bytes : List ℕ) (e : LoadError) → IsLoadRefusal bytes e → ¬ (IsMemoryRefusal e)
    → ((d : DecodeError) → IsRefused bytes d → (e ≡ Decode d) ⊎ (e ≡ Decode decode.Memory))
    → ((code : List Insn) (reason : Reason) (slot : ℕ) → Encodes code bytes → IsLayoutFault code reason slot
    → (e ≡ Verify (verify.Stuck reason slot)) ⊎ (e ≡ Decode decode.Memory))
    → IsNamed bytes e
named bytes e refusal aside of_bytes of_layout = record {
  refusal = refusal;
  aside = aside;
  of_bytes = λ d is. exact (Decode d) e aside (of_bytes d is);
  of_layout = λ code reason slot encodes fault. exact (Verify (verify.Stuck reason slot)) e aside (of_layout code reason slot encodes fault);
}
