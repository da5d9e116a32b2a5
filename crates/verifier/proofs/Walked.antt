-- The last step of a walk that is refused.
use Rattle.std.proofs.Common.{◌≡◌, ℕ, ◌+◌, List, [], ◌∷◌, ◌++◌, inl, inr, refl}
use Rattle.insn.specs.declared.instruction.Insn.{Insn}
use Rattle.interval.specs.Domains.{Operations}
use Rattle.verifier.specs.Layout.{IsLayoutRefusal}
use Rattle.verifier.specs.Walk.{IsStepRefusal}
use Rattle.verifier.specs.Walks.{Walks, IsLastStep, IsRefusedEnd}
use Rattle.verifier.specs.declared.kept.KeptStates.{KeptStates}
use Rattle.verifier.specs.declared.refusal.Refusal.{Refusal}
use Rattle.verifier.specs.declared.refusal.Refusal.TheVariants as refusal
use Rattle.verifier.specs.declared.walk.Pending.{Pending}

module _ {D : Type 0} (ops : Operations D) (Member : D → ℕ → Type 0) (code : List Insn) where
  abbrev last_step : (made slot : ℕ) (here : Pending D) (old : List (Pending D)) (kept : KeptStates D) → slot ≡ here.slot → Walks ops Member code made (old ++ here ∷ []) kept → IsLastStep ops Member code (made + 1) slot
  last_step made slot here old kept same walks = record { before = made; count = refl; comes = record { here = here; pending = old; kept = kept; walks = walks; slot_is = same } }

  -- a step that is refused, or for which memory is refused
  pub refused_end : (made : ℕ) (here : Pending D) (old : List (Pending D)) (kept : KeptStates D) (e : Refusal) → Walks ops Member code made (old ++ here ∷ []) kept → IsStepRefusal ops code here e → IsRefusedEnd ops Member code (made + 1) e
  refused_end made here old kept (refusal.Stuck reason slot) walks refused = inr (last_step made slot here old kept refused.0 walks, refused.1)
  refused_end made here old kept (refusal.Budget slot) walks refused = absurd refused
  refused_end made here old kept (refusal.Memory slot) walks refused = inr (last_step made slot here old kept refused walks)

  pub layout_end : (e : Refusal) → IsLayoutRefusal code e → IsRefusedEnd ops Member code 0 e
  layout_end (refusal.Stuck reason slot) fault = inl (refl, fault)
  layout_end (refusal.Budget slot) fault = absurd fault
  layout_end (refusal.Memory slot) fault = absurd fault
