-- Paths, and the loops that they show.
use Rattle.std.proofs.Common.{ℕ, List, [], ◌∷◌, ◌++◌, refl, sym, subst, inl, inr}
use Rattle.insn.specs.declared.instruction.Insn.{Insn}
use Rattle.semantics.specs.declared.fetching.Visit.{Visit}
use Rattle.ordering.specs.Orders.{Leads, IsPath, Reaches, IsReachable, IsLooped}
use Rattle.ordering.specs.Searches.{IsChain, IsOn}

module _ (code : List Insn) where
  longer : (slot m to : ℕ) (path : List ℕ) → IsPath code slot path m → Leads code m to → IsPath code slot (path ++ to ∷ []) to
  longer slot m to [] e leads = (subst (λ (s : ℕ). Leads code s to) (sym e) leads, refl)
  longer slot m to (next ∷ path) p leads = (p.0, longer next m to path p.1 leads)

  pub reaches_on : (slot m to : ℕ) → Reaches code slot m → Leads code m to → Reaches code slot to
  reaches_on slot m to r leads = (r.0 ++ to ∷ [], longer slot m to r.0 r.1 leads)

  -- the path of the search is reached
  pub chain_reached : (v : Visit) (path : List Visit) → IsChain code (v ∷ path) → IsReachable code v.slot
  chain_reached v [] chain = ([], sym chain.1)
  chain_reached v (from ∷ path) chain = reaches_on 0 from.slot v.slot (chain_reached from path chain.2) chain.1

  -- and each of its slots leads to the current one
  pub on_reaches : (v : Visit) (path : List Visit) (slot : ℕ) → IsChain code (v ∷ path) → IsOn (v ∷ path) slot → Reaches code slot v.slot
  on_reaches v path slot chain (inl here) = ([], sym here)
  on_reaches v [] slot chain (inr on) = absurd on
  on_reaches v (from ∷ path) slot chain (inr on) = reaches_on slot from.slot v.slot (on_reaches from path slot chain.2 on) chain.1

  closes : (slot at : ℕ) (path : List ℕ) → IsPath code slot path at → IsReachable code slot → Leads code at slot → IsLooped code slot
  closes slot at [] e reached leads = record { reached = reached; next = slot; leads = subst (λ (s : ℕ). Leads code s slot) (sym e) leads; back = ([], refl) }
  closes slot at (next ∷ path) p reached leads = record { reached = reached; next = next; leads = p.0; back = reaches_on next at slot (path, p.1) leads }

  -- a branch to a slot of the path is a loop
  pub loop_closes : (v : Visit) (path : List Visit) (slot : ℕ) → IsChain code (v ∷ path) → IsOn (v ∷ path) slot → Leads code v.slot slot → IsLooped code slot
  loop_closes v path slot chain on leads =
      let back = on_reaches v path slot chain on in
      closes slot v.slot back.0 back.1 (reaches_on 0 v.slot slot (chain_reached v path chain) leads) leads
