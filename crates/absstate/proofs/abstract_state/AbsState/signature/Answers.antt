use Rattle.std.proofs.Common.{◌≡◌, ap, ◌∙◌, ℕ, List, length, take, drop, refl}
use Rattle.absstate.specs.Signatures.{links_among, state_links, mark_bits, margins_of, value_bits, values_hash}
use Rattle.absstate.specs.declared.abstract_state.TheConstants.{REGISTERS, VALUES}
use Rattle.absstate.specs.declared.abstract_state.AbstractValue.{AbstractValue}
use Rattle.absstate.specs.declared.links.Links.{Links}
use Rattle.absstate.specs.declared.margins.Margins.{Margins}
use Rattle.absstate.specs.declared.signature.MarkBits.{MarkBits}
use Rattle.absstate.specs.declared.signature.StateSignature.{StateSignature}
use Rattle.absstate.proofs.abstract_state.AbsState.signature.Goals as goal

-- signatures of the same parts
abbrev made : ℕ → ℕ → MarkBits → Margins → ℕ → Links → StateSignature
made r g m w b l = record { registers = r; groups = g; marks = m; margins = w; values = b; links = l }

of_parts : {r r' g g' b b' : ℕ} {m m' : MarkBits} {w w' : Margins} {l l' : Links} → r ≡ r' → g ≡ g' → m ≡ m' → w ≡ w' → b ≡ b' → l ≡ l' → made r g m w b l ≡ made r' g' m' w' b' l'
of_parts r g m w b l = rw (r, g, m, w, b, l) refl

-- the links of all values
all_links : {D : Type 0} (values : List (AbstractValue D)) (n : ℕ) → n ≡ VALUES → links_among values n ≡ state_links values
unfolding state_links
all_links values n all = ap (links_among values) all

pub returns : goal.returns
returns g c =
    let values = c.values_of-values.ensures.values in
    let count : length c.values_of-values.result.now ≡ VALUES = ap (λ (values : List (AbstractValue _)). length values) values ∙ c.values_of-values.ensures.count in
    of_parts
    (c.value_bits.ensures ∙ ap (value_bits g.D.Domain.ops 0 c.args.self.now.proved) (c.split_at.ensures.front ∙ ap (take REGISTERS) values))
    (c.value_bits-2.ensures ∙ ap (value_bits g.D.Domain.ops REGISTERS c.args.self.now.proved) (c.split_at.ensures.back ∙ ap (drop REGISTERS) values))
    (c.mark_bits.ensures ∙ ap (mark_bits 0) c.requires)
    (c.margins_of.ensures.value ∙ ap (margins_of g.D.Domain.ops) values)
    (c.values_hash.ensures ∙ ap (values_hash g.D.Domain.ops) values)
    (c.links_of.ensures ∙ all_links _ _ count ∙ ap state_links values)
